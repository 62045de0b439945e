-- An order, run by run.
use Rattle.std.specs.Prelude.{ℕ, ◌<◌, ◌≤◌, ◌≡◌, ◌+◌, ◌++◌, ◌∷◌, [], Bool, true, false, List, All, length, slice_index}
use Rattle.tcc_reads.specs.History.{History, IsBySession, count}
use Rattle.tcc_graph.specs.Orders.{Before, IsNumbering}
use Rattle.tcc_graph.specs.Relations.{IsSessionPair}
use Rattle.tcc_cert.specs.declared.large.Run.{Run}
use Rattle.tcc_judge.specs.Runs.{AreWhole, first_of, told_of, order_of}

-- where the transactions of each session begin; after the last session comes the number of all transactions
pub record AreFirsts (h : History) (firsts : List ℕ) : Type 0 where
  pub long : length firsts ≡ length h.sessions + 1
  pub each : (session : ℕ) → session < length h.sessions + 1 → slice_index firsts session ≡ first_of h session

-- these runs were decoded: where each session goes on, none past its end, and the order so far
pub record IsTold (h : History) (runs : List Run) (firsts : List ℕ) (next : List ℕ) (order : List ℕ) : Type 0 where
  pub begins : AreFirsts h firsts
  pub sessions : All (λ run. run.session < length h.sessions) runs
  pub long : length next ≡ length h.sessions
  pub goes_on : (session : ℕ) → session < length h.sessions → slice_index next session ≡ first_of h session + told_of runs session
  pub within : (session : ℕ) → session < length h.sessions → slice_index next session ≤ first_of h (session + 1)
  pub so_far : order ≡ order_of h runs

-- one more run was decoded; or the session has fewer transactions, whatever runs follow
abbrev pub IsToldOn : History → List Run → Run → List ℕ → List ℕ → List ℕ → Bool → Type 0
IsToldOn h runs run firsts next order true = IsTold h (runs ++ run ∷ []) firsts next order
IsToldOn h runs run firsts next order false = (later : List Run) → AreWhole h (runs ++ run ∷ later) → ⊥

-- transactions are numbered by session, and an order has each of them once, `init` first, and every session pair in order
pub record IsOrdered (h : History) (order : List ℕ) : Type 0 where
  pub numbered : IsBySession h.entries
  pub numbering : IsNumbering (count h) order
  pub some : 0 < length order
  pub init : slice_index order 0 ≡ 0
  pub sessions : (a b : ℕ) → IsSessionPair h a b → Before order a b
