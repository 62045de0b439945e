-- How a book is stored in memory.
use Rattle.std.specs.Prelude.{◌≡◌, ◌≢◌, ◌⊎◌, ℕ, ◌+◌, ◌<◌, ◌≤◌, All, true, if◌then◌else◌, List, []}
use Rattle.std.specs.Prelude.{◌∷◌, ◌++◌, length, map, slice_index_or, Some, is_some, Result, Ok}
use Rattle.std.specs.Prelude.{Err, false}
use Rattle.std.specs.List.{list_all}
use Rattle.std.specs.Global.{Vec}
use Rattle.std.specs.declared.hash.BuildHasherDefault.{BuildHasherDefault}
use Rattle.std.specs.declared.hash.FoldHasher.{FoldHasher}
use Rattle.indexmap.specs.IndexMap.{IndexMap, IsUnique, Updates, get, index_map_len, keys}
use Rattle.tcc_txn.specs.Bytes.{same}
use Rattle.tcc_txn.specs.Transactions.{Transaction}
use Rattle.tcc_txn.specs.declared.limits.TheConstants.{MAX_SESSIONS, MAX_TRANSACTIONS}
use Rattle.tcc_book.specs.declared.entry.Entry.{Entry}
use Rattle.tcc_book.specs.declared.fault.RecordFault.{RecordFault}
use Rattle.tcc_book.specs.declared.fault.RecordFault.TheVariants as refused

-- the positions of the session's records in a journal whose first position is n
abbrev pub positions_from : List ℕ → ℕ → List Entry → List ℕ
positions_from session n [] = []
positions_from session n (e ∷ es) = if same session e.session then n ∷ positions_from session (n + 1) es else positions_from session (n + 1) es

abbrev pub Positions : Type 0
Positions = IndexMap (List ℕ) (Vec ℕ) (BuildHasherDefault FoldHasher)

-- each opened session has the positions of its records; each record is of an opened session; no name is opened twice; there
-- are not too many of either
pub record IsStored (positions : Positions) (journal : List Entry) : Type 0 where
  pub each : (session : List ℕ) (list : Vec ℕ) → get same positions session ≡ Some list → list.items ≡ positions_from session 0 journal
  pub known : list_all (λ e. is_some (get same positions e.session)) journal ≡ true
  pub once : IsUnique same positions
  pub few : index_map_len positions ≤ MAX_SESSIONS
  pub short : length journal ≤ MAX_TRANSACTIONS

-- the session's list has other positions now, and all else is as before
pub record Relists (old : Positions) (session : List ℕ) (list : Vec ℕ) (items : List ℕ) (new : Positions) : Type 0 where
  pub found : get same old session ≡ Some list
  pub list' : Vec ℕ
  pub listed : list'.items ≡ items
  pub updates : Updates same old new session (Some list')
  pub names : keys new ≡ keys old
  pub once : IsUnique same new

-- the lists have the positions that they had
abbrev pub Keeps : Positions → List ℕ → Positions → Type 0
Keeps old session new = (new ≡ old) ⊎ ((list : Vec ℕ) × Relists old session list list.items new)

-- a position is added to the list of a session, if it has `held` of them; or the lists stay
abbrev pub AddsPosition : {U : Type 0} → Positions → List ℕ → ℕ → ℕ → Result U RecordFault → Positions → Type 0
AddsPosition old session held position (Ok done) new =
    (list : Vec ℕ) × (length list.items ≡ held) × Relists old session list (list.items ++ position ∷ []) new
AddsPosition old session held position (Err (refused.Full most)) new = ⊥
AddsPosition old session held position (Err (refused.Torn torn)) new =
    (torn ≡ session) × ((list : Vec ℕ) → get same old session ≡ Some list → length list.items ≢ held) × Keeps old session new
AddsPosition old session held position (Err refused.NoMemory) new = Keeps old session new

abbrev pub no_txn : Transaction
no_txn = record { ops = []; committed = false }

-- the transaction at a position of the journal
abbrev pub txn_at : List Entry → ℕ → Transaction
txn_at journal position = slice_index_or (map (λ e. e.txn) journal) position no_txn

-- a session with its transactions
abbrev pub part_at : List Entry → List ℕ × Vec ℕ → List ℕ × List Transaction
part_at journal (session, positions) = (session, map (txn_at journal) positions.items)

-- all positions of these sessions are in the journal
abbrev pub AreWithin : List Entry → List (List ℕ × Vec ℕ) → Type 0
AreWithin journal sessions = All (λ e. All (λ position. position < length journal) e.1.items) sessions
