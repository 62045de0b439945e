-- The order that runs encode.
use Rattle.std.specs.Prelude.{ℕ, ◌<◌, ◌≡◌, ◌+◌, ◌==◌, nat_lt, if◌then◌else◌, List, [], ◌∷◌, ◌++◌, All, length, filter, drop}
use Rattle.std.specs.List.{range_with_len}
use Rattle.tcc_reads.specs.History.{History}
use Rattle.tcc_cert.specs.declared.large.Run.{Run}

-- the number of the first committed transaction of a session; if it has none, that of the first one after it
abbrev pub first_of : History → ℕ → ℕ
first_of h session = 1 + length (filter (λ e. nat_lt e.owner session) (drop 1 h.entries))

-- where each session goes on after a run
abbrev pub next_behind : (ℕ → ℕ) → Run → ℕ → ℕ
next_behind next run session = next session + (if session == run.session then run.count else 0)

-- for each run as many transactions of its session as it has, where each session goes on from `next`
abbrev pub told_from : (ℕ → ℕ) → List Run → List ℕ
told_from next [] = []
told_from next (run ∷ runs) = range_with_len (next run.session) run.count ++ told_from (next_behind next run) runs

-- the order that runs encode: `init`, and then for each run the next transactions of its session
abbrev pub order_of : History → List Run → List ℕ
order_of h runs = 0 ∷ told_from (first_of h) runs

-- how many transactions of a session the runs have
abbrev pub told_of : List Run → ℕ → ℕ
told_of [] session = 0
told_of (run ∷ runs) session = (if session == run.session then run.count else 0) + told_of runs session

-- each run is of a session of the history, and the runs of each session have all its committed transactions
pub record AreWhole (h : History) (runs : List Run) : Type 0 where
  pub sessions : All (λ run. run.session < length h.sessions) runs
  pub sizes : (session : ℕ) → session < length h.sessions → first_of h session + told_of runs session ≡ first_of h (session + 1)
