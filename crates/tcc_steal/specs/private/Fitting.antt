-- What a machine keeps about itself.
use Rattle.std.specs.Prelude.{ℕ, ◌<◌, ◌≤◌, ◌≡◌, List, length, All, Option, None, Some}
use Rattle.tcc_txn.specs.declared.limits.TheConstants.{MAX_COUNT}
use Rattle.tcc_steal.specs.declared.desk.Begun.{Begun}
use Rattle.tcc_steal.specs.declared.desk.WorkerState.{WorkerState}

abbrev pub HasRow : ℕ → Option Begun → Type 0
HasRow n None = Unit {0}
HasRow n (Some b) = length b.search.row ≡ n

-- the starts left are below this count and at most as many, and each row has a place for each
pub record IsFit (starts : ℕ) (left : List ℕ) (desks : List WorkerState) : Type 0 where
  pub most : starts ≤ MAX_COUNT
  pub few : length left ≤ starts
  pub below : All (λ s. s < starts) left
  pub rows : All (λ desk. HasRow starts desk.search) desks
