-- How the costs of a search relate to its row, and how far they grow.
use Rattle.std.specs.Prelude.{ℕ, ◌<◌, ◌≤◌, ◌≡◌, ◌+◌, ◌*◌, List, [], ◌∷◌, length, Option, None, Some, slice_index}
use Rattle.tcc_txn.specs.declared.limits.TheConstants.{MAX_COUNT}
use Rattle.tcc_core.specs.Rows.{in_row}
use Rattle.tcc_core.specs.Searches.{Search}
use Rattle.tcc_core.specs.declared.bucket_queue.TheConstants.{BUCKETS}

-- how many transactions the row has
abbrev pub count_joined : List (Option ℕ) → ℕ
count_joined [] = 0
count_joined (None ∷ row) = count_joined row
count_joined (Some c ∷ row) = count_joined row + 1

-- There are few transactions. Those that have joined are settled at no more than the floor, and no others are. With each that joins the
-- floor rises by at most one link, so it stays small, and ways as cheap as the floor are known.
pub record IsBounded (search : Search) (floor : ℕ) : Type 0 where
  pub below : search.start < length search.row
  pub few : length search.row ≤ MAX_COUNT
  pub long : length search.costs ≡ length search.row
  pub joined : (v : ℕ) (c : ℕ) → in_row search.row v ≡ Some c → (0 < c) × (c ≤ floor) × (slice_index search.costs v ≡ 0)
  pub outside : (v : ℕ) → v < length search.row → in_row search.row v ≡ None → 0 < slice_index search.costs v
  pub spent : floor ≤ BUCKETS * count_joined search.row
  pub small : floor < 2147483648
  pub known : floor ≤ search.limit
