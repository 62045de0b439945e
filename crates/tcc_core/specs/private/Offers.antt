-- Ways that are offered to transactions, and marks of what session pairs have reached.
use Rattle.std.specs.Prelude.{ℕ, ◌≡◌, ◌<◌, ◌≤◌, ◌+◌, ◌⊎◌, Option, Some, List, length, slice_index, All, Contains}
use Rattle.tcc_derive.specs.Prices.{Tables, cost_at, IsLater}
use Rattle.tcc_core.specs.Rows.{in_row}
use Rattle.tcc_core.specs.private.Queues.{Queue}
use Rattle.tcc_core.specs.declared.bucket_queue.TheConstants.{BUCKETS}

-- costs after ways were offered: each is as it was, or is less, and more than the floor
pub record IsLower (floor : ℕ) (old new : List ℕ) : Type 0 where
  pub long : length new ≡ length old
  pub each : (v : ℕ) → v < length old → (slice_index new v ≡ slice_index old v) ⊎ ((floor < slice_index new v) × (slice_index new v ≤ slice_index old v))

-- Costs after exactly such ways were offered, where a way leads to v at a cost of n. None is greater than a way that costs more than the
-- floor, and one that has changed is that of a way.
pub record IsOffered (IsOne : ℕ → ℕ → Type 0) (floor : ℕ) (old new : List ℕ) : Type 0 where
  pub lower : IsLower floor old new
  pub least : (v n : ℕ) → v < length old → IsOne v n → floor < n → slice_index new v ≤ n
  pub from : (v : ℕ) → v < length old → (slice_index new v ≡ slice_index old v) ⊎ IsOne v (slice_index new v)

-- from a transaction at cost d a link of this list leads on to v, a number from s upward; it costs at most `left`, and the whole way n
abbrev pub IsWayBy : List (ℕ × ℕ) → ℕ → ℕ → ℕ → ℕ → ℕ → Type 0
IsWayBy links s d left v n = (s ≤ v) × (c : ℕ) × Contains links (v, c) × (c ≤ left) × (d + c ≡ n)

-- From u, at cost d, a cheapest link leads on to v, a number from s upward. The whole way costs n, which is within the cap.
abbrev pub IsWayOn : Tables → ℕ → ℕ → ℕ → ℕ → ℕ → ℕ → Type 0
IsWayOn t s u d cap v n = (s ≤ v) × (c : ℕ) × (cost_at t u v ≡ Some c) × (d + c ≤ cap) × (d + c ≡ n)

-- a mark for each number: no transaction from the mark up to the number costs more than a link that costs 1 from the floor
pub record IsMarked (floor : ℕ) (costs marks : List ℕ) : Type 0 where
  pub long : length marks ≡ length costs
  pub each : (last v : ℕ) → last < length costs → slice_index marks last ≤ v → v ≤ last → slice_index costs v ≤ floor + 1

-- a way on from what the row has
abbrev pub IsWayOver : Tables → ℕ → List (Option ℕ) → ℕ → ℕ → ℕ → Type 0
IsWayOver t s row cap v n = (u : ℕ) × (d : ℕ) × (in_row row u ≡ Some d) × IsWayOn t s u d cap v n

-- From a transaction at cost d these links may be offered, as far as one costs at most `left`. They lead to transactions, and no way over
-- one goes past the window.
pub record MayOffer (links : List (ℕ × ℕ)) (d left : ℕ) (queue : Queue) : Type 0 where
  pub within : All (λ p. p.0 < length queue.costs) links
  pub small : queue.floor < 2147483648
  pub so_far : d ≤ queue.floor
  pub short : left < BUCKETS

-- From u, at cost d, a cheapest link that costs at most `left` leads on to v, a number from s upward. The whole way costs n.
abbrev pub IsLinkWay : Tables → ℕ → ℕ → ℕ → ℕ → ℕ → ℕ → Type 0
IsLinkWay t s u d left v n = (s ≤ v) × (c : ℕ) × (cost_at t u v ≡ Some c) × (c ≤ left) × (d + c ≡ n)

-- costs after such ways were offered, where those by session links may be missing
pub record IsOfferedBy (t : Tables) (s u d left floor : ℕ) (old new : List ℕ) : Type 0 where
  pub lower : IsLower floor old new
  pub least : (v n : ℕ) → v < length old → IsLinkWay t s u d left v n → floor < n → (IsLater t u v × (d + 1 ≡ n)) ⊎ (slice_index new v ≤ n)
  pub from : (v : ℕ) → v < length old → (slice_index new v ≡ slice_index old v) ⊎ IsLinkWay t s u d left v (slice_index new v)
