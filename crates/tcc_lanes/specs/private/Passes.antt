-- The two passes along an order: forward from where derived links that lead back end, and backward from where they begin.
use Rattle.std.specs.Prelude.{ℕ, ◌<◌, ◌≤◌, ◌≡◌, ◌+◌, ◌⊎◌, ◌↔◌, Bool, true, false, List, length, slice_index, slice_index_or}
use Rattle.tcc_reads.specs.History.{History, count}
use Rattle.tcc_graph.specs.Levels.{Judged}
use Rattle.tcc_graph.specs.Relations.{IsCausalPair}
use Rattle.tcc_lanes.specs.Nearness.{IsClosing}
use Rattle.tcc_lanes.specs.declared.pricing.TheConstants.{NONE}
use Rattle.tcc_lanes.specs.private.Marks.{IsAt}

-- the last position from which one of these links leads to the transaction at a place
abbrev pub last_at : List ℕ → List ℕ → ℕ → ℕ
last_at order lasts place = slice_index lasts (slice_index order place)

-- the least price of a link from the transaction at a place
abbrev pub price_at : List ℕ → List ℕ → ℕ → ℕ
price_at order prices place = slice_index prices (slice_index order place)

-- one of them leads back from after a place to it or before it
abbrev pub IsCovered : List ℕ → List ℕ → ℕ → Type 0
IsCovered order lasts place = (i : ℕ) × (i ≤ place) × (place < last_at order lasts i)

-- the first places are marked that are covered
pub record AreCovered (order : List ℕ) (lasts : List ℕ) (end : ℕ) (covered : List Bool) : Type 0 where
  pub long : length covered ≡ end
  pub each : (place : ℕ) → place < end → (slice_index_or covered place false ≡ true) ↔ IsCovered order lasts place

-- each place from one to before another is covered
abbrev pub AreAllCovered : List Bool → ℕ → ℕ → Type 0
AreAllCovered covered from end = (at : ℕ) → from ≤ at → at < end → slice_index_or covered at false ≡ true

-- one ends at an earlier place, from which each place up to this one is covered
abbrev pub IsReachedOn : List ℕ → List ℕ → List Bool → ℕ → Type 0
IsReachedOn order lasts covered place = (i : ℕ) × (i < place) × (0 < last_at order lasts i) × AreAllCovered covered i place

-- the first places are marked that are reached
pub record AreReachedOn (order : List ℕ) (lasts : List ℕ) (covered : List Bool) (end : ℕ) (reached : List Bool) : Type 0 where
  pub long : length reached ≡ end
  pub each : (place : ℕ) → place < end → (slice_index_or reached place false ≡ true) ↔ IsReachedOn order lasts covered place

-- one of them begins at this price, at a later place up to which each place is covered
abbrev pub IsBeyond : List ℕ → List ℕ → List Bool → ℕ → ℕ → Type 0
IsBeyond order prices covered place price =
    (k : ℕ) × (place < k) × (k < length order) × AreAllCovered covered place k × (price_at order prices k ≡ price)

-- the least of such prices, or `NONE` if there is none
pub record IsLeastPrice (Is : ℕ → Type 0) (least : ℕ) : Type 0 where
  pub high : least ≤ NONE
  pub attained : (least ≡ NONE) ⊎ Is least
  pub lowest : (price : ℕ) → Is price → least ≤ price

-- the least such price for each place from one on
pub record AreBeyond (order : List ℕ) (prices : List ℕ) (covered : List Bool) (from : ℕ) (beyond : List ℕ) : Type 0 where
  pub long : length beyond ≡ length order
  pub each : (place : ℕ) → from ≤ place → place < length order → IsLeastPrice (IsBeyond order prices covered place) (slice_index beyond place)

-- one price for each transaction, none above `NONE`
pub record ArePricesOf (count : ℕ) (prices : List ℕ) : Type 0 where
  pub long : length prices ≡ count
  pub high : (b : ℕ) → b < count → slice_index prices b ≤ NONE

-- of the first transactions, those at which one ends are marked with the first lane, and no others are
pub record AreEnds (lasts : List ℕ) (end : ℕ) (marks : List ℕ) : Type 0 where
  pub long : length marks ≡ end
  pub each : (v : ℕ) → v < end → IsAt marks v 0 ↔ (0 < slice_index lasts v)

-- a pair leads to v from where one ends
abbrev pub IsLedFromEnd : History → List ℕ → ℕ → Type 0
IsLedFromEnd h lasts v = (u : ℕ) × IsCausalPair h u v × (0 < slice_index lasts u)

-- links that lead to v, which is at this place, from where one ends cost at least n
abbrev pub IsComing : History → List ℕ → List ℕ → List Bool → ℕ → ℕ → ℕ → Type 0
IsComing h order lasts covered place v n =
    ((0 < slice_index lasts v) × (n ≡ 0)) ⊎ ((IsLedFromEnd h lasts v × (n ≡ 1)) ⊎ (IsReachedOn order lasts covered place × (n ≡ 2)))

-- links that lead on from v to where one begins, with that one, cost at least n
abbrev pub IsGoing : List ℕ → List ℕ → List Bool → ℕ → ℕ → ℕ → Type 0
IsGoing order prices covered place v n =
    (slice_index prices v ≡ n) ⊎ ((price : ℕ) × IsBeyond order prices covered place price × (price + 1 ≡ n))

-- both together are less than `most`
abbrev pub IsNearAt : History → List ℕ → List ℕ → List ℕ → List Bool → ℕ → ℕ → ℕ → Type 0
IsNearAt h order prices lasts covered most place v =
    (m : ℕ) × (n : ℕ) × IsComing h order lasts covered place v m × IsGoing order prices covered place v n × (m + n < most)

-- at the first places the marked transactions are those that are near
pub record AreNearTo (h : History) (order : List ℕ) (prices : List ℕ) (lasts : List ℕ) (covered : List Bool) (most : ℕ) (end : ℕ) (marks : List Bool) : Type 0 where
  pub long : length marks ≡ count h
  pub each : (place : ℕ) → place < end
      → (slice_index_or marks (slice_index order place) false ≡ true) ↔ IsNearAt h order prices lasts covered most place (slice_index order place)

-- prices and last positions are those of the derived links that lead back
pub record AreClosings (j : Judged) (rank : ℕ → ℕ) (most : ℕ) (prices : List ℕ) (lasts : List ℕ) : Type 0 where
  pub priced : (b : ℕ) → b < count j.history → slice_index prices b < NONE → (a : ℕ) × IsClosing j rank most b a (slice_index prices b)
  pub cheapest : (b a price : ℕ) → IsClosing j rank most b a price → slice_index prices b ≤ price
  pub led : (a : ℕ) → 0 < slice_index lasts a → (b : ℕ) × (price : ℕ) × IsClosing j rank most b a price × (rank b ≡ slice_index lasts a)
  pub last : (b a price : ℕ) → IsClosing j rank most b a price → rank b ≤ slice_index lasts a
