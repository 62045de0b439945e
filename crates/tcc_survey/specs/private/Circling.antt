-- Back along causal pairs over transactions that have no place in an order.
use Rattle.std.specs.Prelude.{ℕ, ◌+◌, ◌-◌, ◌<◌, ◌≡◌, ◌≢◌, ◌==◌, false, Bool, List, length, slice_index_or, All}
use Rattle.std.specs.List.{list_any}
use Rattle.tcc_reads.specs.History.{History, count}
use Rattle.tcc_graph.specs.Relations.{IsCausalPair}
use Rattle.tcc_bits.specs.Bits.{is_marked}

-- a trail of transactions, of which each follows the next one, none comes twice, and those on it are marked as seen; and where it goes on
pub record IsTrail (h : History) (placed : List ℕ) (seen : List Bool) (trail : List ℕ) (at : ℕ) : Type 0 where
  pub inside : All (λ t. t < count h) trail
  pub each : (k : ℕ) → k + 1 < length trail → IsCausalPair h (slice_index_or trail (k + 1) 0) (slice_index_or trail k 0)
  pub once : (i : ℕ) (k : ℕ) → i < k → k < length trail → slice_index_or trail i 0 ≢ slice_index_or trail k 0
  pub below : at < count h
  pub left : is_marked placed at ≡ false
  pub next : 0 < length trail → IsCausalPair h at (slice_index_or trail (length trail - 1) 0)
  pub long : length seen ≡ count h
  pub marks : (t : ℕ) → t < count h → slice_index_or seen t false ≡ list_any (λ s. s == t) trail
