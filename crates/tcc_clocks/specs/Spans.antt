-- The ranges of the transactions of a block of sessions among all, and among the writers of a key.
use Rattle.std.specs.Prelude.{ℕ, ◌<◌, ◌≤◌, ◌+◌, List, length, slice_index, slice_index_or, ◌≡◌}
use Rattle.tcc_reads.specs.History.{History}
use Rattle.tcc_graph.specs.Keys.{key_at, writers}
use Rattle.tcc_clocks.specs.declared.latest.TheConstants.{WIDE}

-- the first `end` numbers are less than the bound, and no others are
pub record IsCountBelow (numbers : List ℕ) (bound : ℕ) (end : ℕ) : Type 0 where
  pub within : end ≤ length numbers
  pub less : (k : ℕ) → k < end → slice_index numbers k < bound
  pub others : (k : ℕ) → k < length numbers → slice_index numbers k < bound → k < end

-- the numbers from `low` to below `high` begin and end at these indices
pub record IsSpan (numbers : List ℕ) (low : ℕ) (high : ℕ) (start : ℕ) (end : ℕ) : Type 0 where
  pub first : IsCountBelow numbers low start
  pub last : IsCountBelow numbers high end

-- for each key the writers from `low` to below `high` begin and end at its span
pub record AreSpans (h : History) (low : ℕ) (high : ℕ) (spans : List (ℕ × ℕ)) (end : ℕ) : Type 0 where
  pub long : length spans ≡ end
  pub each : (key_index : ℕ) → key_index < end
      → IsSpan (writers h (key_at h key_index)) low high (slice_index_or spans key_index (0, 0)).0 (slice_index_or spans key_index (0, 0)).1

-- the transactions of the sessions of a block are among the numbers from `low` to below `high`
abbrev pub AreBounds : List ℕ → ℕ → ℕ → ℕ → Type 0
AreBounds owners from low high =
    (b : ℕ) → b < length owners → from ≤ slice_index owners b → slice_index owners b < from + WIDE → (low ≤ b) × (b < high)
