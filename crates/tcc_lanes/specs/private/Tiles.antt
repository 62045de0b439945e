-- A list, 64 items at a time.
use Rattle.std.specs.Prelude.{ℕ, ◌<◌, ◌≡◌, ◌+◌, ◌-◌, List, length, min, slice_index}

-- the items from one place up to another, or up to the last
pub record IsTile (xs : List ℕ) (from : ℕ) (last : ℕ) (tile : List ℕ) : Type 0 where
  pub long : length tile ≡ min (length xs) last - from
  pub each : (i : ℕ) → i < length tile → slice_index tile i ≡ slice_index xs (from + i)
