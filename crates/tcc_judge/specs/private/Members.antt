-- Which places are at or before the last one of an earlier place, and what is marked.
use Rattle.std.specs.Prelude.{ℕ, ◌<◌, ◌≤◌, ◌≡◌, ◌⊎◌, ◌↔◌, Bool, true, false, List, Contains, length, slice_index, slice_index_or}

-- a place is not after the last one of a place up to it that has one
abbrev pub IsUnder : List ℕ → ℕ → Type 0
IsUnder lasts place = (i : ℕ) × (i ≤ place) × (0 < slice_index lasts i) × (place ≤ slice_index lasts i)

-- the greatest of the first lasts, 0 where there is none
pub record IsFar (lasts : List ℕ) (end : ℕ) (far : ℕ) : Type 0 where
  pub attained : (far ≡ 0) ⊎ ((i : ℕ) × (i < end) × (slice_index lasts i ≡ far))
  pub highest : (i : ℕ) → i < end → slice_index lasts i ≤ far

-- the transaction is marked
abbrev pub IsMarked : List Bool → ℕ → Type 0
IsMarked marks n = (n < length marks) × (slice_index_or marks n false ≡ true)

-- the marked transactions at the first places are those that are not after the last one of a place up to them
pub record AreMarkedUnder (count : ℕ) (order : List ℕ) (lasts : List ℕ) (end : ℕ) (marks : List Bool) : Type 0 where
  pub long : length marks ≡ count
  pub each : (place : ℕ) → place < end → (slice_index_or marks (slice_index order place) false ≡ true) ↔ IsUnder lasts place

-- numbers ascend
abbrev pub DoAscend : List ℕ → Type 0
DoAscend list = (i j : ℕ) → i < j → j < length list → slice_index list i < slice_index list j

-- the list has exactly the numbers that are meant, ascending
pub record AreListed (Is : ℕ → Type 0) (list : List ℕ) : Type 0 where
  pub ascend : DoAscend list
  pub each : (n : ℕ) → Contains list n ↔ Is n

-- and at most `most` of them
pub record AreThose (most : ℕ) (Is : ℕ → Type 0) (list : List ℕ) : Type 0 where
  pub listed : AreListed Is list
  pub few : length list ≤ most

-- the marked transactions at the first places are those to which something leads back
pub record AreMarkedLed (count : ℕ) (order : List ℕ) (lasts : List ℕ) (end : ℕ) (marks : List Bool) : Type 0 where
  pub long : length marks ≡ count
  pub each : (place : ℕ) → place < end → (slice_index_or marks (slice_index order place) false ≡ true) ↔ (0 < slice_index lasts place)

-- those are marked that both lists mark
pub record AreMarkedBoth (one : List Bool) (other : List Bool) (end : ℕ) (marks : List Bool) : Type 0 where
  pub long : length marks ≡ end
  pub each : (v : ℕ) → v < end
      → (slice_index_or marks v false ≡ true) ↔ ((slice_index_or one v false ≡ true) × (slice_index_or other v false ≡ true))
