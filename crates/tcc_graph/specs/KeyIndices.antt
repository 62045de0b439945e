-- The index of a key among the keys.
use Rattle.std.specs.Prelude.{ℕ, ◌<◌, ◌≡◌, ◌==◌, false, List, [], length, slice_index_or, bytes_eq}

abbrev pub name_of : List (List ℕ) → ℕ → List ℕ
name_of names k = slice_index_or names k []

-- no name is this one
abbrev pub IsAbsent : List (List ℕ) → List ℕ → Type 0
IsAbsent names x = (k : ℕ) → k < length names → bytes_eq (name_of names k) x ≡ false

-- the name is at i, and nowhere else
pub record StandsAt (names : List (List ℕ)) (x : List ℕ) (i : ℕ) : Type 0 where
  pub within : i < length names
  pub only : (k : ℕ) → k < length names → bytes_eq (name_of names k) x ≡ (k == i)
  pub here : name_of names i ≡ x
