-- Tables of names, each of which has a number.
use Rattle.std.specs.Prelude.{ℕ, Bool, ◌≡◌, ◌<◌, nat_eq, if◌then◌else◌, List, [], ◌∷◌, ◌++◌, length, slice_index_or}
use Rattle.std.specs.List.{list_any}
use Rattle.std.specs.Cmp.Lexicographic.{pointwise}

-- the name is at this number in the table
pub record IsNumber (names : List (List ℕ)) (name : List ℕ) (n : ℕ) : Type 0 where
  pub within : n < length names
  pub named : slice_index_or names n [] ≡ name

-- whether the name is among the names
abbrev pub is_symbol : List ℕ → List (List ℕ) → Bool
is_symbol name names = list_any (pointwise nat_eq name) names

-- the names, with one more unless it is among them
abbrev pub with_symbol : List ℕ → List (List ℕ) → List (List ℕ)
with_symbol name names = if is_symbol name names then names else names ++ name ∷ []
