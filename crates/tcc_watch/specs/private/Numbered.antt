-- Tables by the numbers of names.
use Rattle.std.specs.Prelude.{ℕ, suc, ◌<◌, ◌≡◌, nat_eq, if◌then◌else◌, List, [], ◌∷◌, length, slice_index_or}
use Rattle.std.specs.Cmp.Lexicographic.{pointwise}

-- the number of a name; where it isn't among the names, how many these are
abbrev pub number_in : List ℕ → List (List ℕ) → ℕ
number_in x [] = 0
number_in x (name ∷ names) = if pointwise nat_eq x name then 0 else suc (number_in x names)

-- each of the names is there once
abbrev pub AreApart : List (List ℕ) → Type 0
AreApart names = (i k : ℕ) → i < length names → k < length names → slice_index_or names i [] ≡ slice_index_or names k [] → i ≡ k
