-- Texts as bytes.
use Rattle.std.specs.Prelude.{ℕ, Bool, true, not, ◌==◌, nat_eq, List, [], ◌∷◌}
use Rattle.std.specs.Cmp.Lexicographic.{pointwise}

-- two texts of the same bytes
abbrev pub same : List ℕ → List ℕ → Bool
same a b = pointwise nat_eq a b

-- the first of several digits is not 0
abbrev pub has_no_leading_zero : List ℕ → Bool
has_no_leading_zero [] = true
has_no_leading_zero (digit ∷ []) = true
has_no_leading_zero (digit ∷ next ∷ rest) = not (digit == 48)
