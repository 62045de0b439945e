-- Tables, as lists of rows.
use Rattle.std.specs.Prelude.{ℕ, List, [], slice_index_or}

-- a row of a table, empty past its end
abbrev pub row_of : {X : Type 0} → List (List X) → ℕ → List X
row_of table a = slice_index_or table a []
