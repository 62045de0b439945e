-- The first of some names.
use Rattle.std.specs.Prelude.{ℕ, ◌≡◌, false, List, Contains, All}
use Rattle.std.specs.Ordering.{is_lt}
use Rattle.tcc_reads.specs.Sources.{name_cmp}

-- the name is one of the names, and none of them comes before it
abbrev pub IsFirstName : List (List ℕ) → List ℕ → Type 0
IsFirstName names x = Contains names x × All (λ y. is_lt (name_cmp y x) ≡ false) names
