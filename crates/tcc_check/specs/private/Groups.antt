-- Transactions in groups: ends of links by weight, readers by source.
use Rattle.std.specs.Prelude.{ℕ, ◌<◌, ◌≡◌, ◌+◌, ◌++◌, List, [], ◌∷◌, All, drop, length, map, take}

-- how many ends are in these groups
abbrev pub total : List (ℕ × ℕ) → ℕ
total [] = 0
total (group ∷ groups) = group.1 + total groups

-- each of these ends with this weight
abbrev pub weighed : ℕ → List ℕ → List (ℕ × ℕ)
weighed weight ends = map (λ end. (end, weight)) ends

-- the ends, each with the weight of its group
abbrev pub links_by : List (ℕ × ℕ) → List ℕ → List (ℕ × ℕ)
links_by [] ends = []
links_by (group ∷ groups) ends = weighed group.0 (take group.1 ends) ++ links_by groups (drop group.1 ends)

-- each end is in one of them, and none is empty
pub record AreGroupsOf (groups : List (ℕ × ℕ)) (ends : List ℕ) : Type 0 where
  pub all : total groups ≡ length ends
  pub some : All (λ group. 0 < group.1) groups
