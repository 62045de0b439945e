-- Orders of the numbers below a count, by a relation that says which comes before which.
use Rattle.std.specs.Prelude.{◌≡◌, ◌≢◌, ℕ, Bool, true, List, [], ◌∷◌}
use Rattle.std.specs.declared.cmp.Ordering.TheVariants.{Greater}
use Rattle.std.specs.Ordering.{nat_cmp}
use Rattle.std.specs.Cmp.Lexicographic.{slice_cmp}
use Rattle.tcc_graph.specs.Orders.{Before, IsNumbering}

-- a numbering in which each pair of the relation is in order
pub record IsOrderOf (precedes : ℕ → ℕ → Bool) (n : ℕ) (order : List ℕ) : Type 0 where
  pub numbering : IsNumbering n order
  pub ordered : (a b : ℕ) → precedes a b ≡ true → Before order a b

-- the first such numbering, compared as lists
pub record IsFirstOf (precedes : ℕ → ℕ → Bool) (n : ℕ) (order : List ℕ) : Type 0 where
  pub is_order : IsOrderOf precedes n order
  pub first : (other : List ℕ) → IsOrderOf precedes n other → slice_cmp nat_cmp order other ≢ Greater

-- pairs of the relation lead from a over the numbers between to b
abbrev pub Joins : (ℕ → ℕ → Bool) → ℕ → ℕ → List ℕ → Type 0
Joins precedes a b [] = precedes a b ≡ true
Joins precedes a b (m ∷ between) = (precedes a m ≡ true) × Joins precedes m b between

-- some number comes before itself, over numbers between
abbrev pub HasCircle : (ℕ → ℕ → Bool) → Type 0
HasCircle precedes = (a : ℕ) × (between : List ℕ) × Joins precedes a a between
