-- The rules that no cycle costs less, above a cost of 4.
use Rattle.std.specs.Prelude.{ℕ, ◌<◌, ◌≤◌, ◌≡◌, List, [], ◌∷◌, All, AllPairs, Contains, length}
use Rattle.tcc_reads.specs.History.{count}
use Rattle.tcc_graph.specs.Keys.{key_at, keys}
use Rattle.tcc_graph.specs.Levels.{Judged}
use Rattle.tcc_graph.specs.Links.{IsReason, cost}
use Rattle.tcc_graph.specs.Routes.{IsCycle}
use Rattle.tcc_graph.specs.declared.link.Link.{Link}
use Rattle.tcc_graph.specs.declared.step.Step.{Step}
use Rattle.tcc_least.specs.Shapes.{NoneBelow}
use Rattle.tcc_lanes.specs.Among.{HasCheaperIntoInit, IsAmong}
use Rattle.tcc_judge.specs.Orders.{BreaksPair}
use Rattle.tcc_judge.specs.Spanned.{IsBounded}
use Rattle.tcc_rules.specs.Asked.{Asked, as_whole, at_each}
use Rattle.tcc_judge.specs.declared.verdict.LargeRule.{LargeRule}
use Rattle.tcc_judge.specs.declared.verdict.LargeRule.TheVariants.{Onward, Limits, Cheaper}

-- these are committed transactions, ascending, and indices of keys. A cycle that costs less than a cost up to `most` is among the
-- transactions, unless some transaction comes into `init` for less by one of the keys. Each derived link into `init` is by one of these
-- keys
pub record HasAllBelow (j : Judged) (most : ℕ) (members : List ℕ) (key_indices : List ℕ) : Type 0 where
  pub there : 0 < count j.history
  pub inside : All (λ v. v < count j.history) members
  pub aside : All (λ v. 0 < v) members
  pub ascend : AllPairs (λ u v. u < v) members
  pub keys : All (λ k. k < length (keys j.history)) key_indices
  pub all : (n : ℕ) → n ≤ most → (s : ℕ) (links : List Link) → IsCycle j s links → cost links < n → (HasCheaperIntoInit j key_indices n → ⊥)
      → All (IsAmong members) links
  pub named : (b : ℕ) (x : List ℕ) (c : ℕ) (walk : List Step) → IsReason j b 0 x c walk
      → (k : ℕ) × Contains key_indices k × (key_at j.history k ≡ x)

-- in turn, with an order
abbrev pub onward_rules : Judged → List ℕ → ℕ → List (Asked LargeRule)
onward_rules j order most =
    at_each Onward (BreaksPair j.history order) ∷ as_whole Limits (IsBounded j order most) ∷ as_whole Cheaper (NoneBelow j most) ∷ []
