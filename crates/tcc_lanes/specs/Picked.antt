-- Cycles whose links are picked from the last backwards, each from the lowest number.
use Rattle.std.specs.Prelude.{ℕ, ◌≤◌, ◌≡◌, ◌+◌, List, [], ◌∷◌, All, reverse}
use Rattle.tcc_graph.specs.Levels.{Judged}
use Rattle.tcc_graph.specs.Links.{IsLink, cost, link_cost, link_from, link_to}
use Rattle.tcc_graph.specs.Routes.{IsCycle, LinksLead}
use Rattle.tcc_graph.specs.declared.link.Link.{Link}
use Rattle.tcc_least.specs.Shapes.{NoneBelow}
use Rattle.tcc_lanes.specs.Among.{IsAmong}

-- a link of q steps leads from u to v, and links from s to u cost the rest of n
pub record IsLastAt (j : Judged) (s : ℕ) (v : ℕ) (n : ℕ) (u : ℕ) (q : ℕ) : Type 0 where
  pub link : (l : Link) × (link_from l ≡ u) × (link_to l ≡ v) × IsLink j l × (link_cost l ≡ q)
  pub way : (front : List Link) × LinksLead j s u front × (cost front + q ≡ n)

-- and no such link begins at a lower number
pub record IsLowestLast (j : Judged) (s : ℕ) (v : ℕ) (n : ℕ) (u : ℕ) (q : ℕ) : Type 0 where
  pub last : IsLastAt j s v n u q
  pub lowest : (w : ℕ) (p : ℕ) → IsLastAt j s v n w p → u ≤ w

-- the numbers from which the links of a way from s to v that costs n are picked: from the last backwards, each the lowest
abbrev pub ArePicked : Judged → ℕ → ℕ → ℕ → List ℕ → Type 0
ArePicked j s v n [] = (v ≡ s) × (n ≡ 0)
ArePicked j s v n (u ∷ picks) = (q : ℕ) × IsLowestLast j s v n u q × ((m : ℕ) × (m + q ≡ n) × ArePicked j s u m picks)

-- no cycle costs less than n, and all links of those that cost n are among the members
pub record HasAllAmong (j : Judged) (members : List ℕ) (n : ℕ) : Type 0 where
  pub none : NoneBelow j n
  pub all : (s : ℕ) (links : List Link) → IsCycle j s links → cost links ≡ n → All (IsAmong members) links

-- no cycle that costs n starts below s
abbrev pub IsLowestStart : Judged → ℕ → ℕ → Type 0
IsLowestStart j n s = (t : ℕ) (links : List Link) → IsCycle j t links → cost links ≡ n → s ≤ t

-- the transactions of a cycle that costs n, in its order: it starts at the lowest, and its links are picked
abbrev pub IsPickedAround : Judged → ℕ → List ℕ → Type 0
IsPickedAround j n circle = (s : ℕ) × IsLowestStart j n s × ArePicked j s s n (reverse circle)
