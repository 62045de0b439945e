-- Routes, cycles and distances.
use Rattle.std.specs.Prelude.{ℕ, ◌<◌, ◌≤◌, ◌≡◌, List, [], ◌∷◌, length, All}
use Rattle.tcc_graph.specs.Levels.{Judged}
use Rattle.tcc_graph.specs.Links.{IsLink, link_from, link_to, cost}
use Rattle.tcc_graph.specs.declared.link.Link.{Link}

-- the links lead from a to b, each from where the one before ends
abbrev pub LinksLead : Judged → ℕ → ℕ → List Link → Type 0
LinksLead j a b [] = a ≡ b
LinksLead j a b (l ∷ links) = (link_from l ≡ a) × IsLink j l × LinksLead j (link_to l) b links

-- a route from a to b has at least one link, even if a is b
abbrev pub IsRoute : Judged → ℕ → ℕ → List Link → Type 0
IsRoute j a b links = (0 < length links) × LinksLead j a b links

-- a cycle is a route that ends at its start
abbrev pub IsCycle : Judged → ℕ → List Link → Type 0
IsCycle j s links = IsRoute j s s links

-- the links are a cycle from some start
abbrev pub AreCycle : Judged → List Link → Type 0
AreCycle j links = (s : ℕ) × IsCycle j s links

abbrev pub HasCycle : Judged → Type 0
HasCycle j = (s : ℕ) × (links : List Link) × IsCycle j s links

-- a cycle, and no cycle costs less
pub record IsLeastCycle (j : Judged) (s : ℕ) (links : List Link) : Type 0 where
  pub cycle : IsCycle j s links
  pub least : (t : ℕ) (others : List Link) → IsCycle j t others → cost links ≤ cost others

-- a link that begins and ends at numbers not below s
abbrev pub IsUpward : ℕ → Link → Type 0
IsUpward s l = (s ≤ link_from l) × (s ≤ link_to l)

-- a route from s to v over numbers from s upward alone; walks inside its derived links may pass below s
abbrev pub IsUpwardRoute : Judged → ℕ → ℕ → List Link → Type 0
IsUpwardRoute j s v links = IsRoute j s v links × All (IsUpward s) links

-- the distance from s to v: the least cost of a route over numbers from s upward
pub record IsDistance (j : Judged) (s : ℕ) (v : ℕ) (distance : ℕ) : Type 0 where
  pub attained : (links : List Link) × IsUpwardRoute j s v links × (cost links ≡ distance)
  pub least : (links : List Link) → IsUpwardRoute j s v links → distance ≤ cost links
