-- Links that are picked from the last backwards.
use Rattle.std.specs.Prelude.{ℕ, ◌<◌, ◌≤◌, ◌≡◌, ◌≢◌, ◌+◌, ◌⊎◌, List, Option, MatchOption, slice_index}
use Rattle.std.specs.declared.cmp.Ordering.TheVariants.{Less, Greater}
use Rattle.tcc_reads.specs.History.{History}
use Rattle.tcc_reads.specs.Sources.{name_cmp}
use Rattle.tcc_graph.specs.Relations.{IsCausalPair}
use Rattle.tcc_graph.specs.Levels.{Judged}
use Rattle.tcc_graph.specs.Links.{MayContradict, IsLink, link_from, link_to, link_cost, cost}
use Rattle.tcc_graph.specs.Routes.{LinksLead}
use Rattle.tcc_graph.specs.Ties.{link_cmp}
use Rattle.tcc_graph.specs.declared.link.Link.{Link}

-- the link leads into v, and links from s to where it begins cost the rest of n
pub record EndsWay (j : Judged) (s : ℕ) (v : ℕ) (n : ℕ) (l : Link) : Type 0 where
  pub to : link_to l ≡ v
  pub link : IsLink j l
  pub way : (front : List Link) × LinksLead j s (link_from l) front × (cost front + link_cost l ≡ n)

-- the first such link
pub record IsFirstLast (j : Judged) (s : ℕ) (v : ℕ) (n : ℕ) (l : Link) : Type 0 where
  pub ends : EndsWay j s v n l
  pub first : (other : Link) → EndsWay j s v n other → link_cmp l other ≢ Greater

-- a link of q steps from u to v, and the first of them
pub record IsFirstOfCost (j : Judged) (u : ℕ) (v : ℕ) (q : ℕ) (l : Link) : Type 0 where
  pub from : link_from l ≡ u
  pub to : link_to l ≡ v
  pub link : IsLink j l
  pub steps : link_cost l ≡ q
  pub first : (other : Link) → link_from other ≡ u → link_to other ≡ v → IsLink j other → link_cost other ≡ q → link_cmp l other ≢ Greater

-- c reads the key x from a, and b, another writer of it, reaches c by a pair
abbrev pub IsContradictedByPair : History → ℕ → ℕ → List ℕ → ℕ → Type 0
IsContradictedByPair h b a x c = MayContradict h b a x c × IsCausalPair h b c

-- the first such reading, by key and by reader
pub record IsFirstContradicted (h : History) (b : ℕ) (a : ℕ) (x : List ℕ) (c : ℕ) : Type 0 where
  pub here : IsContradictedByPair h b a x c
  pub first : (y : List ℕ) (d : ℕ) → IsContradictedByPair h b a y d → (name_cmp x y ≡ Less) ⊎ ((x ≡ y) × (c ≤ d))

-- c reads the key x from a, b is another writer of it, and a table of lengths has n at c
abbrev pub IsContradictedAt : History → List ℕ → ℕ → ℕ → ℕ → List ℕ → ℕ → Type 0
IsContradictedAt h lengths n b a x c = MayContradict h b a x c × (slice_index lengths c ≡ n)

-- the first such reading, by key and by reader
pub record IsFirstContradictedAt (h : History) (lengths : List ℕ) (n : ℕ) (b : ℕ) (a : ℕ) (x : List ℕ) (c : ℕ) : Type 0 where
  pub here : IsContradictedAt h lengths n b a x c
  pub first : (y : List ℕ) (d : ℕ) → IsContradictedAt h lengths n b a y d → (name_cmp x y ≡ Less) ⊎ ((x ≡ y) × (c ≤ d))

-- there is none of 1 to n
abbrev pub NoneContradictedUpTo : History → List ℕ → ℕ → ℕ → ℕ → Type 0
NoneContradictedUpTo h lengths n b a = (m : ℕ) → 0 < m → m ≤ n → (x : List ℕ) (c : ℕ) → IsContradictedAt h lengths m b a x c → ⊥

-- the lowest number with the property, or none where no number has it
abbrev pub IsLowestOf : (ℕ → Type 0) → Option ℕ → Type 0
IsLowestOf Is found = MatchOption found ((u : ℕ) → Is u → ⊥) (λ u. Is u × ((v : ℕ) → Is v → u ≤ v))
