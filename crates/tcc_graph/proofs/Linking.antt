-- Links and routes: what they cost, how they are joined, and where they end.
use Rattle.std.proofs.Common.{◌≡◌, ◌<◌, ◌≤◌, ◌+◌, ℕ, inl, inr, List, [], ◌∷◌, ◌++◌, length, length-append, flat_map, refl, sym, ◌∙◌, subst, arith}
use Rattle.std.proofs.lemmas.Grind.{flat_map-append}
use Rattle.tcc_reads.specs.History.{count}
use Rattle.tcc_graph.specs.Relations.{IsCausalPair}
use Rattle.tcc_graph.specs.Levels.{Judged}
use Rattle.tcc_graph.specs.Links.{IsLink, link_from, link_to, link_cost, unfolding_of, cost}
use Rattle.tcc_graph.specs.Routes.{LinksLead, IsRoute}
use Rattle.tcc_graph.specs.declared.step.Step.{Step}
use Rattle.tcc_graph.specs.declared.step.Step.TheVariants as step
use Rattle.tcc_graph.specs.declared.link.Link.{Link}
use Rattle.tcc_graph.specs.declared.link.Link.TheVariants as link
use Rattle.tcc_graph.proofs.Pairs.{link_below}

-- ---- costs

-- a derived link costs one step more than its walk
pub derived_cost : (b a : ℕ) (x : List ℕ) (c : ℕ) (walk : List Step) → link_cost (link.Derived b a x c walk) ≡ length walk + 1
derived_cost b a x c walk = length-append walk (step.Reads a c x ∷ [])

pub some_cost : (l : Link) → 1 ≤ link_cost l
some_cost (link.Session a b) = omega arith
some_cost (link.Reads a b x) = omega arith
some_cost (link.Derived b a x c walk) = rw (derived_cost b a x c walk) (omega arith)

pub cost_cons : (l : Link) (links : List Link) → cost (l ∷ links) ≡ link_cost l + cost links
cost_cons l links = length-append (unfolding_of l) (flat_map unfolding_of links)

pub cost_append : (some others : List Link) → cost (some ++ others) ≡ cost some + cost others
cost_append some others = rw flat_map-append (length-append (flat_map unfolding_of some) (flat_map unfolding_of others))

pub cost_around : (front : List Link) (l : Link) (rest : List Link) → cost (front ++ l ∷ rest) ≡ cost front + (link_cost l + cost rest)
cost_around front l rest = omega (arith, cost_append front (l ∷ rest), cost_cons l rest)

pub one_cost : (l : Link) → cost (l ∷ []) ≡ link_cost l
one_cost l = omega (arith, cost_cons l [])

-- a list of links that costs nothing is empty
pub no_links : (links : List Link) → cost links ≡ 0 → links ≡ []
no_links [] e = refl
no_links (l ∷ links) e = absurd (omega (arith, cost_cons l links, some_cost l))

pub some_links : (links : List Link) → 0 < length links → 0 < cost links
some_links [] some = absurd (omega arith)
some_links (l ∷ links) some = omega (arith, cost_cons l links, some_cost l)

-- ---- links one after another

-- a causal pair is a link that costs one step
pub pair_link : (j : Judged) (a b : ℕ) → IsCausalPair j.history a b → (l : Link) × (link_from l ≡ a) × (link_to l ≡ b) × IsLink j l × (link_cost l ≡ 1)
pair_link j a b (inl session) = (link.Session a b, refl, refl, session, refl)
pair_link j a b (inr (x, reads)) = (link.Reads a b x, refl, refl, reads, refl)

pub lead_append : (j : Judged) (a b c : ℕ) (some others : List Link) → LinksLead j a b some → LinksLead j b c others → LinksLead j a c (some ++ others)
lead_append j a b c [] others p q = subst (λ (z : ℕ). LinksLead j z c others) (sym p) q
lead_append j a b c (l ∷ some) others p q = (p.0, p.1, lead_append j (link_to l) b c some others p.2 q)

-- what follows the first links starts where they end
pub lead_split : (j : Judged) (a b : ℕ) (front rest : List Link) → LinksLead j a b (front ++ rest) → (m : ℕ) × LinksLead j a m front × LinksLead j m b rest
lead_split j a b [] rest p = (a, refl, p)
lead_split j a b (l ∷ front) rest p = let w = lead_split j (link_to l) b front rest p.2 in (w.0, (p.0, p.1, w.1), w.2)

-- links that lead to one end start at one number
pub lead_start : (j : Judged) (a b c : ℕ) (links : List Link) → LinksLead j a c links → LinksLead j b c links → a ≡ b
lead_start j a b c [] p q = p ∙ sym q
lead_start j a b c (l ∷ links) p q = sym p.0 ∙ q.0

-- links that start at one number lead to one end
pub lead_end : (j : Judged) (a b c : ℕ) (links : List Link) → LinksLead j a b links → LinksLead j a c links → b ≡ c
lead_end j a b c [] p q = sym p ∙ q
lead_end j a b c (l ∷ links) p q = lead_end j (link_to l) b c links p.2 q.2

-- a route starts at a transaction
pub route_below : (j : Judged) (s v : ℕ) (links : List Link) → IsRoute j s v links → s < count j.history
route_below j s v [] (some, lead) = absurd (omega arith)
route_below j s v (l ∷ links) (some, lead) = let ends = link_below j l lead.1 in subst (λ (z : ℕ). z < count j.history) lead.0 ends.0

pub link_route : (j : Judged) (a b : ℕ) (l : Link) → link_from l ≡ a → link_to l ≡ b → IsLink j l → IsRoute j a b (l ∷ [])
link_route j a b l from to is = (omega arith, (from, is, to))

-- one more link
pub route_on : (j : Judged) (s a b : ℕ) (links : List Link) (l : Link) → IsRoute j s a links → link_from l ≡ a → link_to l ≡ b → IsLink j l
    → IsRoute j s b (links ++ l ∷ []) × (cost (links ++ l ∷ []) ≡ cost links + link_cost l)
route_on j s a b links l route from to is =
    let long : length (links ++ l ∷ []) ≡ length links + 1 = length-append links (l ∷ []) in
    ((omega (arith, route.0), lead_append j s a b links (l ∷ []) route.1 (from, is, to)), omega (arith, cost_append links (l ∷ []), one_cost l))
