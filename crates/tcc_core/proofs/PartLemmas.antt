-- Parts of least cycles, where they lead, and the walks of their derived links.
use Rattle.std.proofs.Common.{ℕ, ◌≡◌, ◌≢◌, ◌<◌, ◌≤◌, ◌+◌, List, [], ◌∷◌, ◌++◌, length, length-append, refl, sym, ◌∙◌, subst, arith}
use Rattle.std.specs.Ordering.{nat_cmp}
use Rattle.std.specs.declared.cmp.Ordering.TheVariants.{Equal, Greater}
use Rattle.std.proofs.lemmas.Cmp.{nat_cmp_total, nat_list_cmp_total, tied_itself}
use Rattle.tcc_graph.specs.Levels.{Judged, IsAllowedWalk}
use Rattle.tcc_reads.specs.Sources.{name_cmp}
use Rattle.tcc_graph.specs.Links.{link_from, link_to, cost}
use Rattle.tcc_graph.specs.Routes.{LinksLead, IsRoute, IsCycle, IsLeastCycle, IsDistance}
use Rattle.tcc_graph.specs.Ties.{walk_cmp, IsFirstCycle}
use Rattle.tcc_graph.specs.declared.step.Step.{Step}
use Rattle.tcc_graph.specs.declared.link.Link.{Link}
use Rattle.tcc_graph.specs.declared.link.Link.TheVariants as link
use Rattle.tcc_graph.proofs.Linking.{derived_cost, cost_append, cost_around, lead_append, lead_split, lead_end}
use Rattle.tcc_derive.specs.Backwards.{IsFirstWalk}
use Rattle.tcc_derive.proofs.UpwardLemmas.{begins_above, first_links}
use Rattle.tcc_derive.proofs.PickedLemmas.{first_lowest, picked_from_first}

start_same : (j : Judged) (a b c d : ℕ) (links : List Link) → 0 < length links → LinksLead j a c links → LinksLead j b d links → (a ≡ b) × (c ≡ d)
start_same j a b c d [] some p q = absurd (omega arith)
start_same j a b c d (l ∷ links) some p q = (sym p.0 ∙ q.0, lead_end j (link_to l) c d links p.2 q.2)

-- ---- a least cycle from the lowest start meets nothing below it

pub none_below : (j : Judged) (s : ℕ) (links : List Link) → IsFirstCycle j s links → (front : List Link) (l : Link) (rest : List Link)
    → IsLeastCycle j s (front ++ l ∷ rest) → s ≤ link_from l
none_below j s links first = begins_above j s (first_lowest j s links first)

-- ---- no route costs less than a part of a least cycle

pub part_least : (j : Judged) (s u v : ℕ) (front part rest others : List Link) → IsLeastCycle j s (front ++ (part ++ rest)) → IsRoute j u v part
    → IsRoute j u v others → cost part ≤ cost others
part_least j s u v front part rest others is route other =
    let (m, lead, on) = lead_split j s s front (part ++ rest) is.cycle.1 in
    let (n, inside, last) = lead_split j m s part rest on in
    let same = start_same j m u n v part route.0 inside route.1 in
    let from : LinksLead j s u front = subst (λ (z : ℕ). LinksLead j s z front) same.0 lead in
    let to : LinksLead j v s rest = subst (λ (z : ℕ). LinksLead j z s rest) same.1 last in
    let cycle : IsCycle j s (front ++ (others ++ rest)) = (
      rw (length-append, length-append) (omega (arith, other.0)),
      lead_append j s u s front (others ++ rest) from (lead_append j u v s others rest other.1 to),
    ) in
    omega (
      arith,
      is.least s (front ++ (others ++ rest)) cycle,
      cost_append front (part ++ rest),
      cost_append part rest,
      cost_append front (others ++ rest),
      cost_append others rest,
    )

pub front_distance : (j : Judged) (s v : ℕ) (links front rest : List Link) → IsFirstCycle j s links → IsLeastCycle j s (front ++ rest) → IsRoute j s v front
    → IsDistance j s v (cost front)
front_distance j s v links front rest first is route = record {
  attained = (front, (route, first_links j s (first_lowest j s links first) v front rest is route.1), refl);
  least = λ others other. part_least j s s v [] front rest others is route other.0;
}

-- ---- the walk of a derived link is the first of the shortest

module _ (j : Judged) (s : ℕ) (front : List Link) (b a : ℕ) (x : List ℕ) (c : ℕ) (walk : List Step) (rest : List Link)
    (first : IsFirstCycle j s (front ++ link.Derived b a x c walk ∷ rest)) where
  parts : (m : ℕ) × LinksLead j s m front × LinksLead j m s (link.Derived b a x c walk ∷ rest)
  parts = lead_split j s s front (link.Derived b a x c walk ∷ rest) first.least.cycle.1

  -- with another walk
  by_walk : (other : List Step) → IsAllowedWalk j b c other → IsCycle j s (front ++ link.Derived b a x c other ∷ rest)
  by_walk other leads =
      let (m, lead, on) = parts in
      (rw length-append (omega arith), lead_append j s m s front (link.Derived b a x c other ∷ rest) lead (on.0, (on.1.0, leads), on.2))

  costs_by : (other : List Step) → cost (front ++ link.Derived b a x c other ∷ rest) ≡ cost front + (length other + 1 + cost rest)
  costs_by other = omega (arith, cost_around front (link.Derived b a x c other) rest, derived_cost b a x c other)

  shortest : (other : List Step) → IsAllowedWalk j b c other → length walk ≤ length other
  shortest other leads =
      let low : cost (front ++ link.Derived b a x c walk ∷ rest) ≤ cost (front ++ link.Derived b a x c other ∷ rest) =
      first.least.least s (front ++ link.Derived b a x c other ∷ rest) (by_walk other leads) in
      omega (arith, costs_by walk, costs_by other)

  up_to : (other : List Step) → IsAllowedWalk j b c other → length other ≡ length walk → walk_cmp walk other ≢ Greater
  up_to other leads same above =
      let costs : cost (front ++ link.Derived b a x c other ∷ rest) ≡ cost (front ++ link.Derived b a x c walk ∷ rest) =
      omega (arith, costs_by walk, costs_by other) in
      let ends : IsLeastCycle j s (front ++ link.Derived b a x c other ∷ rest) =
      record { cycle = by_walk other leads; least = λ t others cycle. omega (arith, first.least.least t others cycle) } in
      let start : nat_cmp b b ≡ Equal = tied_itself nat_cmp_total b in
      let key : name_cmp x x ≡ Equal = tied_itself nat_list_cmp_total x in
      let reader : nat_cmp c c ≡ Equal = tied_itself nat_cmp_total c in
      (picked_from_first j s (front ++ link.Derived b a x c walk ∷ rest) first).each front (link.Derived b a x c walk) rest refl
      (link.Derived b a x c other) (front, ends) (rw (start, key, reader) above)

  pub first_walk : IsFirstWalk j b c walk
  first_walk = let (m, lead, on) = parts in record { leads = on.1.1; least = shortest; first = up_to }
