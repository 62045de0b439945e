-- What a least cycle costs at most: it begins at most one link at each transaction, and none of its links takes a longer walk than over all
-- transactions once.
use Rattle.std.proofs.Common.{ℕ, ◌≡◌, ◌<◌, ◌≤◌, ◌+◌, ◌*◌, ◌⊎◌, inl, inr, List, [], ◌∷◌, ◌++◌}
use Rattle.std.proofs.Common.{length, All, length-append, append_assoc, refl, sym, ◌∙◌, subst}
use Rattle.std.proofs.Common.{arith}
use Rattle.std.specs.List.{AllByRecursion}
use Rattle.std.proofs.lemmas.List.Elements.{All-nil, All-cons}
use Rattle.tcc_txn.specs.declared.limits.TheConstants.{MAX_COUNT}
use Rattle.tcc_reads.specs.History.{History, count}
use Rattle.tcc_graph.specs.Walks.{step_from, step_to, Leads, IsWalk}
use Rattle.tcc_graph.specs.Levels.{Judged, IsAllowed}
use Rattle.tcc_graph.specs.Links.{IsLink, link_from, link_to, link_cost, cost}
use Rattle.tcc_graph.specs.Routes.{LinksLead, IsCycle, IsLeastCycle}
use Rattle.tcc_graph.specs.Ties.{link_walk}
use Rattle.tcc_graph.specs.declared.limits.TheConstants.{MAX_LINK_COST, MAX_CYCLE_COST}
use Rattle.tcc_graph.specs.declared.level.Level.{Level}
use Rattle.tcc_graph.specs.declared.level.Level.TheVariants as level
use Rattle.tcc_graph.specs.declared.step.Step.{Step}
use Rattle.tcc_graph.specs.declared.link.Link.{Link}
use Rattle.tcc_graph.specs.declared.link.Link.TheVariants as link
use Rattle.tcc_graph.proofs.Pairs.{step_below, link_below}
use Rattle.tcc_graph.proofs.Walking.{leads_append, leads_split, walk_below}
use Rattle.tcc_graph.proofs.Linking.{derived_cost, some_cost, cost_cons, cost_around, lead_append, lead_split}
use Rattle.tcc_core.proofs.Twice.{HasTwice, always, few_or_twice}

-- ---- a shortest walk begins at most one step at each transaction

steps_below : (h : History) (a b : ℕ) (walk : List Step) → Leads h a b walk → AllByRecursion (λ s. step_from s < count h) walk
steps_below h a b [] leads = tt
steps_below h a b (s ∷ walk) leads = ((step_below h s leads.1).0, steps_below h (step_to s) b walk leads.2)

-- without what is between two steps that begin at one number
pub shorter : (h : History) (a b : ℕ) (front : List Step) (one : Step) (middle : List Step) (other : Step) (rest : List Step)
    → step_from one ≡ step_from other → IsWalk h a b (front ++ one ∷ (middle ++ other ∷ rest)) → IsWalk h a b (front ++ other ∷ rest)
shorter h a b front one middle other rest same is =
    let (m, before, on) = leads_split h a b front (one ∷ (middle ++ other ∷ rest)) is.1 in
    let (n, between, last) = leads_split h (step_to one) b middle (other ∷ rest) on.2 in
    let long : length (front ++ other ∷ rest) ≡ length front + length (other ∷ rest) = length-append front (other ∷ rest) in
    (omega (arith, long), leads_append h a m b front (other ∷ rest) before (sym same ∙ on.0, last.1, last.2))

few_steps : (h : History) (a b : ℕ) (walk : List Step) → IsWalk h a b walk → ((others : List Step) → IsWalk h a b others → length walk ≤ length others)
    → length walk ≤ count h
few_steps h a b walk is least = go (few_or_twice step_from (count h) walk (steps_below h a b walk is.1))
  where
    go : (length walk ≤ count h) ⊎ HasTwice step_from always walk → length walk ≤ count h
    go (inl few) = few
    go (inr t) =
        let low : length walk ≤ length (t.front ++ t.other ∷ t.rest) =
        least (t.front ++ t.other ∷ t.rest) (shorter h a b t.front t.one t.middle t.other t.rest t.same
        (subst (λ (w : List Step). IsWalk h a b w) t.split is)) in
        let long : length walk ≡ length (t.front ++ t.one ∷ (t.middle ++ t.other ∷ t.rest)) = subst (λ (w : List Step). length walk ≡ length w) t.split refl in
        absurd (omega (
          arith,
          low,
          long,
          length-append t.front (t.other ∷ t.rest),
          length-append t.front (t.one ∷ (t.middle ++ t.other ∷ t.rest)),
          length-append t.middle (t.other ∷ t.rest),
        ))

few_at : (h : History) (at : Level) (b c : ℕ) (walk : List Step) → IsWalk h b c walk → IsAllowed at walk
    → ((others : List Step) → IsWalk h b c others → IsAllowed at others → length walk ≤ length others) → length walk ≤ count h
few_at h level.Causal b c walk is allowed least = few_steps h b c walk is (λ others leads. least others leads tt)
few_at h level.Atomic b c walk is allowed least = let ends = walk_below h b c walk is in omega (arith, allowed, ends.0)

-- ---- a cheapest link between its ends

few_in_link : (j : Judged) (l : Link) → IsLink j l
    → ((o : Link) → link_from o ≡ link_from l → link_to o ≡ link_to l → IsLink j o → link_cost l ≤ link_cost o) → link_cost l ≤ count j.history + 1
few_in_link j (link.Session a b) is least = omega arith
few_in_link j (link.Reads a b x) is least = omega arith
few_in_link j (link.Derived b a x c walk) is least =
    let few : length walk ≤ count j.history = few_at j.history j.level b c walk is.1.0 is.1.1 (λ others leads allowed.
    let low : link_cost (link.Derived b a x c walk) ≤ link_cost (link.Derived b a x c others) =
    least (link.Derived b a x c others) refl refl (is.0, (leads, allowed)) in
    omega (arith, low, derived_cost b a x c walk, derived_cost b a x c others)) in
    omega (arith, few, derived_cost b a x c walk)

walk_in_link : (l : Link) (n : ℕ) → link_cost l ≤ n + 1 → length (link_walk l) ≤ n
walk_in_link (link.Session a b) n few = omega arith
walk_in_link (link.Reads a b x) n few = omega arith
walk_in_link (link.Derived b a x c walk) n few = omega (arith, few, derived_cost b a x c walk)

-- ---- least cycles

module _ (j : Judged) (s : ℕ) where
  -- another link in place of one
  pub link_least : (front : List Link) (l : Link) (rest : List Link) → IsLeastCycle j s (front ++ l ∷ rest) → (o : Link) → link_from o ≡ link_from l
      → link_to o ≡ link_to l → IsLink j o → link_cost l ≤ link_cost o
  link_least front l rest least o from to is =
      let (m, lead, on) = lead_split j s s front (l ∷ rest) least.cycle.1 in
      let long : length (front ++ o ∷ rest) ≡ length front + length (o ∷ rest) = length-append front (o ∷ rest) in
      let last : LinksLead j (link_to o) s rest = subst (λ (z : ℕ). LinksLead j z s rest) (sym to) on.2 in
      let cycle : IsCycle j s (front ++ o ∷ rest) = (omega (arith, long), lead_append j s m s front (o ∷ rest) lead (from ∙ on.0, is, last)) in
      omega (arith, least.least s (front ++ o ∷ rest) cycle, cost_around front l rest, cost_around front o rest)

  pub link_there : (front : List Link) (l : Link) (rest : List Link) → IsLeastCycle j s (front ++ l ∷ rest) → IsLink j l
  link_there front l rest least = let (m, lead, on) = lead_split j s s front (l ∷ rest) least.cycle.1 in on.1

  -- each of the links costs at most this
  links_cost : count j.history ≤ MAX_COUNT → (done links : List Link) → IsLeastCycle j s (done ++ links) → cost links ≤ length links * MAX_LINK_COST
  links_cost few done [] least = omega arith
  links_cost few done (l ∷ links) least =
      let one : link_cost l ≤ count j.history + 1 = few_in_link j l (link_there done l links least) (link_least done l links least) in
      let others : cost links ≤ length links * MAX_LINK_COST = links_cost few (done ++ l ∷ []) links (rw append_assoc least) in
      omega (arith, cost_cons l links, one, others, few)

  -- none of the links takes a longer walk than over all transactions once
  pub walks_few : (done links : List Link) → IsLeastCycle j s (done ++ links) → All (λ l. length (link_walk l) ≤ count j.history) links
  walks_few done [] least = All-nil (λ (l : Link). length (link_walk l) ≤ count j.history)
  walks_few done (l ∷ links) least =
      All-cons (λ (l : Link). length (link_walk l) ≤ count j.history) l links
      (walk_in_link l (count j.history) (few_in_link j l (link_there done l links least) (link_least done l links least)))
      (walks_few (done ++ l ∷ []) links (rw append_assoc least))

  starts_below : (a b : ℕ) (links : List Link) → LinksLead j a b links → AllByRecursion (λ l. link_from l < count j.history) links
  starts_below a b [] lead = tt
  starts_below a b (l ∷ links) lead = ((link_below j l lead.1).0, starts_below (link_to l) b links lead.2)

  -- what is between two links that begin at one number is a cycle that costs less
  pub part_cycle : (front : List Link) (one : Link) (middle : List Link) (other : Link) (rest : List Link) → link_from one ≡ link_from other
      → IsCycle j s (front ++ one ∷ (middle ++ other ∷ rest)) → IsCycle j (link_from one) (one ∷ middle)
  part_cycle front one middle other rest same cycle =
      let (m, before, on) = lead_split j s s front (one ∷ (middle ++ other ∷ rest)) cycle.1 in
      let (n, between, last) = lead_split j (link_to one) s middle (other ∷ rest) on.2 in
      (omega arith, (refl, on.1, subst (λ (z : ℕ). LinksLead j (link_to one) z middle) (sym last.0 ∙ sym same) between))

  pub few_links : (links : List Link) → IsLeastCycle j s links → length links ≤ count j.history
  few_links links least = go (few_or_twice link_from (count j.history) links (starts_below s s links least.cycle.1))
    where
      go : (length links ≤ count j.history) ⊎ HasTwice link_from always links → length links ≤ count j.history
      go (inl few) = few
      go (inr t) =
          let whole : cost links ≡ cost (t.front ++ t.one ∷ (t.middle ++ t.other ∷ t.rest)) = subst (λ (ls : List Link). cost links ≡ cost ls) t.split refl in
          let low : cost links ≤ cost (t.one ∷ t.middle) =
          least.least (link_from t.one) (t.one ∷ t.middle)
          (part_cycle t.front t.one t.middle t.other t.rest t.same (subst (λ (ls : List Link). IsCycle j s ls) t.split least.cycle)) in
          absurd (omega (
            arith,
            whole,
            low,
            cost_around t.front t.one (t.middle ++ t.other ∷ t.rest),
            cost_around t.middle t.other t.rest,
            cost_cons t.one t.middle,
            some_cost t.other,
          ))

  pub cycle_bounded : (links : List Link) → count j.history ≤ MAX_COUNT → IsLeastCycle j s links → cost links ≤ MAX_CYCLE_COST
  cycle_bounded links few least = omega (arith, few, few_links links least, links_cost few [] links least)
