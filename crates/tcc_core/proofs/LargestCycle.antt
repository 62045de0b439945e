-- What a least cycle costs at most by its sessions: it begins at most two links at transactions of one session, and one of them costs a
-- single step.
use Rattle.std.proofs.Common.{ℕ, ◌≡◌, ◌≢◌, ◌<◌, ◌≤◌, ◌+◌, ◌*◌, ◌==◌, ◌⊎◌, inl, inr, Bool, true, false, cond}
use Rattle.std.proofs.Common.{if◌then◌else◌, List, [], ◌∷◌, ◌++◌, filter, length, append_assoc, refl, sym, ◌∙◌}
use Rattle.std.proofs.Common.{subst, arith}
use Rattle.std.specs.List.{AllByRecursion}
use Rattle.std.proofs.lemmas.Bool.{cases_eq, eq-eqb, ne_eqb}
use Rattle.tcc_txn.specs.declared.limits.TheConstants.{MAX_SESSIONS}
use Rattle.tcc_reads.specs.History.{count, owner}
use Rattle.tcc_graph.specs.Relations.{session_pair, IsSessionPair}
use Rattle.tcc_graph.specs.Walks.{IsWalk}
use Rattle.tcc_graph.specs.Levels.{Judged, IsAllowed}
use Rattle.tcc_graph.specs.Links.{IsLink, link_from, link_to, link_cost, cost}
use Rattle.tcc_graph.specs.Routes.{LinksLead, IsRoute, IsCycle, IsLeastCycle}
use Rattle.tcc_graph.specs.Ties.{link_kind}
use Rattle.tcc_graph.specs.declared.level.Level.{Level}
use Rattle.tcc_graph.specs.declared.level.Level.TheVariants as level
use Rattle.tcc_graph.specs.declared.step.Step.{Step}
use Rattle.tcc_graph.specs.declared.link.Link.{Link}
use Rattle.tcc_graph.specs.declared.link.Link.TheVariants as link
use Rattle.tcc_graph.proofs.Pairs.{link_below}
use Rattle.tcc_graph.proofs.Linking.{derived_cost, some_cost, no_links, one_cost, cost_cons, cost_around, lead_split}
use Rattle.tcc_core.proofs.Twice.{HasTwice, always, few_or_twice, counted_or_twice}
use Rattle.tcc_derive.proofs.UpwardLemmas.{turn}
use Rattle.tcc_core.proofs.SessionLemmas.{IsPlaced, pair_on, either_way}
use Rattle.tcc_core.proofs.LargestWalk.{told_apart, marked_below, walk_short}
use Rattle.tcc_core.proofs.BoundLemmas.{link_least, link_there, part_cycle}
use Rattle.tcc_core.proofs.PartLemmas.{part_least}

module _ (j : Judged) (placed : IsPlaced j.history MAX_SESSIONS) where
  -- ---- a link

  walk_few : (b c : ℕ) (walk : List Step) (at : Level) → IsWalk j.history b c walk → IsAllowed at walk
      → ((others : List Step) → IsWalk j.history b c others → IsAllowed at others → length walk ≤ length others)
      → ((t : ℕ) (others : List Link) → IsCycle j t others → length walk < cost others) → length walk ≤ 2 * MAX_SESSIONS
  walk_few b c walk level.Causal is allowed least low = walk_short j placed b c walk is (λ others leads. least others leads tt) low
  walk_few b c walk level.Atomic is allowed least low = omega (arith, allowed)

  link_few : (s : ℕ) (front : List Link) (l : Link) (rest : List Link) → IsLeastCycle j s (front ++ l ∷ rest) → link_cost l ≤ 2 * MAX_SESSIONS + 1
  link_few s front (link.Session a b) rest least = omega arith
  link_few s front (link.Reads a b x) rest least = omega arith
  link_few s front (link.Derived b a x c walk) rest least =
      let is : IsLink j (link.Derived b a x c walk) = link_there j s front (link.Derived b a x c walk) rest least in
      let few : length walk ≤ 2 * MAX_SESSIONS = walk_few b c walk j.level is.1.0 is.1.1
      (λ others leads allowed.
      let low : link_cost (link.Derived b a x c walk) ≤ link_cost (link.Derived b a x c others) =
      link_least j s front (link.Derived b a x c walk) rest least (link.Derived b a x c others) refl refl (is.0, (leads, allowed)) in
      omega (arith, low, derived_cost b a x c walk, derived_cost b a x c others))
      (λ t others cycle. omega (arith, least.least t others cycle, cost_around front (link.Derived b a x c walk) rest, derived_cost b a x c walk)) in
      omega (arith, few, derived_cost b a x c walk)

  -- ---- two links of one session

  module _ (s : ℕ) (front : List Link) (one : Link) (middle : List Link) (other : Link) (rest : List Link)
      (least : IsLeastCycle j s (front ++ one ∷ (middle ++ other ∷ rest))) where
    one_leads : LinksLead j (link_from one) s (one ∷ (middle ++ other ∷ rest))
    one_leads = let (m, before, on) = lead_split j s s front (one ∷ (middle ++ other ∷ rest)) least.cycle.1 in (refl, on.1, on.2)

    middle_leads : LinksLead j (link_to one) (link_from other) middle
    middle_leads = let (k, between, last) =
        lead_split j (link_to one) s middle (other ∷ rest) one_leads.2 in subst (λ (z : ℕ). LinksLead j (link_to one) z middle) (sym last.0) between

    other_leads : LinksLead j (link_from other) s (other ∷ rest)
    other_leads = let (k, between, last) = lead_split j (link_to one) s middle (other ∷ rest) one_leads.2 in (refl, last.1, last.2)

    session_route : (a b : ℕ) → IsSessionPair j.history a b → IsRoute j a b (link.Session a b ∷ [])
    session_route a b pair = (omega arith, (refl, pair, refl))

    -- where the one comes before the other in their session, a single step leads there
    cheap : IsSessionPair j.history (link_from one) (link_from other) → (middle ≡ []) × (link_cost one ≡ 1)
    cheap pair =
        let part : cost (one ∷ middle) ≤ cost (link.Session (link_from one) (link_from other) ∷ []) =
        part_least j s (link_from one) (link_from other) front (one ∷ middle) (other ∷ rest) (link.Session (link_from one) (link_from other) ∷ []) least
        (omega arith, (refl, one_leads.1, middle_leads)) (session_route (link_from one) (link_from other) pair) in
        let single : cost (link.Session (link_from one) (link_from other) ∷ []) ≡ 1 = one_cost (link.Session (link_from one) (link_from other)) in
        (no_links middle (omega (arith, part, single, cost_cons one middle, some_cost one)), omega (arith, part, single, cost_cons one middle, some_cost one))

    -- where the one link begins before the other in their session, exactly one of the two stays in it
    ends_there : IsSessionPair j.history (link_from one) (link_from other) → 0 < link_from one
        → session_pair j.history (link_from one) (link_to one) ≡ session_pair j.history (link_from other) (link_to other) → ⊥
    ends_there pair some alike =
        let none : middle ≡ [] = (cheap pair).0 in
        let next : link_to one ≡ link_from other = subst (λ (ls : List Link). LinksLead j (link_to one) (link_from other) ls) none middle_leads in
        let mark : session_pair j.history (link_from one) (link_to one) ≡ true = subst (λ (z : ℕ). IsSessionPair j.history (link_from one) z) (sym next) pair in
        let past : IsSessionPair j.history (link_from one) (link_to other) =
        pair_on j.history (link_from one) (link_from other) (link_to other) some pair (sym alike ∙ mark) in
        let joined : IsLeastCycle j s (front ++ ((one ∷ other ∷ []) ++ rest)) =
        subst (λ (ls : List Link). IsLeastCycle j s (front ++ one ∷ (ls ++ other ∷ rest))) none least in
        let part : cost (one ∷ other ∷ []) ≤ cost (link.Session (link_from one) (link_to other) ∷ []) =
        part_least j s (link_from one) (link_to other) front (one ∷ other ∷ []) rest (link.Session (link_from one) (link_to other) ∷ []) joined
        (omega arith, (refl, one_leads.1, (sym next, other_leads.1, refl))) (session_route (link_from one) (link_to other) past) in
        absurd (omega (
          arith,
          part,
          one_cost (link.Session (link_from one) (link_to other)),
          cost_cons one (other ∷ []),
          one_cost other,
          some_cost one,
          some_cost other,
        ))

    -- two links of a least cycle begin at two transactions
    differ : link_from one ≢ link_from other
    differ same =
        let low : cost (front ++ one ∷ (middle ++ other ∷ rest)) ≤ cost (one ∷ middle) =
        least.least (link_from one) (one ∷ middle) (part_cycle j s front one middle other rest same least.cycle) in
        absurd (omega (arith, low, cost_around front one (middle ++ other ∷ rest), cost_around middle other rest, cost_cons one middle, some_cost other))

    -- begun at the other
    turned : IsLeastCycle j (link_from other) ([] ++ other ∷ ((rest ++ front) ++ one ∷ middle))
    turned =
        let here : IsLeastCycle j s ((front ++ one ∷ middle) ++ other ∷ rest) =
        subst (λ (ls : List Link). IsLeastCycle j s ls) (sym (append_assoc front (one ∷ middle) (other ∷ rest))) least in
        subst (λ (ls : List Link). IsLeastCycle j (link_from other) (other ∷ ls)) (sym (append_assoc rest front (one ∷ middle)))
        (turn j s (front ++ one ∷ middle) other rest here)

    one_below : link_from one < count j.history
    one_below = (link_below j one one_leads.1).0

    other_below : link_from other < count j.history
    other_below = (link_below j other other_leads.1).0

    ordered : 0 < link_from one → 0 < link_from other → owner j.history (link_from one) ≡ owner j.history (link_from other)
        → IsSessionPair j.history (link_from one) (link_from other) ⊎ IsSessionPair j.history (link_from other) (link_from one)
    ordered some more same = either_way j.history MAX_SESSIONS placed (link_from one) (link_from other) some one_below more other_below differ same

  -- ---- numbers of links

  -- apart from `init`, the session of its start, and whether it is followed there
  marked : Link → ℕ
  marked l = owner j.history (link_from l) + cond (session_pair j.history (link_from l) (link_to l)) MAX_SESSIONS 0

  link_number : Link → ℕ
  link_number l = if link_from l == 0 then 2 * MAX_SESSIONS else marked l

  -- apart from `init`, the session of its start
  group : Link → ℕ
  group l = if link_from l == 0 then MAX_SESSIONS else owner j.history (link_from l)

  abbrev derived : Link → Bool
  derived l = link_kind l == 2

  derived_costs : (l : Link) → IsLink j l → derived l ≡ true → 2 ≤ link_cost l
  derived_costs (link.Session a b) is e = absurd cc
  derived_costs (link.Reads a b x) is e = absurd cc
  derived_costs (link.Derived b a x c walk) is e = omega (arith, is.1.0.0, derived_cost b a x c walk)

  others_cost : (l : Link) → derived l ≡ false → link_cost l ≤ 1
  others_cost (link.Session a b) e = omega arith
  others_cost (link.Reads a b x) e = omega arith
  others_cost (link.Derived b a x c walk) e = absurd cc

  number_cases : (l : Link) → ((link_from l ≡ 0) × (link_number l ≡ 2 * MAX_SESSIONS) × (group l ≡ MAX_SESSIONS))
      ⊎ ((0 < link_from l) × (link_number l ≡ marked l) × (group l ≡ owner j.history (link_from l)))
  unfolding link_number group
  number_cases l = go (cases_eq (link_from l) 0)
    where
      go : (link_from l ≡ 0) ⊎ (link_from l ≢ 0) → ((link_from l ≡ 0) × ((if link_from l == 0 then 2 * MAX_SESSIONS else marked l) ≡ 2 * MAX_SESSIONS)
          × ((if link_from l == 0 then MAX_SESSIONS else owner j.history (link_from l)) ≡ MAX_SESSIONS))
          ⊎ ((0 < link_from l) × ((if link_from l == 0 then 2 * MAX_SESSIONS else marked l) ≡ marked l)
          × ((if link_from l == 0 then MAX_SESSIONS else owner j.history (link_from l)) ≡ owner j.history (link_from l)))
      go (inl none) = let e = eq-eqb (link_from l) 0 none in inl (none, rw e refl, rw e refl)
      go (inr some) = let e = ne_eqb (link_from l) 0 some in inr (omega arith, rw e refl, rw e refl)

  numbers_below : (a b : ℕ) (links : List Link) → LinksLead j a b links
      → AllByRecursion (λ l. link_number l < 2 * MAX_SESSIONS + 1) links × AllByRecursion (λ l. group l < MAX_SESSIONS + 1) links
  unfolding marked
  numbers_below a b [] lead = (tt, tt)
  numbers_below a b (l ∷ links) lead =
      let rest = numbers_below (link_to l) b links lead.2 in
      let here = one (number_cases l) in
      ((here.0, rest.0), (here.1, rest.1))
    where
      one : ((link_from l ≡ 0) × (link_number l ≡ 2 * MAX_SESSIONS) × (group l ≡ MAX_SESSIONS))
          ⊎ ((0 < link_from l) × (link_number l ≡ marked l) × (group l ≡ owner j.history (link_from l)))
          → (link_number l < 2 * MAX_SESSIONS + 1) × (group l < MAX_SESSIONS + 1)
      one (inl w) = (omega (arith, w.1), omega (arith, w.2))
      one (inr w) =
          let owned : owner j.history (link_from l) < MAX_SESSIONS = placed.owned (link_from l) w.0 (link_below j l lead.1).0 in
          (omega (arith, w.1, marked_below (owner j.history (link_from l)) (session_pair j.history (link_from l) (link_to l)) owned), omega (arith, w.2, owned))

  module _ (s : ℕ) (links : List Link) (least : IsLeastCycle j s links) where
    -- two links of one session
    module _ (p : Link → Bool) (f : Link → ℕ) (t : HasTwice f p links) where
      there : IsLeastCycle j s (t.front ++ t.one ∷ (t.middle ++ t.other ∷ t.rest))
      there = subst (λ (ls : List Link). IsLeastCycle j s ls) t.split least

      back : IsLeastCycle j (link_from t.other) ([] ++ t.other ∷ ((t.rest ++ t.front) ++ t.one ∷ t.middle))
      back = turned s t.front t.one t.middle t.other t.rest there

      apart : link_from t.one ≢ link_from t.other
      apart = differ s t.front t.one t.middle t.other t.rest there

      owned : (l : Link) → link_from l < count j.history → 0 < link_from l → owner j.history (link_from l) < MAX_SESSIONS
      owned l below some = placed.owned (link_from l) some below

      one_owned : 0 < link_from t.one → owner j.history (link_from t.one) < MAX_SESSIONS
      one_owned = owned t.one (one_below s t.front t.one t.middle t.other t.rest there)

      other_owned : 0 < link_from t.other → owner j.history (link_from t.other) < MAX_SESSIONS
      other_owned = owned t.other (other_below s t.front t.one t.middle t.other t.rest there)

      either : 0 < link_from t.one → 0 < link_from t.other → owner j.history (link_from t.one) ≡ owner j.history (link_from t.other)
          → IsSessionPair j.history (link_from t.one) (link_from t.other) ⊎ IsSessionPair j.history (link_from t.other) (link_from t.one)
      either = ordered s t.front t.one t.middle t.other t.rest there

    links_few : length links ≤ 2 * MAX_SESSIONS + 1
    unfolding marked
    links_few = go (few_or_twice link_number (2 * MAX_SESSIONS + 1) links (numbers_below s s links least.cycle.1).0)
      where
        same_session : (t : HasTwice link_number always links) → 0 < link_from t.one → 0 < link_from t.other
            → (owner j.history (link_from t.one) ≡ owner j.history (link_from t.other))
            × (session_pair j.history (link_from t.one) (link_to t.one) ≡ session_pair j.history (link_from t.other) (link_to t.other)) → ⊥
        same_session t some more alike = which (either always link_number t some more alike.0)
          where
            which : IsSessionPair j.history (link_from t.one) (link_from t.other) ⊎ IsSessionPair j.history (link_from t.other) (link_from t.one) → ⊥
            which (inl pair) = ends_there s t.front t.one t.middle t.other t.rest (there always link_number t) pair some alike.1
            which (inr pair) = ends_there (link_from t.other) [] t.other (t.rest ++ t.front) t.one t.middle (back always link_number t) pair more (sym alike.1)

        told : (t : HasTwice link_number always links) → 0 < link_from t.one → 0 < link_from t.other → marked t.one ≡ marked t.other → ⊥
        told t some more same =
            same_session t some more (told_apart (owner j.history (link_from t.one)) (owner j.history (link_from t.other))
            (session_pair j.history (link_from t.one) (link_to t.one)) (session_pair j.history (link_from t.other) (link_to t.other))
            (one_owned always link_number t some) (other_owned always link_number t more) same)

        marked_low : (l : Link) → owner j.history (link_from l) < MAX_SESSIONS → marked l < 2 * MAX_SESSIONS
        marked_low l low = marked_below (owner j.history (link_from l)) (session_pair j.history (link_from l) (link_to l)) low

        by : (t : HasTwice link_number always links) → ((link_from t.one ≡ 0) × (link_number t.one ≡ 2 * MAX_SESSIONS) × (group t.one ≡ MAX_SESSIONS))
            ⊎ ((0 < link_from t.one) × (link_number t.one ≡ marked t.one) × (group t.one ≡ owner j.history (link_from t.one)))
            → ((link_from t.other ≡ 0) × (link_number t.other ≡ 2 * MAX_SESSIONS) × (group t.other ≡ MAX_SESSIONS))
            ⊎ ((0 < link_from t.other) × (link_number t.other ≡ marked t.other) × (group t.other ≡ owner j.history (link_from t.other))) → ⊥
        by t (inl w) (inl v) = apart always link_number t (w.0 ∙ sym v.0)
        by t (inl w) (inr v) = absurd (omega (arith, w.1, v.1, t.same, marked_low t.other (other_owned always link_number t v.0)))
        by t (inr w) (inl v) = absurd (omega (arith, w.1, v.1, t.same, marked_low t.one (one_owned always link_number t w.0)))
        by t (inr w) (inr v) = told t w.0 v.0 (sym w.1 ∙ t.same ∙ v.1)

        go : (length links ≤ 2 * MAX_SESSIONS + 1) ⊎ HasTwice link_number always links → length links ≤ 2 * MAX_SESSIONS + 1
        go (inl few) = few
        go (inr t) = absurd (by t (number_cases t.one) (number_cases t.other))

    derived_few : length (filter derived links) ≤ MAX_SESSIONS + 1
    derived_few = go (counted_or_twice group derived (MAX_SESSIONS + 1) links (numbers_below s s links least.cycle.1).1)
      where
        same_session : (t : HasTwice group derived links) → 0 < link_from t.one → 0 < link_from t.other
            → owner j.history (link_from t.one) ≡ owner j.history (link_from t.other) → ⊥
        same_session t some more same = which (either derived group t some more same)
          where
            which : IsSessionPair j.history (link_from t.one) (link_from t.other) ⊎ IsSessionPair j.history (link_from t.other) (link_from t.one) → ⊥
            which (inl pair) =
                let single = (cheap s t.front t.one t.middle t.other t.rest (there derived group t) pair).1 in
                absurd (omega (arith, single, derived_costs t.one (one_leads s t.front t.one t.middle t.other t.rest (there derived group t)).1 t.one_passes))
            which (inr pair) =
                let single = (cheap (link_from t.other) [] t.other (t.rest ++ t.front) t.one t.middle (back derived group t) pair).1 in
                absurd (omega (
                  arith,
                  single,
                  derived_costs t.other
                      (other_leads s t.front t.one t.middle t.other t.rest (there derived group t)).1 t.other_passes,
                ))

        by : (t : HasTwice group derived links) → ((link_from t.one ≡ 0) × (link_number t.one ≡ 2 * MAX_SESSIONS) × (group t.one ≡ MAX_SESSIONS))
            ⊎ ((0 < link_from t.one) × (link_number t.one ≡ marked t.one) × (group t.one ≡ owner j.history (link_from t.one)))
            → ((link_from t.other ≡ 0) × (link_number t.other ≡ 2 * MAX_SESSIONS) × (group t.other ≡ MAX_SESSIONS))
            ⊎ ((0 < link_from t.other) × (link_number t.other ≡ marked t.other) × (group t.other ≡ owner j.history (link_from t.other))) → ⊥
        by t (inl w) (inl v) = apart derived group t (w.0 ∙ sym v.0)
        by t (inl w) (inr v) = absurd (omega (arith, w.2, v.2, t.same, other_owned derived group t v.0))
        by t (inr w) (inl v) = absurd (omega (arith, w.2, v.2, t.same, one_owned derived group t w.0))
        by t (inr w) (inr v) = same_session t w.0 v.0 (sym w.2 ∙ t.same ∙ v.2)

        go : (length (filter derived links) ≤ MAX_SESSIONS + 1) ⊎ HasTwice group derived links → length (filter derived links) ≤ MAX_SESSIONS + 1
        go (inl few) = few
        go (inr t) = absurd (by t (number_cases t.one) (number_cases t.other))

  costs_sum : (s : ℕ) (done links : List Link) → IsLeastCycle j s (done ++ links) → cost links ≤ length links + 2 * MAX_SESSIONS * length (filter derived links)
  costs_sum s done [] least = omega arith
  costs_sum s done (l ∷ links) least = go (derived l) refl (costs_sum s (done ++ l ∷ []) links (rw append_assoc least))
    where
      go : (b : Bool) → derived l ≡ b → cost links ≤ length links + 2 * MAX_SESSIONS * length (filter derived links)
          → cost (l ∷ links) ≤ length (l ∷ links) + 2 * MAX_SESSIONS * length (cond b (l ∷ filter derived links) (filter derived links))
      go true e others = omega (arith, cost_cons l links, link_few s done l links least, others)
      go false e others = omega (arith, cost_cons l links, others_cost l e, others)

  pub few_derived : (s : ℕ) (links : List Link) → IsLeastCycle j s links → length (filter (λ l. link_kind l == 2) links) ≤ MAX_SESSIONS + 1
  few_derived s links least = derived_few s links least

  pub largest : (s : ℕ) (links : List Link) → IsLeastCycle j s links → cost links ≤ (2 * MAX_SESSIONS + 1) + 2 * MAX_SESSIONS * (MAX_SESSIONS + 1)
  largest s links least = omega (arith, costs_sum s [] links least, links_few s links least, derived_few s links least)
