-- The way back from the start of the first cycle, link by link.
use Rattle.std.proofs.Common.{ℕ, ◌≡◌, ◌≢◌, ◌<◌, ◌≤◌, ◌+◌, ◌⊎◌, inl, inr, List, [], ◌∷◌, ◌++◌, length}
use Rattle.std.proofs.Common.{length-append, append_assoc, reverse, Option, None, Some, refl, sym, ◌∙◌, ap}
use Rattle.std.proofs.Common.{subst, arith}
use Rattle.std.specs.declared.cmp.Ordering.TheVariants.{Greater}
use Rattle.std.proofs.lemmas.Bool.{cases_order, cases_eq, cases_lt, eq-eqb, ne_eqb, lt-ltb}
use Rattle.std.proofs.lemmas.List.{reverse-reverse}
use Rattle.tcc_reads.specs.History.{count}
use Rattle.tcc_graph.specs.Levels.{Judged}
use Rattle.tcc_graph.specs.Links.{link_from, link_to, link_cost, cost}
use Rattle.tcc_graph.specs.Routes.{LinksLead, IsCycle, IsLeastCycle, IsUpwardRoute, IsDistance}
use Rattle.tcc_graph.specs.Ties.{link_cmp, IsFirstCycle}
use Rattle.tcc_graph.specs.declared.link.Link.{Link}
use Rattle.tcc_graph.proofs.Pairs.{link_below}
use Rattle.tcc_graph.proofs.Linking.{some_cost, cost_cons, cost_append, cost_around, some_links, lead_append, lead_split, lead_start, route_below}
use Rattle.tcc_graph.proofs.Upward.{turn_lowest}
use Rattle.tcc_derive.specs.Prices.{Tables, IsLinkOf, IsLeastAmong, IsCost, IsPricesOf, cost_at}
use Rattle.tcc_core.specs.Shares.{IsCappedDistance}
use Rattle.tcc_core.specs.Returns.{IsFirstReturn, come_to}
use Rattle.tcc_core.specs.private.Ways.{spent, IsBefore, IsFirstLink}
use Rattle.tcc_core.specs.declared.first_return.FirstReturn.{FirstReturn}
use Rattle.tcc_derive.proofs.Backwards.{Picks, Picks-push, Picks-at}
use Rattle.tcc_derive.proofs.CycleLemmas.{turned}
use Rattle.tcc_derive.proofs.UpwardLemmas.{begins_above, first_links}
use Rattle.tcc_derive.proofs.PickedLemmas.{IsBack, ends_back, first_from_picked}

-- Some links were picked. They lead on from `end` back to the start, what is left is the cost of coming to `end`, and each was the first
-- that could be picked.
pub record IsUnderWay (j : Judged) (r : FirstReturn) (end : ℕ) (left : ℕ) (picked : List Link) : Type 0 where
  pub below : end < count j.history
  pub back : LinksLead j end r.start (reverse picked)
  pub costs : left + cost (reverse picked) ≡ r.cost
  pub way : (front : List Link) × LinksLead j r.start end front × (cost front ≡ left)
  pub picks : Picks link_cmp (IsBack j r.start) [] picked

-- the last of some links
last_link : (links : List Link) → 0 < length links → (front : List Link) × (l : Link) × (links ≡ front ++ l ∷ [])
last_link [] some = absurd (omega arith)
last_link (l ∷ []) some = ([], l, refl)
last_link (l ∷ (m ∷ links)) some = let w = last_link (m ∷ links) (omega arith) in (l ∷ w.0, w.1, ap (λ ls. l ∷ ls) w.2)

module _ {j : Judged} {t : Tables} {r : FirstReturn} (priced : IsPricesOf j t) (is : IsFirstReturn j r) where
  least_of : (u : ℕ) (links : List Link) → IsCycle j u links → r.cost ≤ cost links
  least_of u links cycle =
      let (s, others, least, costs) = is.least in
      omega (arith, least.least u links cycle, costs)

  back_distance : IsDistance j r.start r.start r.cost
  back_distance = is.back

  exact_cost : (links : List Link) → IsLeastCycle j r.start links → cost links ≡ r.cost
  exact_cost links least =
      let (others, cycle, costs) = back_distance.attained in
      let high : cost links ≤ cost others = least.least r.start others cycle.0 in
      omega (arith, least_of r.start links least.cycle)

  start_below : r.start < count j.history
  start_below = let (others, cycle, costs) = back_distance.attained in route_below j r.start r.start others cycle.0

  some_left : 0 < r.cost
  some_left = let (others, cycle, costs) = back_distance.attained in omega (arith, some_links others cycle.0.0)

  -- no least cycle starts below
  lowest_start : (u : ℕ) (others : List Link) → IsLeastCycle j u others → r.start ≤ u
  lowest_start u others other = go (cases_lt u r.start)
    where
      go : (u < r.start) ⊎ (r.start ≤ u) → r.start ≤ u
      go (inl lower) =
          let (links, cycle, costs) = back_distance.attained in
          let w = turn_lowest j u others other.cycle in
          let high : cost others ≤ cost links = other.least r.start links cycle.0 in
          let low : r.cost ≤ cost others = least_of u others other.cycle in
          let same : cost w.turned ≡ r.cost = omega (arith, high, low, costs, w.costs) in
          absurd (is.first w.lowest (omega (arith, w.low))
          (record { attained = (w.turned, w.route, same); least = λ ways route. least_of w.lowest ways route.0 }))
      go (inr higher) = higher

  -- nothing was picked so far
  pub under_way : IsUnderWay j r r.start r.cost []
  under_way =
      let (others, cycle, costs) = back_distance.attained in
      record { below = start_below; back = refl; costs = omega arith; way = (others, cycle.0.1, costs); picks = tt }

  module _ {end left : ℕ} {picked : List Link} (way : IsUnderWay j r end left picked) where
    -- no way over a last link costs less than the least cycle
    around : (u : ℕ) (front : List Link) (o : Link) → LinksLead j r.start u front → IsLinkOf j u end o
        → r.cost ≤ cost front + (link_cost o + cost (reverse picked))
    around u front o lead leads =
        let on : LinksLead j u r.start (o ∷ reverse picked) =
        (leads.from, leads.link, subst (λ (z : ℕ). LinksLead j z r.start (reverse picked)) (sym leads.to) way.back) in
        let long : 0 < length (front ++ o ∷ reverse picked) = rw length-append (omega arith) in
        let low : r.cost ≤ cost (front ++ o ∷ reverse picked) =
        least_of r.start (front ++ o ∷ reverse picked) (long, lead_append j r.start u r.start front (o ∷ reverse picked) lead on) in
        omega (arith, cost_around front o (reverse picked))

    -- a link that ends some least cycle together with those picked
    module _ (front : List Link) (o : Link) (ends : IsLeastCycle j r.start (front ++ o ∷ reverse picked)) where
      leads_there : LinksLead j r.start (link_from o) front
      leads_there =
          let (m, lead, on) = lead_split j r.start r.start front (o ∷ reverse picked) ends.cycle.1 in
          subst (λ (z : ℕ). LinksLead j r.start z front) (sym on.0) lead

      link_there : IsLinkOf j (link_from o) end o
      link_there =
          let (m, lead, on) = lead_split j r.start r.start front (o ∷ reverse picked) ends.cycle.1 in
          record { from = refl; to = lead_start j (link_to o) end r.start (reverse picked) on.2 way.back; link = on.1 }

      -- the start of the link is not below that of the search
      above_there : r.start ≤ link_from o
      above_there = begins_above j r.start lowest_start front o (reverse picked) ends

      route_there : 0 < length front → IsUpwardRoute j r.start (link_from o) front
      route_there some = ((some, leads_there), first_links j r.start lowest_start (link_from o) front (o ∷ reverse picked) ends leads_there)

      left_there : cost front + link_cost o ≡ left
      left_there = omega (arith, exact_cost (front ++ o ∷ reverse picked) ends, cost_around front o (reverse picked), way.costs)

      no_front : link_from o ≡ r.start → (links : List Link) → LinksLead j r.start (link_from o) links → cost links ≡ cost front → cost front ≡ 0
      no_front same [] lead e = sym e
      no_front same (l ∷ links) lead e =
          let cycle : IsCycle j r.start (l ∷ links) = (omega arith, subst (λ (z : ℕ). LinksLead j r.start z (l ∷ links)) same lead) in
          absurd (omega (arith, least_of r.start (l ∷ links) cycle, left_there, way.costs, some_cost o))

      some_front : link_from o ≢ r.start → (links : List Link) → LinksLead j r.start (link_from o) links → 0 < length links
      some_front other [] lead = absurd (other (sym lead))
      some_front other (l ∷ links) lead = omega arith

      -- what the row has there is below its cap, since a link is still to follow
      in_row_there : link_from o ≢ r.start → (d : Option ℕ) → IsCappedDistance j r.start (link_from o) (Some r.cost) d → d ≡ Some (cost front)
      in_row_there other None none = absurd none
      in_row_there other (Some d) (inr (capped, high)) =
          absurd (omega (arith, high front (route_there (some_front other front leads_there)), left_there, way.costs, some_cost o))
      in_row_there other (Some d) (inl (less, distance)) =
          let (links, route, costs) = distance.attained in
          let low : d ≤ cost front = distance.least front (route_there (some_front other front leads_there)) in
          let same : d ≡ cost front = omega (arith, around (link_from o) links o route.0.1 link_there, left_there, way.costs) in
          ap (λ z. Some z) same

      come_there : spent r (link_from o) ≡ Some (cost front)
      come_there = go (cases_eq (link_from o) r.start)
        where
          go : (link_from o ≡ r.start) ⊎ (link_from o ≡ r.start → ⊥) → spent r (link_from o) ≡ Some (cost front)
          go (inl same) = rw (eq-eqb (link_from o) r.start same) (ap (λ z. Some z) (sym (no_front same front leads_there refl)))
          go (inr other) =
              rw (ne_eqb (link_from o) r.start other)
              (in_row_there other (come_to r (link_from o)) (is.exact (link_from o) above_there (link_below j o link_there.link).0))

      cost_there : (k : Option ℕ) → IsCost j (link_from o) end k → k ≡ Some (link_cost o)
      cost_there None none = absurd (none o link_there)
      cost_there (Some k) least =
          let (other, leads, costs) = least.attained in
          let low : k ≤ link_cost o = least.least o link_there in
          let same : k ≡ link_cost o = omega (arith, around (link_from o) front other leads_there leads, left_there, way.costs) in
          ap (λ z. Some z) same

      pub before_there : IsBefore t r end left (link_from o) (cost front)
      before_there = record {
        come = come_there;
        on = (link_cost o, cost_there (cost_at t (link_from o) end) (priced.costed (link_from o) end (link_below j o link_there.link).0 way.below), left_there);
      }

    -- there is a link to pick
    pub never_stuck : left ≢ 0 → ((u c : ℕ) → r.start ≤ u → u < count j.history → IsBefore t r end left u c → ⊥) → ⊥
    never_stuck some none =
        let (links, lead, costs) = way.way in
        go links lead costs (some_of links costs)
      where
        some_of : (links : List Link) → cost links ≡ left → 0 < length links
        some_of [] costs = absurd (some (sym costs))
        some_of (l ∷ links) costs = omega arith

        go : (links : List Link) → LinksLead j r.start end links → cost links ≡ left → 0 < length links → ⊥
        go links lead costs long =
            let (front, o, e) = last_link links long in
            let joined : links ++ reverse picked ≡ front ++ o ∷ reverse picked =
            ap (λ ls. ls ++ reverse picked) e ∙ append_assoc front (o ∷ []) (reverse picked) in
            let whole : cost (links ++ reverse picked) ≡ r.cost = omega (arith, cost_append links (reverse picked), way.costs) in
            let cycle : IsCycle j r.start (links ++ reverse picked) =
            (rw length-append (omega arith), lead_append j r.start end r.start links (reverse picked) lead way.back) in
            let least : IsLeastCycle j r.start (links ++ reverse picked) =
            record { cycle = cycle; least = λ u others other. omega (arith, least_of u others other) } in
            let ends : IsLeastCycle j r.start (front ++ o ∷ reverse picked) = subst (λ (ls : List Link). IsLeastCycle j r.start ls) joined least in
            none (link_from o) (cost front) (above_there front o ends) (link_below j o (link_there front o ends).link).0 (before_there front o ends)

    -- the first link from the least number is the one to pick
    module _ {u c : ℕ} {l : Link} (above : r.start ≤ u) (from : u < count j.history) (before : IsBefore t r end left u c)
        (lowest : (w d : ℕ) → r.start ≤ w → w < u → IsBefore t r end left w d → ⊥) (first : IsFirstLink j u end l) where
      pub left_of : c + link_cost l ≡ left
      left_of =
          let (k, at, sum) = before.on in
          let least : IsLeastAmong (IsLinkOf j u end) k = subst (λ (o : Option ℕ). IsCost j u end o) at (priced.costed u end from way.below) in
          let (other, leads, costs) = least.attained in
          omega (arith, least.least l first.leads, first.least other leads)

      come_from : u ≢ r.start → (d : Option ℕ) → IsCappedDistance j r.start u (Some r.cost) d → d ≡ Some c → IsDistance j r.start u c
      come_from other None none e = absurd none
      come_from other (Some d) (inr (capped, high)) e =
          let same : d ≡ c = cc in
          absurd (omega (arith, same, capped, left_of, way.costs, some_cost l))
      come_from other (Some d) (inl (less, distance)) e =
          let same : d ≡ c = cc in
          subst (λ (z : ℕ). IsDistance j r.start u z) same distance

      front_of : (d : Option ℕ) → spent r u ≡ d → d ≡ Some c → (front : List Link) × LinksLead j r.start u front × (cost front ≡ c)
      front_of d e some = go (cases_eq u r.start)
        where
          go : (u ≡ r.start) ⊎ (u ≡ r.start → ⊥) → (front : List Link) × LinksLead j r.start u front × (cost front ≡ c)
          go (inl same) =
              let nothing : Some 0 ≡ d = rw (eq-eqb u r.start same) at e in
              let none : 0 ≡ c = cc in
              ([], sym same, none)
          go (inr other) =
              let inside : come_to r u ≡ d = rw (ne_eqb u r.start other) at e in
              let (links, route, costs) = (come_from other (come_to r u) (is.exact u above from) (inside ∙ some)).attained in
              (links, route.0.1, costs)

      same_spent : (d : ℕ) → spent r u ≡ Some d → d ≡ c
      same_spent d e = let come = before.come in cc

      up_to : (front : List Link) (o : Link) → IsLeastCycle j r.start (front ++ o ∷ reverse picked) → link_cmp l o ≢ Greater
      up_to front o ends = go (cases_order u (link_from o))
        where
          there : IsBefore t r end left (link_from o) (cost front)
          there = before_there front o ends

          go : (u ≡ link_from o) ⊎ ((u < link_from o) ⊎ (link_from o < u)) → link_cmp l o ≢ Greater
          go (inl same) =
              let spent_there : spent r u ≡ Some (cost front) = subst (λ (z : ℕ). spent r z ≡ Some (cost front)) (sym same) there.come in
              let leads : IsLinkOf j u end o = subst (λ (z : ℕ). IsLinkOf j z end o) (sym same) (link_there front o ends) in
              first.first o leads (omega (arith, same_spent (cost front) spent_there, left_there front o ends, left_of))
          go (inr (inl lower)) = rw (first.leads.from, lt-ltb u (link_from o) lower) (λ e. cc)
          go (inr (inr higher)) = absurd (lowest (link_from o) (cost front) (above_there front o ends) higher there)

      pub one_more : IsUnderWay j r u c (picked ++ l ∷ [])
      one_more =
          let from_back : LinksLead j u r.start (l ∷ reverse picked) =
          (first.leads.from, first.leads.link, subst (λ (z : ℕ). LinksLead j z r.start (reverse picked)) (sym first.leads.to) way.back) in
          record {
            below = from;
            back = rw (turned picked l []) from_back;
            costs = rw (turned picked l []) (omega (arith, cost_cons l (reverse picked), left_of, way.costs));
            way = front_of (spent r u) refl before.come;
            picks = Picks-push link_cmp (IsBack j r.start) [] picked l way.picks (λ o others ends. up_to (reverse others) o (rw turned at ends));
          }

  -- nothing is left
  pub all_paid : {end : ℕ} {picked : List Link} → IsUnderWay j r end 0 picked → cost (reverse picked) ≡ r.cost
  all_paid way = omega (arith, way.costs)

  pub all_picked : {end : ℕ} {picked : List Link} → IsUnderWay j r end 0 picked → IsFirstCycle j r.start (reverse picked)
  all_picked {end} {picked} way = first_from_picked j r.start (reverse picked) (record {
    least = least;
    lowest = lowest_start;
    each = λ front l rest e other (others, ends).
        let there : picked ≡ reverse rest ++ l ∷ reverse front = sym (reverse-reverse picked) ∙ ap reverse e ∙ turned front l rest in
        let picks = subst (λ (ls : List Link). Picks link_cmp (IsBack j r.start) [] ls) there way.picks in
        Picks-at link_cmp (IsBack j r.start) [] (reverse rest) l (reverse front) picks other (reverse others) (ends_back j r.start others other rest ends);
  })
    where
      start_of : (front : List Link) → LinksLead j r.start end front → cost front ≡ 0 → r.start ≡ end
      start_of [] lead e = lead
      start_of (l ∷ front) lead e = absurd (omega (arith, cost_cons l front, some_cost l))

      some_picked : (links : List Link) → cost links ≡ r.cost → 0 < length links
      some_picked [] e = absurd (omega (arith, some_left))
      some_picked (l ∷ links) e = omega arith

      least : IsLeastCycle j r.start (reverse picked)
      least =
          let (front, lead, nothing) = way.way in
          let same : r.start ≡ end = start_of front lead nothing in
          let costs : cost (reverse picked) ≡ r.cost = omega (arith, way.costs) in
          record {
            cycle = (some_picked (reverse picked) costs, subst (λ (z : ℕ). LinksLead j z r.start (reverse picked)) (sym same) way.back);
            least = λ u others other. omega (arith, least_of u others other);
          }
