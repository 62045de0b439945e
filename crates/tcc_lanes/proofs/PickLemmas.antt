-- The links of a cheapest way back, picked from the last backwards.
use Rattle.std.proofs.Common.{◌≡◌, ◌<◌, ◌≤◌, ◌+◌, ◌⊎◌, inl, inr, ℕ, List, [], ◌∷◌, ◌++◌, length, length-append, append_assoc, get_or, refl, sym, subst, ◌∙◌, arith}
use Rattle.std.specs.List.{All, AllPairs, Contains}
use Rattle.std.proofs.lemmas.Bool.{cases_lt}
use Rattle.std.proofs.lemmas.List.{get_or_default}
use Rattle.std.proofs.lemmas.List.Elements.{All-head, All-tail}
use Rattle.tcc_graph.specs.Levels.{Judged}
use Rattle.tcc_graph.specs.Links.{IsLink, cost, link_cost, link_from, link_to}
use Rattle.tcc_graph.specs.Routes.{IsCycle, LinksLead}
use Rattle.tcc_graph.specs.declared.link.Link.{Link}
use Rattle.tcc_graph.proofs.Linking.{cost_append, cost_around, cost_cons, lead_append, some_cost}
use Rattle.tcc_lanes.specs.Among.{IsAmong}
use Rattle.tcc_lanes.specs.Picked.{ArePicked, HasAllAmong, IsLastAt, IsLowestStart}
use Rattle.tcc_lanes.specs.declared.pricing.TheConstants.{NONE}
use Rattle.tcc_lanes.specs.private.Pricing.{ArePriceRows, HasReturn, IsFirstBefore, IsReached, price_of}
use Rattle.tcc_lanes.proofs.SettledCosts.{come_to, returned}

-- the way back from a member to the start, by the links picked so far
pub record IsOnWay (j : Judged) (s : ℕ) (n : ℕ) (v : ℕ) (left : ℕ) (picks : List ℕ) : Type 0 where
  pub back : (links : List Link) × LinksLead j v s links × (left + cost links ≡ n)
  pub picked : (rest : List ℕ) → ArePicked j s v left rest → ArePicked j s s n (picks ++ rest)

all_before : (P : Link → Type 0) (front rest : List Link) → All P (front ++ rest) → All P front
all_before P [] rest all = λ i d inside. absurd (omega (arith, inside))
all_before P (l ∷ front) rest all = Rattle.std.proofs.lemmas.List.Elements.All-cons P l front (All-head P l (front ++ rest) all) (all_before P front rest (All-tail P l (front ++ rest) all))

all_at : (P : Link → Type 0) (front : List Link) (l : Link) (rest : List Link) → All P (front ++ l ∷ rest) → P l
all_at P [] l rest all = All-head P l rest all
all_at P (k ∷ front) l rest all = all_at P front l rest (All-tail P k (front ++ l ∷ rest) all)

module _ (j : Judged) (members : List ℕ) (n most : ℕ) (limit : most ≡ n + 1) (rows : List (List ℕ)) (are : ArePriceRows j members most (length members) rows)
    (ascending : AllPairs (λ u v. u < v) members) (s : ℕ) (inside : s < length members) (high : most ≤ NONE) (level : ℕ) (costs : List ℕ) (far : most ≤ level + 1)
    (w : IsReached j members rows s level costs) (has : HasReturn j members most s) (every : HasAllAmong j members n)
    (lowest : IsLowestStart j n (get_or members s 0)) where
  abbrev start : ℕ
  start = get_or members s 0

  low : get_or costs s 0 < most
  low = returned j members most rows are s inside ascending level costs far w has

  -- the way back costs exactly n
  pub exact : get_or costs s 0 ≡ n
  exact = let (links, route, listed, cheap) = w.sound s inside (omega (arith, low, high)) in omega (arith, every.none start links route, cheap, low, limit)

  pub way_none : IsOnWay j start n start (get_or costs s 0) []
  way_none = record { back = ([], refl, omega (arith, exact)); picked = λ rest is. subst (λ (z : ℕ). ArePicked j start start z rest) exact is }

  module _ (to : ℕ) (within : to < length members) (picks : List ℕ) (way : IsOnWay j start n (get_or members to 0) (get_or costs to 0) picks) where
    abbrev v : ℕ
    v = get_or members to 0

    abbrev left : ℕ
    left = get_or costs to 0

    abbrev closing : List Link
    closing = way.back.0

    -- a link that ends the way closes a cycle
    closed : (front : List Link) (l : Link) → LinksLead j start (link_from l) front → IsLink j l → link_to l ≡ v → IsCycle j start (front ++ l ∷ closing)
    closed front l lead is ends = (
      rw length-append (omega arith),
      lead_append j start (link_from l) start front (l ∷ closing) lead (refl, is, subst (λ (z : ℕ). LinksLead j z start closing) (sym ends) way.back.1),
    )

    costs_so : (front : List Link) (l : Link) → cost (front ++ l ∷ closing) ≡ cost front + (link_cost l + cost closing)
    costs_so front l = cost_around front l closing

    -- and the same cycle from where the link begins
    turned : (front : List Link) (l : Link) → LinksLead j start (link_from l) front → IsLink j l → link_to l ≡ v → IsCycle j (link_from l) (l ∷ (closing ++ front))
    turned front l lead is ends = (
      omega arith,
      (
        refl,
        is,
        lead_append j (link_to l) start (link_from l) closing front (subst (λ (z : ℕ). LinksLead j z start closing) (sym ends) way.back.1) lead,
      ),
    )

    -- no link that ends the way begins below the start
    above : (u q : ℕ) → IsLastAt j start v left u q → start ≤ u
    above u q last =
        let (l, from, ends, is, costs_q) = last.link in
        let (front, lead, sum) = last.way in
        let there : LinksLead j start (link_from l) front = subst (λ (z : ℕ). LinksLead j start z front) (sym from) lead in
        omega (
          arith,
          from,
          lowest (link_from l) (l ∷ (closing ++ front)) (turned front l there is ends)
              (omega (arith, cost_cons l (closing ++ front), cost_append closing front, costs_q, sum, way.back.2)),
        )

    -- a link that costs at most what is left, after a way that costs at most the rest
    last_at : (l : Link) (front : List Link) → link_to l ≡ v → IsLink j l → LinksLead j start (link_from l) front → cost front + link_cost l ≤ left
        → cost front + link_cost l ≡ left
    last_at l front ends is lead few = omega (arith, few, every.none start (front ++ l ∷ closing) (closed front l lead is ends), costs_so front l, way.back.2)

    few_left : left < NONE
    few_left = omega (arith, way.back.2, limit, high)

    -- over a member
    module _ (from : ℕ) (here : from < length members) (found : IsFirstBefore rows s costs to from) where
      abbrev u : ℕ
      u = get_or members from 0

      one : (l : Link) × (link_from l ≡ u) × (link_to l ≡ v) × IsLink j l × (link_cost l ≤ price_of rows from to)
      one = (are.each from here here).sound to within (omega (arith, found.sum, few_left))

      before : (links : List Link) × LinksLead j start u links × (cost links ≤ get_or costs from 0)
      before = let (links, route, listed, cheap) = w.sound from here (omega (arith, found.sum, few_left)) in (links, route.1, cheap)

      sums : cost before.0 + link_cost one.0 ≡ left
      sums = last_at one.0 before.0 one.2 one.3 (subst (λ (z : ℕ). LinksLead j start z before.0) (sym one.1) before.1)
          (omega (arith, found.sum, one.4, before.2))

      last_link : IsLastAt j start v left u (link_cost one.0)
      last_link = record { link = (one.0, one.1, one.2, one.3, refl); way = (before.0, before.1, sums) }

      lower : (z p : ℕ) → IsLastAt j start v left z p → u ≤ z
      lower z p last = at_member (all_at (IsAmong members) front l closing all).0 front lead there sum
        where
          l : Link
          l = last.link.0

          front : List Link
          front = last.way.0

          lead : LinksLead j start z front
          lead = last.way.1

          sum : cost front + p ≡ left
          sum = last.way.2

          is_cycle : IsCycle j start (front ++ l ∷ closing)
          is_cycle = closed front l (subst (λ (y : ℕ). LinksLead j start y front) (sym last.link.1) lead) last.link.3 last.link.2

          all : All (IsAmong members) (front ++ l ∷ closing)
          all = every.all start (front ++ l ∷ closing) is_cycle (omega (arith, costs_so front l, last.link.4, sum, way.back.2))

          there : All (IsAmong members) front
          there = all_before (IsAmong members) front (l ∷ closing) all

          at_member : Contains members (link_from l) → (ls : List Link) → LinksLead j start z ls → All (IsAmong members) ls → cost ls + p ≡ left → u ≤ z
          at_member (k, inside_k, at) ls leads listed sums_to = go ls leads listed sums_to (cases_lt k from)
            where
              member : get_or members k 0 ≡ z
              member = get_or_default members k 0 (link_from l) inside_k ∙ (at ∙ last.link.1)

              cheap : price_of rows k to ≤ p
              cheap = omega (
                arith,
                (are.each k inside_k inside_k).all to within l (last.link.1 ∙ sym member) last.link.2 last.link.3
                    (omega (arith, last.link.4, sum, way.back.2, limit)),
                last.link.4,
              )

              go : (ls : List Link) → LinksLead j start z ls → All (IsAmong members) ls → cost ls + p ≡ left → (k < from) ⊎ (from ≤ k) → u ≤ z
              go [] leads listed sums_to q = absurd (found.later (omega (arith, direct, w.first to within)))
                where
                  same : k ≡ s
                  same = go_same (cases_lt k s) (cases_lt s k)
                    where
                      go_same : (k < s) ⊎ (s ≤ k) → (s < k) ⊎ (k ≤ s) → k ≡ s
                      go_same (inl less) r = absurd (omega (arith, ascending k s 0 less inside, member, leads))
                      go_same (inr more) (inl less) = absurd (omega (arith, ascending s k 0 less inside_k, member, leads))
                      go_same (inr more) (inr again) = omega (arith, more, again)

                  direct : price_of rows s to ≤ left
                  direct = subst (λ (y : ℕ). price_of rows y to ≤ left) same (omega (arith, cheap, sums_to))
              go (a ∷ ls) leads listed sums_to (inl less) = absurd (found.first k less (omega (arith, high_sum, low_sum)))
                where
                  come : get_or costs k 0 ≤ cost (a ∷ ls)
                  come = come_to j members most rows are s inside ascending level costs far w k (a ∷ ls) inside_k (omega arith)
                      (subst (λ (y : ℕ). LinksLead j start y (a ∷ ls)) (sym member) leads) listed (omega (arith, sums_to, way.back.2, limit))

                  high_sum : get_or costs k 0 + price_of rows k to ≤ left
                  high_sum = omega (arith, come, cheap, sums_to)

                  low_sum : left ≤ get_or costs k 0 + price_of rows k to
                  low_sum = w.over k to inside_k within (omega (arith, come, sums_to, way.back.2, limit, far, last.link.4, some_cost l))
              go (a ∷ ls) leads listed sums_to (inr more) = same_or (cases_lt from k)
                where
                  same_or : (from < k) ⊎ (k ≤ from) → u ≤ z
                  same_or (inl after) = omega (arith, ascending from k 0 after inside_k, member)
                  same_or (inr again) =
                      let same : from ≡ k = omega (arith, more, again) in
                      omega (arith, subst (λ (y : ℕ). get_or members y 0 ≡ z) (sym same) member)

      rest_of : get_or costs from 0 + link_cost one.0 ≡ left
      rest_of = omega (arith, sums, before.2, one.4, found.sum)

      pub way_more : IsOnWay j start n u (get_or costs from 0) (picks ++ u ∷ [])
      way_more = record {
        back = (
          one.0 ∷ closing,
          (one.1, one.3, subst (λ (z : ℕ). LinksLead j z start closing) (sym one.2) way.back.1),
          omega (arith, cost_cons one.0 closing, rest_of, way.back.2),
        );
        picked = λ rest is. rw append_assoc (way.picked (u ∷ rest)
            (link_cost one.0, record { last = last_link; lowest = lower }, (get_or costs from 0, rest_of, is)));
      }

    -- or directly from the start
    pub way_done : price_of rows s to ≡ left → ArePicked j start start n (picks ++ start ∷ [])
    way_done direct = way.picked (start ∷ []) (link_cost l, record { last = last; lowest = λ z p other. above z p other }, (0, omega (arith, costs_l), (refl, refl)))
      where
        one : (l : Link) × (link_from l ≡ start) × (link_to l ≡ v) × IsLink j l × (link_cost l ≤ price_of rows s to)
        one = (are.each s inside inside).sound to within (omega (arith, direct, few_left))

        l : Link
        l = one.0

        costs_l : link_cost l ≡ left
        costs_l = omega (arith, last_at l [] one.2 one.3 (sym one.1) (omega (arith, one.4, direct)))

        last : IsLastAt j start v left start (link_cost l)
        last = record { link = (l, one.1, one.2, one.3, refl); way = ([], refl, omega (arith, costs_l)) }

-- where no cycle returns to an earlier member, no cycle that costs n starts below this one
pub lowest_start : (j : Judged) (members : List ℕ) (n most : ℕ) → most ≡ n + 1 → AllPairs (λ u v. u < v) members → (s : ℕ)
    → ((t : ℕ) → t < s → t < length members → HasReturn j members most t → ⊥) → HasAllAmong j members n → IsLowestStart j n (get_or members s 0)
lowest_start j members n most limit ascending s none every t [] cycle costs = absurd (omega (arith, cycle.0))
lowest_start j members n most limit ascending s none every t (l ∷ links) cycle costs = go (All-head (IsAmong members) l links all).0
  where
    all : All (IsAmong members) (l ∷ links)
    all = every.all t (l ∷ links) cycle costs

    go : Contains members (link_from l) → get_or members s 0 ≤ t
    go (k, inside, at) = by (cases_lt k s) (cases_lt s k)
      where
        member : get_or members k 0 ≡ t
        member = get_or_default members k 0 (link_from l) inside ∙ (at ∙ cycle.1.0)

        by : (k < s) ⊎ (s ≤ k) → (s < k) ⊎ (k ≤ s) → get_or members s 0 ≤ t
        by (inl less) q =
            absurd (none k less inside (l ∷ links, subst (λ (z : ℕ). IsCycle j z (l ∷ links)) (sym member) cycle, all, omega (arith, costs, limit)))
        by (inr more) (inl before) = omega (arith, ascending s k 0 before inside, member)
        by (inr more) (inr again) =
            let same : k ≡ s = omega (arith, more, again) in omega (arith, subst (λ (z : ℕ). get_or members z 0 ≡ t) same member)
