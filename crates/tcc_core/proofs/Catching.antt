-- A search that catches up: all ways within a cap become known.
use Rattle.std.proofs.Common.{◌≡◌, ◌≢◌, ◌<◌, ◌≤◌, ◌+◌, ℕ, ◌⊎◌, inl, inr, List, length, slice_index, Option, None, Some, refl, sym, ◌∙◌, subst, arith}
use Rattle.std.proofs.lemmas.Bool.{cases_lt}
use Rattle.tcc_reads.specs.History.{count}
use Rattle.tcc_graph.specs.Levels.{Judged}
use Rattle.tcc_graph.specs.Links.{link_cost}
use Rattle.tcc_derive.specs.Prices.{Tables, cost_at, IsPricesOf}
use Rattle.tcc_core.specs.Rows.{in_row, cap_of, IsWithin}
use Rattle.tcc_core.specs.Searches.{Search, IsSearchOf}
use Rattle.tcc_core.specs.Frontiers.{HasCome, IsWay}
use Rattle.tcc_core.specs.private.Offers.{IsLower, IsOffered, IsWayOn, IsWayOver}
use Rattle.tcc_core.specs.private.Relaxing.{IsBounded}
use Rattle.tcc_core.proofs.Costs.{cost_of_link, link_of_cost, cost_few}
use Rattle.tcc_core.proofs.Lowering.{within_cap, capped_low, within_row}
use Rattle.tcc_core.proofs.Offered.{lower_least, lower_some, lower_then, offered_none, offered_then, offered_same}
use Rattle.tcc_core.proofs.FrontierLemmas.{way_below}
use Rattle.tcc_core.specs.declared.queue.TheConstants.{NO_WAY}

-- ---- ways on from all that the row has

-- a way on from what the row has below k
abbrev pub IsWayBelow : Tables → ℕ → List (Option ℕ) → ℕ → ℕ → ℕ → ℕ → Type 0
IsWayBelow t s row cap k v n = (u : ℕ) × (d : ℕ) × (u < k) × (in_row row u ≡ Some d) × IsWayOn t s u d cap v n

module _ (t : Tables) (s : ℕ) (row : List (Option ℕ)) (cap floor : ℕ) where
  pub caught_none : (costs : List ℕ) → IsOffered (IsWayBelow t s row cap 0) floor costs costs
  caught_none costs = offered_none (IsWayBelow t s row cap 0) floor costs (λ v n within (u, d, low, has, way) above. absurd (omega (arith, low)))

  pub caught_next : (k d : ℕ) (old mid new : List ℕ) → in_row row k ≡ Some d → IsOffered (IsWayBelow t s row cap k) floor old mid
      → IsOffered (IsWayOn t s k d cap) floor mid new → IsOffered (IsWayBelow t s row cap (k + 1)) floor old new
  caught_next k d old mid new here first then =
      offered_then (IsWayBelow t s row cap k) (IsWayOn t s k d cap) (IsWayBelow t s row cap (k + 1)) floor old mid new
      (λ v n (u, c, low, has, way). split v n u c low has way (cases_lt u k))
      (λ v n (u, c, low, has, way). (u, c, omega (arith, low), has, way))
      (λ v n way. (k, d, omega arith, here, way))
      first then
    where
      split : (v n u c : ℕ) → u < k + 1 → in_row row u ≡ Some c → IsWayOn t s u c cap v n → (u < k) ⊎ (k ≤ u)
          → IsWayBelow t s row cap k v n ⊎ IsWayOn t s k d cap v n
      split v n u c low has way (inl less) = inl (u, c, less, has, way)
      split v n u c low has way (inr more) =
          let same : u ≡ k = omega arith in
          let there : in_row row k ≡ Some c = rw same at has in
          let equal : c ≡ d = cc in
          inr (rw (same, equal) at way)

  pub caught_past : (k : ℕ) (old new : List ℕ) → in_row row k ≡ None → IsOffered (IsWayBelow t s row cap k) floor old new
      → IsOffered (IsWayBelow t s row cap (k + 1)) floor old new
  caught_past k old new out is =
      offered_same (IsWayBelow t s row cap k) (IsWayBelow t s row cap (k + 1)) floor old new
      (λ v n within (u, d, low, has, way). (u, d, omega (arith, low), has, way))
      (λ v n within (u, d, low, has, way) above. inl (less v n u d low has way (cases_lt u k)))
      is
    where
      less : (v n u d : ℕ) → u < k + 1 → in_row row u ≡ Some d → IsWayOn t s u d cap v n → (u < k) ⊎ (k ≤ u) → IsWayBelow t s row cap k v n
      less v n u d low has way (inl under) = (u, d, under, has, way)
      less v n u d low has way (inr more) =
          let same : u ≡ k = omega arith in
          let here : in_row row k ≡ Some d = rw same at has in
          let none : None ≡ Some d = sym out ∙ here in
          cc

  pub caught_row : (k : ℕ) (old new : List ℕ) → length row ≤ k → IsOffered (IsWayBelow t s row cap k) floor old new
      → IsOffered (IsWayOver t s row cap) floor old new
  caught_row k old new whole is =
      offered_same (IsWayBelow t s row cap k) (IsWayOver t s row cap) floor old new
      (λ v n within (u, d, low, has, way). (u, d, has, way))
      (λ v n within (u, d, has, way) above. inl (u, d, omega (arith, whole, within_row row u d has), has, way))
      is

  -- ---- ways on from the start

  -- a way on from where the search has come to
  abbrev pub IsWayCome : ℕ → ℕ → Type 0
  IsWayCome v n = (u : ℕ) × (d : ℕ) × HasCome s row u d × IsWayOn t s u d cap v n

  pub caught_both : (old mid new : List ℕ) → IsOffered (IsWayOn t s s 0 cap) floor old mid → IsOffered (IsWayOver t s row cap) floor mid new
      → IsOffered IsWayCome floor old new
  caught_both old mid new first then =
      offered_then (IsWayOn t s s 0 cap) (IsWayOver t s row cap) IsWayCome floor old mid new
      (λ v n (u, d, come, way). split v n u d way come)
      (λ v n way. (s, 0, inl (refl, refl), way))
      (λ v n (u, d, has, way). (u, d, inr has, way))
      first then
    where
      split : (v n u d : ℕ) → IsWayOn t s u d cap v n → HasCome s row u d → IsWayOn t s s 0 cap v n ⊎ IsWayOver t s row cap v n
      split v n u d way (inl (same, nothing)) = inl (rw (same, nothing) at way)
      split v n u d way (inr has) = inr (u, d, has, way)

  pub caught_first : (old new : List ℕ) → ((u d : ℕ) → in_row row u ≡ Some d → ⊥) → IsOffered (IsWayOn t s s 0 cap) floor old new
      → IsOffered IsWayCome floor old new
  caught_first old new nobody is =
      offered_same (IsWayOn t s s 0 cap) IsWayCome floor old new
      (λ v n within way. (s, 0, inl (refl, refl), way))
      (λ v n within (u, d, come, way) above. inl (at_start v n u d way come))
      is
    where
      at_start : (v n u d : ℕ) → IsWayOn t s u d cap v n → HasCome s row u d → IsWayOn t s s 0 cap v n
      at_start v n u d way (inl (same, nothing)) = rw (same, nothing) at way
      at_start v n u d way (inr has) = absurd (nobody u d has)

-- ---- what is known then

-- the costs of a search after the ways on were offered, as far as they are within the cap, from the start and from all that
-- its row has
pub record IsCaught (t : Tables) (search : Search) (floor cap : ℕ) (new : List ℕ) : Type 0 where
  pub lower : IsLower floor search.costs new
  pub offered : (j : Judged) → IsPricesOf j t → IsOffered (IsWayCome t search.start search.row cap floor) floor search.costs new

module _ {search : Search} {floor : ℕ} (bounds : IsBounded search floor) {t : Tables} {cap : ℕ} where
  -- at the opening the row has nothing
  pub caught_opening : {new : List ℕ} → search.limit ≤ 0 → IsLower floor search.costs new
      → ((j : Judged) → IsPricesOf j t → IsOffered (IsWayOn t search.start search.start 0 cap) floor search.costs new) → IsCaught t search floor cap new
  caught_opening {new} opening lower first = record {
    lower = lower;
    offered = λ j priced. caught_first t search.start search.row cap floor search.costs new nobody (first j priced);
  }
    where
      nobody : (u d : ℕ) → in_row search.row u ≡ Some d → ⊥
      nobody u d e = let (some, low, zero) = bounds.joined u d e in omega (arith, some, low, bounds.known, opening)

  pub caught_again : {mid new : List ℕ} → IsLower floor search.costs mid → IsLower floor mid new
      → ((j : Judged) → IsPricesOf j t → IsOffered (IsWayOn t search.start search.start 0 cap) floor search.costs mid)
      → ((j : Judged) → IsPricesOf j t → IsOffered (IsWayOver t search.start search.row cap) floor mid new) → IsCaught t search floor cap new
  caught_again {mid} {new} lower again first then = record {
    lower = lower_then floor search.costs mid new lower again;
    offered = λ j priced. caught_both t search.start search.row cap floor search.costs mid new (first j priced) (then j priced);
  }

module _ {t : Tables} {search : Search} {floor cap : ℕ} {new : List ℕ} (caught : IsCaught t search floor cap new) (bounds : IsBounded search floor) where
  pub bounded_caught : search.limit ≤ cap → IsBounded (record { start = search.start; row = search.row; costs = new; limit = cap }) floor
  bounded_caught more = record {
    below = bounds.below;
    few = bounds.few;
    long = caught.lower.long ∙ bounds.long;
    joined = λ v c e. joined v c e;
    outside = λ v inside out. lower_some floor search.costs new v caught.lower (omega (arith, bounds.long, inside)) (bounds.outside v inside out);
    spent = bounds.spent;
    small = bounds.small;
    known = omega (arith, bounds.known, more);
  }
    where
      joined : (v c : ℕ) → in_row search.row v ≡ Some c → (0 < c) × (c ≤ floor) × (slice_index new v ≡ 0)
      joined v c e =
          let (some, low, zero) = bounds.joined v c e in
          let lower = lower_least floor search.costs new v caught.lower (omega (arith, bounds.long, within_row search.row v c e)) in
          (some, low, omega (arith, zero, lower))

  module _ {j : Judged} {s : ℕ} (priced : IsPricesOf j t) (is : IsSearchOf j s search) where
    come_below : (u d : ℕ) → HasCome s search.row u d → u < count j.history
    come_below u d (inl (same, nothing)) = omega (arith, same, is.below)
    come_below u d (inr inside) = omega (arith, within_row search.row u d inside, is.row.long)

    come_small : (u d : ℕ) → HasCome s search.row u d → d < 2147483648
    come_small u d (inl (same, nothing)) = omega (arith, nothing)
    come_small u d (inr inside) = omega (arith, (bounds.joined u d inside).1, bounds.small)

    offers : IsOffered (IsWayCome t s search.row cap floor) floor search.costs new
    offers = subst (λ (z : ℕ). IsOffered (IsWayCome t z search.row cap floor) floor search.costs new) is.start (caught.offered j priced)

    attained : (v : ℕ) → v < count j.history → in_row search.row v ≡ None → slice_index new v ≢ NO_WAY
        → (slice_index new v ≡ slice_index search.costs v) ⊎ IsWayCome t s search.row cap floor v (slice_index new v)
        → IsWay j s search.row v (slice_index new v)
    attained v within out some (inl same) = rw same (is.frontier.attained v within out (λ e. some (same ∙ e)))
    attained v within out some (inr (u, d, come, (up, c, has, low, equal))) =
        let (l, leads, paid) = link_of_cost j t u v priced (come_below u d come) within c has in
        (up, u, d, l, come, leads, omega (arith, paid, equal))

    least : (v n : ℕ) → in_row search.row v ≡ None → IsWithin (cap_of cap) n → v < count j.history → IsWay j s search.row v n
        → (slice_index new v < NO_WAY) × (slice_index new v ≤ n)
    least v n out capped within (up, u, d, l, come, leads, costs) =
        let (c, has, cheap) = cost_of_link j t u v priced (come_below u d come) within l leads in
        let few : d + c < NO_WAY =
        omega (arith, come_small u d come, cost_few j t u v priced (come_below u d come) within c has, bounds.few, is.row.long) in
        let low : d + c ≤ cap = capped_low cap (d + c) n (omega (arith, cheap, costs)) (omega (arith, few)) capped in
        let found = by c has low few (cases_lt floor (d + c)) in
        (found.0, omega (arith, found.1, cheap, costs))
      where
        by : (c : ℕ) → cost_at t u v ≡ Some c → d + c ≤ cap → d + c < NO_WAY → (floor < d + c) ⊎ (d + c ≤ floor)
            → (slice_index new v < NO_WAY) × (slice_index new v ≤ d + c)
        by c has low few (inl above) =
            let under = offers.least v (d + c) (omega (arith, is.frontier.long, within)) (u, d, come, (up, c, has, low, refl)) above in
            (omega (arith, under, few), under)
        by c has low few (inr down) =
            let (cheapest, leads_on, paid) = link_of_cost j t u v priced (come_below u d come) within c has in
            let known =
            is.frontier.least v (d + link_cost cheapest) out (up, u, d, cheapest, come, leads_on, refl)
            (within_cap search.limit (d + link_cost cheapest) (omega (arith, paid, down, bounds.known))) in
            let lower = lower_least floor search.costs new v caught.lower (omega (arith, is.frontier.long, within)) in
            (omega (arith, known.0, lower), omega (arith, known.1, lower, paid))

    pub search_caught : IsSearchOf j s (record { start = search.start; row = search.row; costs = new; limit = cap })
    search_caught = record {
      start = is.start;
      below = is.below;
      row = is.row;
      frontier = record {
        long = offers.lower.long ∙ is.frontier.long;
        attained = λ v within out some. attained v within out some (offers.from v (omega (arith, is.frontier.long, within)));
        least = λ v n out way within. least v n out within (way_below j s search.row v n way) way;
      };
    }
