-- One more is settled: the nearest outside the row joins it, and the frontier moves on.
use Rattle.std.proofs.Common.{◌≡◌, ◌≢◌, ◌<◌, ◌≤◌, ◌+◌, ℕ, ◌⊎◌, inl, inr, List, length, Option, None, Some, set}
use Rattle.std.proofs.Common.{slice_index, get_or-set_same, get_or-set_other, length-set, refl, sym, ◌∙◌, ap, subst}
use Rattle.std.proofs.Common.{Contains, arith}
use Rattle.std.proofs.lemmas.Bool.{cases_eq, cases_lt}
use Rattle.tcc_reads.specs.History.{count}
use Rattle.tcc_graph.specs.Levels.{Judged}
use Rattle.tcc_graph.specs.Links.{link_cost, cost}
use Rattle.tcc_graph.specs.Routes.{IsUpwardRoute, IsDistance}
use Rattle.tcc_graph.specs.declared.link.Link.{Link}
use Rattle.tcc_graph.proofs.Linking.{some_cost}
use Rattle.tcc_derive.specs.Prices.{Tables, cost_at, IsLinkOf, IsPricesOf}
use Rattle.tcc_core.specs.Rows.{in_row, IsSearchRow, IsEmptyRow, cap_of, IsWithin, IsCutOff, JoinsNearest}
use Rattle.tcc_core.specs.Searches.{IsSearchOf, Search}
use Rattle.tcc_core.specs.Frontiers.{HasCome, IsWay, IsFrontier}
use Rattle.tcc_core.specs.private.Queues.{Queue, IsBeginning, IsNext, IsPast}
use Rattle.tcc_core.specs.private.Offers.{IsLower, IsOffered, IsWayOn}
use Rattle.tcc_core.specs.private.Relaxing.{IsBounded, count_joined}
use Rattle.tcc_core.proofs.Costs.{cost_of_link, link_of_cost, cost_paid, cost_few}
use Rattle.tcc_core.proofs.Lowering.{joined_set, joined_most, within_cap, within_down, capped_low, within_row}
use Rattle.tcc_core.proofs.Offered.{lower_least, lower_some}
use Rattle.tcc_core.proofs.FrontierLemmas.{route_of_way, way_within, way_below}
use Rattle.tcc_txn.specs.declared.limits.TheConstants.{MAX_COUNT}
use Rattle.tcc_core.specs.declared.queue.TheConstants.{NO_WAY}

-- ---- a row that one more transaction has joined

pub out_set : (row : List (Option ℕ)) (v d u : ℕ) → v < length row → in_row (set row v (Some d)) u ≡ None → (u ≢ v) × (in_row row u ≡ None)
out_set row v d u within e = go (cases_eq u v)
  where
    go : (u ≡ v) ⊎ (u ≡ v → ⊥) → (u ≢ v) × (in_row row u ≡ None)
    go (inl same) =
        let there : in_row (set row v (Some d)) u ≡ Some d = rw same (get_or-set_same row v (Some d) None within) in
        cc
    go (inr other) = (other, sym (get_or-set_other row v u (Some d) None other) ∙ e)

pub in_set : (row : List (Option ℕ)) (v d u c : ℕ) → v < length row → in_row (set row v (Some d)) u ≡ Some c → ((u ≡ v) × (c ≡ d)) ⊎ (in_row row u ≡ Some c)
in_set row v d u c within e = go (cases_eq u v)
  where
    go : (u ≡ v) ⊎ (u ≡ v → ⊥) → ((u ≡ v) × (c ≡ d)) ⊎ (in_row row u ≡ Some c)
    go (inl same) =
        let there : in_row (set row v (Some d)) u ≡ Some d = rw same (get_or-set_same row v (Some d) None within) in
        inl (same, cc)
    go (inr other) = inr (sym (get_or-set_other row v u (Some d) None other) ∙ e)

in_kept : (row : List (Option ℕ)) (v d u c : ℕ) → in_row row v ≡ None → in_row row u ≡ Some c → in_row (set row v (Some d)) u ≡ Some c
in_kept row v d u c out e =
    let other : u ≢ v = λ same. let P : in_row row u ≡ None = rw same out in cc in
    get_or-set_other row v u (Some d) None other ∙ e

-- ---- what holds whatever the prices are

module _ {search : Search} {floor : ℕ} (bounds : IsBounded search floor) where
  -- what is open is outside the row
  open_outside : (v : ℕ) → 0 < slice_index search.costs v → in_row search.row v ≡ None
  open_outside v some = go (in_row search.row v) refl
    where
      go : (o : Option ℕ) → in_row search.row v ≡ o → in_row search.row v ≡ None
      go None e = e
      go (Some c) e = absurd (let settled = (bounds.joined v c e).2 in omega (arith, settled, some))

  -- each transaction is outside the row, or is settled
  out_or_settled : (x : ℕ) → (in_row search.row x ≡ None) ⊎ (slice_index search.costs x ≡ 0)
  out_or_settled x = go (in_row search.row x) refl
    where
      go : (o : Option ℕ) → in_row search.row x ≡ o → (in_row search.row x ≡ None) ⊎ (slice_index search.costs x ≡ 0)
      go None e = inl e
      go (Some c) e = inr (bounds.joined x c e).2

  -- what the row has was reached
  pub joined_reached : (reached : List ℕ) → ((v : ℕ) → v < length search.costs → slice_index search.costs v ≢ NO_WAY → Contains reached v)
      → (v : ℕ) → v < length search.row → in_row search.row v ≢ None → Contains reached v
  joined_reached reached each v within some = go (in_row search.row v) refl
    where
      go : (o : Option ℕ) → in_row search.row v ≡ o → Contains reached v
      go None e = absurd (some e)
      go (Some c) e = each v (omega (arith, bounds.long)) (λ far. omega (arith, (bounds.joined v c e).2, far))

  -- where nothing that is open is within the cap, neither is an upward route to anything outside the row
  pub nothing_near : {j : Judged} {s : ℕ} → IsSearchOf j s search → (cap : ℕ) → cap ≤ search.limit → search.limit ≤ 18446744073709551615
      → IsPast cap search.costs → IsCutOff j s search.row (cap_of cap)
  nothing_near {j} {s} is cap known few past v links out route within =
      let (w, k, outside, way, low) = way_within j s search.row is.row v links out route in
      let below : w < length search.row = omega (arith, way_below j s search.row w k way, is.row.long) in
      let least = is.frontier.least w k outside way (within_down cap search.limit k (cost links) low known few within) in
      let over : cap < slice_index search.costs w = past w (omega (arith, below, bounds.long)) (bounds.outside w below outside) least.0 in
      let low : slice_index search.costs w ≤ cap =
      capped_low cap (slice_index search.costs w) (cost links) (omega (arith, least.1, low)) (omega (arith, least.0)) within in
      omega (arith, over, low)

-- ---- what is offered from the one that joins

-- what is offered from v at cost d: the cheapest links, as far as they are within the cap
pub record IsLedOn (t : Tables) (s v d cap : ℕ) (old new : List ℕ) : Type 0 where
  pub long : length new ≡ length old
  pub lower : (x : ℕ) → x < length old → x ≢ v → slice_index new x ≤ slice_index old x
  pub least : (x n : ℕ) → x < length old → x ≢ v → IsWayOn t s v d cap x n → slice_index new x ≤ n
  pub from : (x : ℕ) → x < length old → x ≢ v → (slice_index new x ≡ slice_index old x) ⊎ IsWayOn t s v d cap x (slice_index new x)

-- ---- the nearest joins

-- v joins next: one of the nearest, as far as all ways are known
pub record IsJoining (search : Search) (floor cap v : ℕ) : Type 0 where
  pub bounds : IsBounded search floor
  pub next : IsNext (record { costs = search.costs; floor = floor }) cap v
  pub known : cap ≤ search.limit
  pub few : search.limit ≤ 18446744073709551615

-- the search after that
abbrev pub after : Search → ℕ → List ℕ → ℕ → Search
after search v new cap =
    record { start = search.start; row = set search.row v (Some (slice_index search.costs v)); costs = new; limit = cap }

module _ {search : Search} {floor cap v : ℕ} (joins : IsJoining search floor cap v) where
  abbrev distance : ℕ
  distance = slice_index search.costs v

  inside : v < length search.row
  inside = omega (arith, joins.next.near.below, joins.bounds.long)

  outside : in_row search.row v ≡ None
  outside = open_outside joins.bounds v joins.next.near.open_at

  -- the cost of the nearest is small too
  pub joins_small : slice_index search.costs v < 2147483648
  joins_small = omega (arith, joins.next.window, joins.bounds.spent, joins.bounds.few, joined_most search.row)

  pub bounded_after : {new : List ℕ} → IsLower (slice_index search.costs v) (set search.costs v 0) new
      → IsBounded (after search v new cap) (slice_index search.costs v)
  bounded_after {new} lower = record {
    below = rw length-set joins.bounds.below;
    few = rw length-set joins.bounds.few;
    long = lower.long ∙ length-set search.costs v 0 ∙ joins.bounds.long ∙ sym (length-set search.row v (Some distance));
    joined = λ x c e. joined x c (in_set search.row v distance x c inside e);
    outside = λ x within e. still_outside x (rw length-set at within) (out_set search.row v distance x inside e);
    spent = omega (arith, more, joins.bounds.spent, joins.next.window);
    small = joins_small;
    known = joins.next.within;
  }
    where
      more : count_joined (set search.row v (Some distance)) ≡ count_joined search.row + 1
      more = joined_set search.row v distance inside outside

      settled : (x : ℕ) → x < length search.row → slice_index (set search.costs v 0) x ≡ 0 → slice_index new x ≡ 0
      settled x within e =
          omega (arith, lower_least distance (set search.costs v 0) new x lower (omega (arith, length-set search.costs v 0, joins.bounds.long)), e)

      joined : (x c : ℕ) → ((x ≡ v) × (c ≡ distance)) ⊎ (in_row search.row x ≡ Some c) → (0 < c) × (c ≤ distance) × (slice_index new x ≡ 0)
      joined x c (inl (same, equal)) = (
        omega (arith, equal, joins.next.near.open_at),
        omega (arith, equal),
        rw same (settled v inside (get_or-set_same search.costs v 0 0 joins.next.near.below)),
      )
      joined x c (inr e) =
          let (some, low, zero) = joins.bounds.joined x c e in
          let other : x ≢ v = λ same. absurd (omega (arith, zero, joins.next.near.open_at, ap (slice_index search.costs) same)) in (
            some,
            omega (arith, low, joins.next.above),
            settled x (within_row search.row x c e) (get_or-set_other search.costs v x 0 0 other ∙ zero),
          )

      still_outside : (x : ℕ) → x < length search.row → (x ≢ v) × (in_row search.row x ≡ None) → 0 < slice_index new x
      still_outside x within (other, out) =
          lower_some distance (set search.costs v 0) new x lower (omega (arith, length-set search.costs v 0, joins.bounds.long))
          (omega (arith, joins.bounds.outside x within out, get_or-set_other search.costs v x 0 0 other))

  -- ---- the nearest joins with its distance, and the row stays one of distances

  module _ {j : Judged} {s : ℕ} (is : IsSearchOf j s search) where
    below : v < count j.history
    below = omega (arith, inside, is.row.long)

    -- no upward route to anything outside costs less than the nearest
    least_outside : (u : ℕ) (links : List Link) → in_row search.row u ≡ None → IsUpwardRoute j s u links → distance ≤ cost links
    least_outside u links out route =
        let (w, k, away, way, low) = way_within j s search.row is.row u links out route in
        let there : w < length search.row = omega (arith, way_below j s search.row w k way, is.row.long) in
        go w k away way low there (cases_lt search.limit k)
      where
        go : (w k : ℕ) → in_row search.row w ≡ None → IsWay j s search.row w k → k ≤ cost links → w < length search.row
            → (search.limit < k) ⊎ (k ≤ search.limit) → distance ≤ cost links
        go w k away way low there (inl past) = omega (arith, joins.next.within, joins.known)
        go w k away way low there (inr within) =
            let least = is.frontier.least w k away way (within_cap search.limit k within) in
            omega (arith, joins.next.near.least w (omega (arith, there, joins.bounds.long)) (joins.bounds.outside w there away), least.1)

    is_distance : IsDistance j s v distance
    is_distance =
        let reached : distance ≢ NO_WAY = omega (arith, joins.next.near.reached) in
        record {
          attained = route_of_way j s search.row v distance is.row (is.frontier.attained v below outside reached);
          least = λ links route. least_outside v links outside route;
        }

    pub nearest_joins : JoinsNearest j s (cap_of cap) search.row (set search.row v (Some (slice_index search.costs v))) v (slice_index search.costs v)
    nearest_joins = record {
      outside = outside;
      exact = is_distance;
      nearest = least_outside;
      within = within_cap cap distance joins.next.within;
      joined = refl;
    }

    pub start_joins : v ≡ search.start
        → JoinsNearest j s (cap_of cap) search.row (set search.row v (Some (slice_index search.costs v))) s (slice_index search.costs v)
    start_joins start =
        subst (λ (z : ℕ). JoinsNearest j s (cap_of cap) search.row (set search.row v (Some distance)) z distance) (start ∙ is.start) nearest_joins

    row_after : IsSearchRow j s (set search.row v (Some distance))
    row_after = record {
      long = length-set search.row v (Some distance) ∙ is.row.long;
      exact = λ u c e. exact u c (in_set search.row v distance u c inside e);
      closed = λ u w c links e out route. closed u w c links (in_set search.row v distance u c inside e) (out_set search.row v distance w inside out) route;
    }
      where
        exact : (u c : ℕ) → ((u ≡ v) × (c ≡ distance)) ⊎ (in_row search.row u ≡ Some c) → IsDistance j s u c
        exact u c (inl (same, equal)) = rw (same, equal) is_distance
        exact u c (inr has) = is.row.exact u c has

        closed : (u w c : ℕ) (links : List Link) → ((u ≡ v) × (c ≡ distance)) ⊎ (in_row search.row u ≡ Some c)
            → (w ≢ v) × (in_row search.row w ≡ None) → IsUpwardRoute j s w links → c ≤ cost links
        closed u w c links (inl (same, equal)) (other, out) route = rw equal (least_outside w links out route)
        closed u w c links (inr has) (other, out) route = is.row.closed u w c links has out route

    -- v is settled, and its links are offered
    pub led_on : {t : Tables} {new : List ℕ} → IsPricesOf j t
        → IsOffered (IsWayOn t search.start v (slice_index search.costs v) cap) (slice_index search.costs v) (set search.costs v 0) new
        → IsLedOn t s v (slice_index search.costs v) cap search.costs new
    led_on {t} {new} priced offers = record {
      long = offers.lower.long ∙ length-set search.costs v 0;
      lower = λ x within other. omega (arith, lower_least distance (set search.costs v 0) new x offers.lower (there x within), kept x other);
      least = λ x n within other way. least x n within (subst (λ (z : ℕ). IsWayOn t z v distance cap x n) (sym is.start) way);
      from = λ x within other.
          subst (λ (z : ℕ). (slice_index new x ≡ slice_index search.costs x) ⊎ IsWayOn t z v distance cap x (slice_index new x)) is.start
          (from x other (offers.from x (there x within)));
    }
      where
        there : (x : ℕ) → x < length search.costs → x < length (set search.costs v 0)
        there x within = omega (arith, length-set search.costs v 0)

        kept : (x : ℕ) → x ≢ v → slice_index (set search.costs v 0) x ≡ slice_index search.costs x
        kept x other = get_or-set_other search.costs v x 0 0 other

        least : (x n : ℕ) → x < length search.costs → IsWayOn t search.start v distance cap x n → slice_index new x ≤ n
        least x n within (up, c, has, low, equal) =
            let paid : 1 ≤ c = cost_paid j t v x priced below (omega (arith, is.frontier.long, within)) c has in
            offers.least x n (there x within) (up, c, has, low, equal) (omega (arith, equal, paid))

        from : (x : ℕ) → x ≢ v → (slice_index new x ≡ slice_index (set search.costs v 0) x) ⊎ IsWayOn t search.start v distance cap x (slice_index new x)
            → (slice_index new x ≡ slice_index search.costs x) ⊎ IsWayOn t search.start v distance cap x (slice_index new x)
        from x other (inl same) = inl (same ∙ kept x other)
        from x other (inr way) = inr way

    -- from the start all ways were known before
    pub led_on_start : {t : Tables} → IsPricesOf j t → v ≡ s → IsLedOn t s v (slice_index search.costs v) cap search.costs (set search.costs v 0)
    led_on_start {t} priced start = record {
      long = length-set search.costs v 0;
      lower = λ x within other. omega (arith, get_or-set_other search.costs v x 0 0 other);
      least = λ x n within other way.
          omega (arith, get_or-set_other search.costs v x 0 0 other, least x n within way (out_or_settled joins.bounds x));
      from = λ x within other. inl (get_or-set_other search.costs v x 0 0 other);
    }
      where
        least : (x n : ℕ) → x < length search.costs → IsWayOn t s v distance cap x n
            → (in_row search.row x ≡ None) ⊎ (slice_index search.costs x ≡ 0) → slice_index search.costs x ≤ n
        least x n within way (inr past) = omega (arith, past)
        least x n within (up, c, has, low, equal) (inl out) =
            let (l, leads, paid) =
            link_of_cost j t s x priced is.below (omega (arith, is.frontier.long)) c (subst (λ (z : ℕ). cost_at t z x ≡ Some c) start has) in
            let under : c ≤ cap = omega (arith, low) in
            let found =
            is.frontier.least x (0 + link_cost l) out (up, s, 0, l, inl (refl, refl), leads, refl)
            (within_cap search.limit (0 + link_cost l) (omega (arith, paid, under, joins.known))) in
            omega (arith, found.1, paid, equal)

    -- ---- the frontier stays one of ways

    module _ {t : Tables} {new : List ℕ} (priced : IsPricesOf j t) (led : IsLedOn t s v (slice_index search.costs v) cap search.costs new) where
      way_kept : (x n : ℕ) → IsWay j s search.row x n → IsWay j s (set search.row v (Some distance)) x n
      way_kept x n (up, u, c, l, come, leads, costs) = (up, u, c, l, kept come, leads, costs)
        where
          kept : HasCome s search.row u c → HasCome s (set search.row v (Some distance)) u c
          kept (inl start) = inl start
          kept (inr has) = inr (in_kept search.row v distance u c outside has)

      attained_after : (x : ℕ) → x < count j.history → (x ≢ v) × (in_row search.row x ≡ None) → slice_index new x ≢ NO_WAY
          → (slice_index new x ≡ slice_index search.costs x) ⊎ IsWayOn t s v distance cap x (slice_index new x)
          → IsWay j s (set search.row v (Some distance)) x (slice_index new x)
      attained_after x within (other, out) some (inl same) =
          rw same (way_kept x (slice_index search.costs x) (is.frontier.attained x within out (λ e. some (same ∙ e))))
      attained_after x within (other, out) some (inr (up, c, has, low, same)) =
          let (l, leads, paid) = link_of_cost j t v x priced below within c has in
          (up, v, distance, l, inr (get_or-set_same search.row v (Some distance) None inside), leads, omega (arith, paid, same))

      least_after : (x n : ℕ) → (x ≢ v) × (in_row search.row x ≡ None) → x < count j.history → IsWithin (cap_of cap) n
          → IsWay j s (set search.row v (Some distance)) x n → (slice_index new x < NO_WAY) × (slice_index new x ≤ n)
      least_after x n (other, out) within capped (up, u, c, l, come, leads, costs) = by come
        where
          before : HasCome s search.row u c → (slice_index new x < NO_WAY) × (slice_index new x ≤ n)
          before come =
              let down = within_down cap search.limit n n (omega arith) joins.known joins.few capped in
              let low = is.frontier.least x n out (up, u, c, l, come, leads, costs) down in
              let lower = led.lower x (omega (arith, is.frontier.long)) other in
              (omega (arith, low.0, lower), omega (arith, low.1, lower))

          now : u ≡ v → c ≡ distance → (slice_index new x < NO_WAY) × (slice_index new x ≤ n)
          now same equal =
              let (k, has, cheap) = cost_of_link j t v x priced below within l (subst (λ (z : ℕ). IsLinkOf j z x l) same leads) in
              let few : distance + k ≤ NO_WAY = omega (arith, joins_small, cost_few j t v x priced below within k has, joins.bounds.few, is.row.long) in
              let low : distance + k ≤ cap = capped_low cap (distance + k) n (omega (arith, cheap, costs, equal)) few capped in
              let found = led.least x (distance + k) (omega (arith, is.frontier.long)) other (up, k, has, low, refl) in (
                omega (arith, found, joins_small, cost_few j t v x priced below within k has, joins.bounds.few, is.row.long),
                omega (arith, found, cheap, costs, equal),
              )

          by : HasCome s (set search.row v (Some distance)) u c → (slice_index new x < NO_WAY) × (slice_index new x ≤ n)
          by (inl start) = before (inl start)
          by (inr e) = has_come (in_set search.row v distance u c inside e)
            where
              has_come : ((u ≡ v) × (c ≡ distance)) ⊎ (in_row search.row u ≡ Some c) → (slice_index new x < NO_WAY) × (slice_index new x ≤ n)
              has_come (inl (same, equal)) = now same equal
              has_come (inr has) = before (inr has)

      frontier_after : IsFrontier j s cap (set search.row v (Some distance)) new
      frontier_after = record {
        long = led.long ∙ is.frontier.long;
        attained = λ x within e some.
            let apart = out_set search.row v distance x inside e in
            attained_after x within apart some (led.from x (omega (arith, is.frontier.long)) apart.0);
        least = λ x n e way within.
            least_after x n (out_set search.row v distance x inside e) (way_below j s (set search.row v (Some distance)) x n way) within way;
      }

      pub search_after : IsSearchOf j s (after search v new cap)
      search_after = record { start = is.start; below = is.below; row = row_after; frontier = frontier_after }

-- ---- the beginning

no_one : (n : ℕ) (row : List (Option ℕ)) (v c : ℕ) → IsEmptyRow n row → in_row row v ≡ Some c → ⊥
no_one n row v c empty e = let out : in_row row v ≡ None = empty.empty v in cc

-- a search as it begins, over n transactions
pub record IsBegun (n s : ℕ) (row : List (Option ℕ)) (queue : Queue) : Type 0 where
  pub below : s < n
  pub empty : IsEmptyRow n row
  pub frontier : IsBeginning n queue

module _ {n s : ℕ} {row : List (Option ℕ)} {queue : Queue} (begins : IsBegun n s row queue) where
  pub search_begun : (j : Judged) → n ≡ count j.history → IsSearchOf j s (record { start = s; row = row; costs = queue.costs; limit = 0 })
  search_begun j wide = record {
    start = refl;
    below = omega (arith, begins.below, wide);
    row = record {
      long = begins.empty.long ∙ wide;
      exact = λ v d e. absurd (no_one n row v d begins.empty e);
      closed = λ v u d links e out route. absurd (no_one n row v d begins.empty e);
    };
    frontier = record {
      long = begins.frontier.long ∙ wide;
      attained = λ x within out some. absurd (some (begins.frontier.none x (omega (arith, begins.frontier.long, wide))));
      least = λ x n out (up, u, c, l, come, leads, paid) within. absurd (let low : n ≤ 0 = within in omega (arith, low, paid, some_cost l));
    };
  }

  pub bounded_begun : n ≤ MAX_COUNT → IsBounded (record { start = s; row = row; costs = queue.costs; limit = 0 }) queue.floor
  bounded_begun few = rw begins.frontier.floor (record {
    below = omega (arith, begins.below, begins.empty.long);
    few = omega (arith, few, begins.empty.long);
    long = begins.frontier.long ∙ sym begins.empty.long;
    joined = λ v c e. absurd (no_one n row v c begins.empty e);
    outside = λ v within out. omega (arith, begins.frontier.none v (omega (arith, begins.frontier.long, begins.empty.long)));
    spent = omega arith;
    small = omega arith;
    known = omega arith;
  })
