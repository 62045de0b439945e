-- Costs that are settled level by level.
use Rattle.std.proofs.Common.{◌≡◌, ◌≢◌, ◌<◌, ◌≤◌, ◌+◌, ◌⊎◌, inl, inr, ℕ, List, [], ◌∷◌, ◌++◌, length, get_or, replicate, refl, sym, ap, subst, ◌∙◌, arith}
use Rattle.std.specs.Prelude.{min}
use Rattle.std.specs.List.{All, AllPairs, Contains}
use Rattle.std.proofs.lemmas.Bool.{cases_eq, cases_lt}
use Rattle.std.proofs.lemmas.List.{ext_get_or, get_or-replicate, get_or_default, length-replicate}
use Rattle.std.proofs.lemmas.List.Elements.{All-append, All-cons, All-head, All-nil, All-tail, Contains-get_or}
use Rattle.tcc_graph.specs.Levels.{Judged}
use Rattle.tcc_graph.specs.Links.{cost, link_from, link_to}
use Rattle.tcc_graph.specs.Routes.{IsCycle, IsRoute, LinksLead}
use Rattle.tcc_graph.specs.declared.link.Link.{Link}
use Rattle.tcc_graph.proofs.Linking.{cost_cons, link_route, one_cost, route_on, some_cost}
use Rattle.tcc_lanes.specs.Among.{HasCheaperAmong, IsAmong}
use Rattle.tcc_lanes.specs.declared.pricing.TheConstants.{NONE}
use Rattle.tcc_lanes.specs.private.Pricing.{ArePriceRows, HasReturn, IsLeastReturn, IsPriceRow, IsReached, IsSettled, IsTable}

-- ---- members that ascend
pub once : (members : List ℕ) → AllPairs (λ u v. u < v) members → (u v : ℕ) → u < length members → v < length members
    → get_or members u 0 ≡ get_or members v 0 → u ≡ v
once members ascending u v l m e = go (cases_eq u v) (cases_lt u v)
  where
    go : (u ≡ v) ⊎ (u ≢ v) → (u < v) ⊎ (v ≤ u) → u ≡ v
    go (inl is) q = is
    go (inr other) (inl less) = absurd (omega (arith, e, ascending u v 0 less m))
    go (inr other) (inr more) = absurd (omega (arith, e, ascending v u 0 (omega (arith, other, more)) l))

-- ---- one level
module _ (rows : List (List ℕ)) (table : IsTable rows) (level : ℕ) (old : List ℕ) (same : length rows ≡ length old) where
  abbrev price : ℕ → ℕ → ℕ
  price u v = get_or (get_or rows u []) v 0

  pub settled_none : (Is : ℕ → Type 0) → ((u : ℕ) → Is u → ⊥) → IsSettled rows level Is old old
  settled_none Is none = record { same = refl; kept = λ v l. omega arith; either = λ v l. inl refl; over = λ u v is. absurd (none u is) }

  module _ (Is More : ℕ → Type 0) (n : ℕ) (one : (u : ℕ) → More u → Is u ⊎ (u ≡ n)) (mid : List ℕ) (w : IsSettled rows level Is old mid) where
    -- a member with this cost had it before
    still : (u : ℕ) → u < length old → get_or mid u 0 ≡ level → get_or old u 0 ≡ level
    still u l is = go (w.either u l)
      where
        go : (get_or mid u 0 ≡ get_or old u 0) ⊎ ((t : ℕ) × (t < length old) × (get_or old t 0 ≡ level) × (get_or mid u 0 ≡ level + price t u)) → get_or old u 0 ≡ level
        go (inl stays) = sym stays ∙ is
        go (inr (t, inside, at, over)) = absurd (omega (arith, is, over, table.some t u (omega (arith, inside, same)) (omega (arith, l, same))))

    -- a member that had this cost still has it
    yet : (u : ℕ) → u < length old → get_or old u 0 ≡ level → get_or mid u 0 ≡ level
    yet u l is = go (w.either u l)
      where
        go : (get_or mid u 0 ≡ get_or old u 0) ⊎ ((t : ℕ) × (t < length old) × (get_or old t 0 ≡ level) × (get_or mid u 0 ≡ level + price t u)) → get_or mid u 0 ≡ level
        go (inl stays) = stays ∙ is
        go (inr (t, inside, at, over)) =
            absurd (omega (arith, is, over, w.kept u l, table.some t u (omega (arith, inside, same)) (omega (arith, l, same))))

    pub settled_same : get_or mid n 0 ≢ level → IsSettled rows level More old mid
    settled_same other = record { same = w.same; kept = w.kept; either = w.either; over = λ u v more m k is. go u v m k is (one u more) }
      where
        go : (u v : ℕ) → u < length old → v < length old → get_or old u 0 ≡ level → Is u ⊎ (u ≡ n) → get_or mid v 0 ≤ level + price u v
        go u v m k is (inl before) = w.over u v before m k is
        go u v m k is (inr here) = absurd (other (subst (λ (z : ℕ). get_or mid z 0 ≡ level) here (yet u m is)))

    pub settled_more : n < length old → get_or mid n 0 ≡ level → (new : List ℕ) → length new ≡ length mid
        → ((v : ℕ) → v < length mid → get_or new v 0 ≡ min (get_or mid v 0) (level + price n v)) → IsSettled rows level More old new
    settled_more inside is new alike each = record {
      same = alike ∙ w.same;
      kept = λ v l. omega (arith, w.kept v l, at v l);
      either = λ v l. either v l (cases_lt (level + price n v) (get_or mid v 0)) (w.either v l);
      over = λ u v more m k here. over u v m k here (one u more);
    }
      where
        at : (v : ℕ) → v < length old → get_or new v 0 ≡ min (get_or mid v 0) (level + price n v)
        at v l = each v (omega (arith, l, w.same))

        either : (v : ℕ) → v < length old → (level + price n v < get_or mid v 0) ⊎ (get_or mid v 0 ≤ level + price n v)
            → (get_or mid v 0 ≡ get_or old v 0) ⊎ ((t : ℕ) × (t < length old) × (get_or old t 0 ≡ level) × (get_or mid v 0 ≡ level + price t v))
            → (get_or new v 0 ≡ get_or old v 0) ⊎ ((t : ℕ) × (t < length old) × (get_or old t 0 ≡ level) × (get_or new v 0 ≡ level + price t v))
        either v l (inl lower) q = inr (n, inside, still n inside is, omega (arith, at v l, lower))
        either v l (inr stays) (inl before) = inl (omega (arith, at v l, stays, before))
        either v l (inr stays) (inr (t, m, here, over)) = inr (t, m, here, omega (arith, at v l, stays, over))

        over : (u v : ℕ) → u < length old → v < length old → get_or old u 0 ≡ level → Is u ⊎ (u ≡ n) → get_or new v 0 ≤ level + price u v
        over u v m k here (inr last) = subst (λ (z : ℕ). get_or new v 0 ≤ level + price z v) (sym last) (omega (arith, at v k))
        over u v m k here (inl before) = omega (arith, at v k, w.over u v before m k here)

-- ---- level by level
module _ (j : Judged) (members : List ℕ) (most : ℕ) (rows : List (List ℕ)) (are : ArePriceRows j members most (length members) rows) where
  all_rows : length rows ≡ length members
  all_rows = omega (arith, are.long)

  row_at : (u : ℕ) → u < length members → IsPriceRow j members most (get_or members u 0) (get_or rows u [])
  row_at u l = are.each u l l

  pub is_table : IsTable rows
  is_table = record {
    long = λ u l. (row_at u (omega (arith, l, all_rows))).long ∙ sym all_rows;
    some = λ u v l m. (row_at u (omega (arith, l, all_rows))).some v (omega (arith, m, all_rows));
    high = λ u v l m. (row_at u (omega (arith, l, all_rows))).high v (omega (arith, m, all_rows));
  }

  among : (u v : ℕ) → u < length members → v < length members → (l : Link) → link_from l ≡ get_or members u 0 → link_to l ≡ get_or members v 0 → IsAmong members l
  among u v inside within l from to = (
    subst (Contains members) (sym from) (Contains-get_or members u 0 inside),
    subst (Contains members) (sym to) (Contains-get_or members v 0 within),
  )

  module _ (s : ℕ) (inside : s < length members) where
    pub reached_first : IsReached j members rows s 1 (get_or rows s [])
    reached_first = record {
      same = (row_at s inside).long;
      sound = sound;
      first = λ v l. omega arith;
      over = λ u v l m low. absurd (omega (arith, low, (row_at s inside).some u l));
    }
      where
        sound : (v : ℕ) → v < length members → get_or (get_or rows s []) v 0 < NONE
            → (links : List Link) × IsRoute j (get_or members s 0) (get_or members v 0) links × All (IsAmong members) links × (cost links ≤ get_or (get_or rows s []) v 0)
        sound v l low =
            let (one, from, to, is, cheap) = (row_at s inside).sound v l low in (
              one ∷ [],
              link_route j (get_or members s 0) (get_or members v 0) one from to is,
              All-cons (IsAmong members) one [] (among s v inside l one from to) (All-nil (IsAmong members)),
              omega (arith, cheap, one_cost one),
            )

    pub reached_more : (level : ℕ) (Is : ℕ → Type 0) (old new : List ℕ) → level < NONE → ((u : ℕ) → u < length old → get_or old u 0 ≡ level → Is u)
        → IsReached j members rows s level old → IsSettled rows level Is old new → IsReached j members rows s (level + 1) new
    reached_more level Is old new few all w settled = record {
      same = settled.same ∙ w.same;
      sound = λ v l low. sound v l low (settled.either v (here v l));
      first = λ v l. omega (arith, w.first v l, settled.kept v (here v l));
      over = λ u v l m low. over u v l m low (cases_eq (get_or old u 0) level) (settled.either u (here u l));
    }
      where
        here : (v : ℕ) → v < length members → v < length old
        here v l = omega (arith, l, w.same)

        sound : (v : ℕ) → v < length members → get_or new v 0 < NONE
            → (get_or new v 0 ≡ get_or old v 0) ⊎ ((t : ℕ) × (t < length old) × (get_or old t 0 ≡ level) × (get_or new v 0 ≡ level + get_or (get_or rows t []) v 0))
            → (links : List Link) × IsRoute j (get_or members s 0) (get_or members v 0) links × All (IsAmong members) links × (cost links ≤ get_or new v 0)
        sound v l low (inl stays) =
            let (links, route, listed, cheap) = w.sound v l (omega (arith, low, stays)) in (links, route, listed, omega (arith, cheap, stays))
        sound v l low (inr (t, within, at, way)) =
            let m : t < length members = omega (arith, within, w.same) in
            let (links, route, listed, cheap) = w.sound t m (omega (arith, at, few)) in
            let (one, from, to, is, dear) = (row_at t m).sound v l (omega (arith, way, low)) in
            let longer = route_on j (get_or members s 0) (get_or members t 0) (get_or members v 0) links one route from to is in (
              links ++ one ∷ [],
              longer.0,
              All-append (IsAmong members) links (one ∷ []) listed (All-cons (IsAmong members) one [] (among t v m l one from to) (All-nil (IsAmong members))),
              omega (arith, longer.1, cheap, dear, at, way),
            )

        over : (u v : ℕ) → u < length members → v < length members → get_or new u 0 < level + 1 → (get_or old u 0 ≡ level) ⊎ (get_or old u 0 ≢ level)
            → (get_or new u 0 ≡ get_or old u 0) ⊎ ((t : ℕ) × (t < length old) × (get_or old t 0 ≡ level) × (get_or new u 0 ≡ level + get_or (get_or rows t []) u 0))
            → get_or new v 0 ≤ get_or new u 0 + get_or (get_or rows u []) v 0
        over u v l m low q (inr (t, within, at, way)) = absurd (omega (arith, low, way, (row_at t (omega (arith, within, w.same))).some u l))
        over u v l m low (inl now) (inl stays) =
            omega (arith, stays, now, settled.over u v (all u (here u l) now) (here u l) (here v m) now)
        over u v l m low (inr other) (inl stays) =
            omega (arith, stays, w.over u v l m (omega (arith, low, stays, other)), settled.kept v (here v m))

    -- where no cost is between a level and a later one, costs that are settled below the first are settled below the second
    pub reached_on : (level next : ℕ) (costs : List ℕ) → ((v : ℕ) → v < length costs → level ≤ get_or costs v 0 → next ≤ get_or costs v 0)
        → IsReached j members rows s level costs → IsReached j members rows s next costs
    reached_on level next costs above w = record {
      same = w.same;
      sound = w.sound;
      first = w.first;
      over = λ u v l m low. w.over u v l m (below u l low (cases_lt (get_or costs u 0) level));
    }
      where
        below : (u : ℕ) → u < length members → get_or costs u 0 < next → (get_or costs u 0 < level) ⊎ (level ≤ get_or costs u 0) → get_or costs u 0 < level
        below u l low (inl less) = less
        below u l low (inr more) = absurd (omega (arith, low, above u (omega (arith, l, w.same)) more))

    module _ (ascending : AllPairs (λ u v. u < v) members) (level : ℕ) (costs : List ℕ) (far : most ≤ level + 1) (w : IsReached j members rows s level costs) where
      -- the links that lead on to a member cost at least what was found
      onward : (t u : ℕ) (links : List Link) → t < length members → u < length members → LinksLead j (get_or members u 0) (get_or members t 0) links
          → All (IsAmong members) links → get_or costs u 0 + cost links < most → get_or costs t 0 ≤ get_or costs u 0 + cost links
      onward t u [] m l lead listed few = subst (λ (z : ℕ). get_or costs z 0 ≤ get_or costs u 0 + cost []) (once members ascending u t l m lead) (omega arith)
      onward t u (one ∷ links) m l (from, is, rest) listed few =
          go (λ v within lead still. onward t v links m within lead (All-tail (IsAmong members) one links listed) still)
          (All-head (IsAmong members) one links listed).1
        where
          go : ((v : ℕ) → v < length members → LinksLead j (get_or members v 0) (get_or members t 0) links → get_or costs v 0 + cost links < most
              → get_or costs t 0 ≤ get_or costs v 0 + cost links)
              → Contains members (link_to one) → get_or costs t 0 ≤ get_or costs u 0 + cost (one ∷ links)
          go later (v, within, at) =
              let to : get_or members v 0 ≡ link_to one = get_or_default members v 0 (link_to one) within ∙ at in
              let cheap = (row_at u l).all v within one from (sym to) is (omega (arith, few, cost_cons one links)) in
              let step = w.over u v l within (omega (arith, few, far, cost_cons one links, some_cost one)) in
              let back =
              later v within (subst (λ (z : ℕ). LinksLead j z (get_or members t 0) links) (sym to) rest) (omega (arith, step, cheap, few, cost_cons one links)) in
              omega (arith, back, step, cheap, cost_cons one links)

      -- and so do the links that lead there from the start
      pub come_to : (t : ℕ) (links : List Link) → t < length members → 0 < length links → LinksLead j (get_or members s 0) (get_or members t 0) links
          → All (IsAmong members) links → cost links < most → get_or costs t 0 ≤ cost links
      come_to t [] m some lead listed few = absurd (omega (arith, some))
      come_to t (one ∷ links) m some (from, is, rest) listed few = go (All-head (IsAmong members) one links listed).1
        where
          go : Contains members (link_to one) → get_or costs t 0 ≤ cost (one ∷ links)
          go (v, within, at) =
              let to : get_or members v 0 ≡ link_to one = get_or_default members v 0 (link_to one) within ∙ at in
              let cheap = (row_at s inside).all v within one from (sym to) is (omega (arith, few, cost_cons one links)) in
              let step = w.first v within in
              let later =
              onward t v links m within (subst (λ (z : ℕ). LinksLead j z (get_or members t 0) links) (sym to) rest) (All-tail (IsAmong members) one links listed)
              (omega (arith, step, cheap, few, cost_cons one links)) in
              omega (arith, later, step, cheap, cost_cons one links)

      pub returned : HasReturn j members most s → get_or costs s 0 < most
      returned (links, (some, lead), listed, few) = omega (arith, come_to s links inside some lead listed few, few)

      pub returns : most ≤ NONE → get_or costs s 0 < most → HasReturn j members most s
      returns high low =
          let (links, route, listed, cheap) = w.sound s inside (omega (arith, high, low)) in (links, route, listed, omega (arith, cheap, low))

      -- what a cheapest cycle costs, up to the limit
      pub least_return : most ≤ NONE → IsLeastReturn j members most s (min (get_or costs s 0) most)
      least_return high = record { within = omega arith; none = none; some = some }
        where
          none : HasReturn j members (min (get_or costs s 0) most) s → ⊥
          none (links, (more, lead), listed, few) = omega (arith, come_to s links inside more lead listed (omega (arith, few)), few)

          some : min (get_or costs s 0) most < most → HasReturn j members (min (get_or costs s 0) most + 1) s
          some low = let (links, route, listed, cheap) = w.sound s inside (omega (arith, high, low)) in (links, route, listed, omega (arith, cheap, low))

  -- ---- all starts
  pub from_start : (s : ℕ) → s < length members → HasReturn j members most s → HasCheaperAmong j members most
  from_start s inside (links, cycle, listed, few) = (get_or members s 0, links, cycle, listed, few)

  pub none_from : (n : ℕ) → length members ≤ n → ((s : ℕ) → s < n → s < length members → HasReturn j members most s → ⊥) → HasCheaperAmong j members most → ⊥
  none_from n all none (v, [], cycle, listed, few) = omega (arith, cycle.0)
  none_from n all none (v, one ∷ links, cycle, listed, few) = go (All-head (IsAmong members) one links listed).0
    where
      go : Contains members (link_from one) → ⊥
      go (s, within, at) =
          let from : get_or members s 0 ≡ v = get_or_default members s 0 (link_from one) within ∙ (at ∙ cycle.1.0) in
          none s (omega (arith, within, all)) within (one ∷ links, subst (λ (z : ℕ). IsCycle j z (one ∷ links)) (sym from) cycle, listed, few)

-- ---- before anything is settled
-- costs that were lowered by one row only are those of the row
pub costs_of_row : (row costs new : List ℕ) (n : ℕ) → costs ≡ replicate n NONE → length row ≡ n → length new ≡ length costs
    → ((v : ℕ) → v < n → get_or row v 0 ≤ NONE) → ((v : ℕ) → v < length costs → get_or new v 0 ≡ min (get_or costs v 0) (0 + get_or row v 0)) → new ≡ row
costs_of_row row costs new n is long same high each = ext_get_or 0 new row (omega (arith, same, wide, long)) at
  where
    wide : length costs ≡ n
    wide = ap length is ∙ length-replicate {A = ℕ} n NONE

    at : (v : ℕ) → v < length new → get_or new v 0 ≡ get_or row v 0
    at v l =
        let below : v < n = omega (arith, l, same, wide) in
        let none : get_or costs v 0 ≡ NONE = ap (λ (z : List ℕ). get_or z v 0) is ∙ get_or-replicate {A = ℕ} n v NONE 0 below in
        omega (arith, each v (omega (arith, l, same)), none, high v below)
