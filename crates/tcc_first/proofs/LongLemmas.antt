-- The cheapest link from one transaction to another, by the lengths of walks.
use Rattle.std.proofs.Common.{ℕ, ◌+◌, ◌-◌, ◌<◌, ◌≤◌, ◌≡◌, ◌≢◌, ◌⊎◌, inl, inr, List, length, get_or, Option, None, Some, MatchOption, below_more, ap, refl, sym, subst, ◌∙◌, arith}
use Rattle.std.specs.Ordering.{nat_cmp}
use Rattle.std.specs.Cmp.{nat_cmp_is}
use Rattle.std.specs.declared.cmp.Ordering.TheVariants.{Less, Equal, Greater}
use Rattle.std.proofs.lemmas.Bool.{cases_eq, cases_lt, cases_order}
use Rattle.std.proofs.lemmas.Cmp.{nat_cmp_total, nat_list_cmp_total, tied_itself}
use Rattle.tcc_reads.specs.History.{History, count}
use Rattle.tcc_reads.specs.Sources.{name_cmp}
use Rattle.tcc_graph.specs.Keys.{key_at, keys}
use Rattle.tcc_graph.specs.Readings.{AreReadingsByIndex}
use Rattle.tcc_graph.specs.Relations.{IsCausalPair}
use Rattle.tcc_graph.specs.Levels.{Judged, IsAllowedWalk}
use Rattle.tcc_graph.specs.Links.{MayContradict, link_cost}
use Rattle.tcc_graph.specs.Ties.{link_cmp}
use Rattle.tcc_graph.specs.declared.step.Step.{Step}
use Rattle.tcc_graph.specs.declared.link.Link.{Link}
use Rattle.tcc_graph.specs.declared.link.Link.TheVariants as link
use Rattle.tcc_graph.proofs.Linking.{derived_cost, some_cost}
use Rattle.tcc_near.specs.WalkLengths.{IsShortest}
use Rattle.tcc_derive.specs.Backwards.{IsFirstWalk}
use Rattle.tcc_derive.proofs.BackLemmas.{HasLengths}
use Rattle.tcc_lanes.specs.Lengths.{AreWalkLengths}
use Rattle.tcc_lanes.specs.declared.lengths.TheConstants.{NO_WALK}
use Rattle.tcc_least.specs.private.Places.{IsFoundUpTo}
use Rattle.tcc_first.specs.Cheapest.{IsFirstCheapest, IsLinkFrom}
use Rattle.tcc_first.specs.private.Picks.{IsContradictedAt, IsFirstContradictedAt, IsFirstOfCost, NoneContradictedUpTo}
use Rattle.tcc_first.proofs.Around.{pair_of}
use Rattle.tcc_first.proofs.CheapestLemmas.{key_before}
use Rattle.tcc_first.proofs.ReturnLemmas.{place_of_reading, reading_at}

-- ---- lengths
module _ (j : Judged) (b most : ℕ) (lengths : List ℕ) (few : most < NO_WALK) (are : AreWalkLengths j b most lengths) where
  pub shortest_at : (v n : ℕ) → v < count j.history → get_or lengths v 0 ≡ n → n < NO_WALK → IsShortest j b v n
  shortest_at v n below at low = record {
    attained = (found.0, found.1, omega (arith, found.2, least found.0 found.1, at));
    least = λ walk allowed. omega (arith, least walk allowed, at);
  }
    where
      found : (walk : List Step) × IsAllowedWalk j b v walk × (length walk ≤ get_or lengths v 0) × (get_or lengths v 0 ≤ most)
      found = are.sound v below (omega (arith, at, low))

      least : (walk : List Step) → IsAllowedWalk j b v walk → get_or lengths v 0 ≤ length walk
      least walk allowed = go (cases_lt most (length walk))
        where
          go : (most < length walk) ⊎ (length walk ≤ most) → get_or lengths v 0 ≤ length walk
          go (inl more) = omega (arith, found.3, more)
          go (inr within) = are.all v walk below allowed within

  pub at_shortest : (v n : ℕ) → v < count j.history → n ≤ most → IsShortest j b v n → get_or lengths v 0 ≡ n
  at_shortest v n below within shortest =
      let (walk, allowed, long) = shortest.attained in
      let low : get_or lengths v 0 ≤ n = omega (arith, are.all v walk below allowed (omega (arith, long, within)), long) in
      let (other, others, short, up) = are.sound v below (omega (arith, low, within, few)) in
      omega (arith, low, short, shortest.least other others)

  pub at_most : (v : ℕ) → v < count j.history → get_or lengths v 0 < NO_WALK → get_or lengths v 0 ≤ most
  at_most v below low = let (walk, allowed, short, up) = are.sound v below low in up

  pub has_lengths : HasLengths j b (most + 1) lengths
  has_lengths v n below some low = (
    (λ at. shortest_at v n below at (omega (arith, low, few))),
    (λ shortest. at_shortest v n below (omega (arith, low)) shortest),
  )

  some_length : (v : ℕ) → v < count j.history → get_or lengths v 0 < NO_WALK → 0 < get_or lengths v 0
  some_length v below low =
      let (walk, allowed, short, up) = are.sound v below low in omega (
        arith,
        (shortest_at v (get_or lengths v 0) below refl low).attained.1.0.0,
        (shortest_at v (get_or lengths v 0) below refl low).attained.2,
      )

  -- ---- the derived link
  module _ (a n : ℕ) (some : 0 < n) (within : n ≤ most) (none : NoneContradictedUpTo j.history lengths (n - 1) b a) where
    -- no walk that contradicts a reading has fewer steps
    none_shorter : (y : List ℕ) (d : ℕ) (walk : List Step) → MayContradict j.history b a y d → IsAllowedWalk j b d walk → n ≤ length walk
    none_shorter y d walk against allowed = go (cases_lt (length walk) n)
      where
        below : d < count j.history
        below = against.1.1

        go : (length walk < n) ⊎ (n ≤ length walk) → n ≤ length walk
        go (inr more) = more
        go (inl less) =
            let low : get_or lengths d 0 ≤ length walk = are.all d walk below allowed (omega (arith, less, within)) in
            let few_d : get_or lengths d 0 < NO_WALK = omega (arith, low, less, within, few) in
            absurd (none (get_or lengths d 0) (some_length d below few_d) (omega (arith, low, less)) y d (against, refl))

    -- a walk of exactly n steps contradicts it by a shortest one
    just_so : (y : List ℕ) (d : ℕ) (walk : List Step) → MayContradict j.history b a y d → IsAllowedWalk j b d walk → length walk ≡ n
        → IsContradictedAt j.history lengths n b a y d
    just_so y d walk against allowed long = (
      against,
      at_shortest d n against.1.1 within (record {
        attained = (walk, allowed, long);
        least = λ other others. none_shorter y d other against others;
      }),
    )

    module _ (x : List ℕ) (c : ℕ) (first : IsFirstContradictedAt j.history lengths n b a x c) (walk : List Step) (is : IsFirstWalk j b c walk)
        (no_pair : IsCausalPair j.history b a → ⊥) where
      long : length walk ≡ n
      long =
          let shortest = shortest_at c n first.here.0.1.1 first.here.1 (omega (arith, within, few)) in
          let (other, others, same) = shortest.attained in
          omega (arith, is.least other others, same, shortest.least walk is.leads)

      costs : link_cost (link.Derived b a x c walk) ≡ n + 1
      costs = omega (arith, derived_cost b a x c walk, long)

      least : (o : Link) → IsLinkFrom j b a o → link_cost (link.Derived b a x c walk) ≤ link_cost o
      least (link.Session d e) w = absurd (no_pair (rw (w.from, w.to) at (pair_of j (link.Session d e) w.link refl)))
      least (link.Reads d e y) w = absurd (no_pair (rw (w.from, w.to) at (pair_of j (link.Reads d e y) w.link refl)))
      least (link.Derived d e y f walked) w =
          let against : MayContradict j.history b a y f = rw (w.from, w.to) at w.link.0 in
          let allowed : IsAllowedWalk j b f walked = rw w.from at w.link.1 in
          omega (arith, costs, derived_cost d e y f walked, none_shorter y f walked against allowed)

      start : nat_cmp b b ≡ Equal
      start = tied_itself nat_cmp_total b

      key : name_cmp x x ≡ Equal
      key = tied_itself nat_list_cmp_total x

      by_reader : (d : ℕ) (walked : List Step) → IsAllowedWalk j b d walked → length walked ≡ n → (c ≡ d) ⊎ ((c < d) ⊎ (d < c)) → c ≤ d
          → link_cmp (link.Derived b a x c walk) (link.Derived b a x d walked) ≢ Greater
      by_reader d walked allowed so (inl same) up =
          let reader : nat_cmp c d ≡ Equal = sym (nat_cmp_is c d Equal same) in
          let there : IsAllowedWalk j b c walked = subst (λ (z : ℕ). IsAllowedWalk j b z walked) (sym same) allowed in
          rw (start, key, reader) (is.first walked there (so ∙ sym long))
      by_reader d walked allowed so (inr (inl less)) up =
          let reader : nat_cmp c d ≡ Less = sym (nat_cmp_is c d Less less) in
          rw (start, key, reader) (λ e. cc)
      by_reader d walked allowed so (inr (inr more)) up = absurd (omega (arith, up, more))

      by_key : (y : List ℕ) (d : ℕ) (walked : List Step) → IsAllowedWalk j b d walked → length walked ≡ n → (name_cmp x y ≡ Less) ⊎ ((x ≡ y) × (c ≤ d))
          → link_cmp (link.Derived b a x c walk) (link.Derived b a y d walked) ≢ Greater
      by_key y d walked allowed so (inl less) = rw (start, less) (λ e. cc)
      by_key y d walked allowed so (inr (same, up)) =
          subst (λ (z : List ℕ). link_cmp (link.Derived b a x c walk) (link.Derived b a z d walked) ≢ Greater) same
          (by_reader d walked allowed so (cases_order c d) up)

      up_to : (o : Link) → IsLinkFrom j b a o → link_cost o ≡ link_cost (link.Derived b a x c walk) → link_cmp (link.Derived b a x c walk) o ≢ Greater
      up_to (link.Session d e) w same = absurd (omega (arith, same, costs, some))
      up_to (link.Reads d e y) w same = absurd (omega (arith, same, costs, some))
      up_to (link.Derived d e y f walked) w same =
          let against : MayContradict j.history b a y f = rw (w.from, w.to) at w.link.0 in
          let allowed : IsAllowedWalk j b f walked = rw w.from at w.link.1 in
          let so : length walked ≡ n = omega (arith, same, costs, derived_cost d e y f walked) in
          rw w.from (by_key y f walked allowed so (first.first y f (just_so y f walked against allowed so)))

      pub cheapest_derived : IsFirstCheapest j b a (link.Derived b a x c walk)
      cheapest_derived = record {
        leads = record { from = refl; to = refl; link = (first.here.0, is.leads) };
        least = least;
        first = up_to;
      }

  -- ---- none
  pub none_cheap : (a : ℕ) → (IsCausalPair j.history b a → ⊥) → NoneContradictedUpTo j.history lengths most b a → (l : Link) → IsLinkFrom j b a l → most + 1 < link_cost l
  none_cheap a no_pair none (link.Session d e) w =
      absurd (no_pair (rw (w.from, w.to) at (pair_of j (link.Session d e) w.link refl)))
  none_cheap a no_pair none (link.Reads d e y) w =
      absurd (no_pair (rw (w.from, w.to) at (pair_of j (link.Reads d e y) w.link refl)))
  none_cheap a no_pair none (link.Derived d e y f walked) w = go (cases_lt most (length walked))
    where
      against : MayContradict j.history b a y f
      against = rw (w.from, w.to) at w.link.0

      allowed : IsAllowedWalk j b f walked
      allowed = rw w.from at w.link.1

      go : (most < length walked) ⊎ (length walked ≤ most) → most + 1 < link_cost (link.Derived d e y f walked)
      go (inl more) = omega (arith, derived_cost d e y f walked, more)
      go (inr short) =
          let low : get_or lengths f 0 ≤ length walked = are.all f walked against.1.1 allowed short in
          let few_f : get_or lengths f 0 < NO_WALK = omega (arith, low, short, few) in
          absurd (none (get_or lengths f 0) (some_length f against.1.1 few_f) (omega (arith, low, short)) y f (against, refl))

-- a pair
pub cheapest_pair : (j : Judged) (u v : ℕ) (l : Link) → IsFirstOfCost j u v 1 l → IsFirstCheapest j u v l
cheapest_pair j u v l is = record {
  leads = record { from = is.from; to = is.to; link = is.link };
  least = λ other w. omega (arith, is.steps, some_cost other);
  first = λ other w same. is.first other w.from w.to w.link (omega (arith, same, is.steps));
}

-- ---- the fewest steps
-- the fewest for the first k readings
pub record AreFewest (h : History) (lengths : List ℕ) (b : ℕ) (a : ℕ) (readers : List ℕ) (key_indices : List ℕ) (k : ℕ) (fewest : ℕ) : Type 0 where
  pub none : (i : ℕ) → i < k → 0 < get_or lengths (get_or readers i 0) 0 → MayContradict h b a (key_at h (get_or key_indices i 0)) (get_or readers i 0)
      → fewest ≤ get_or lengths (get_or readers i 0) 0
  pub some : (fewest ≡ NO_WALK) ⊎ ((0 < fewest) × ((x : List ℕ) × (c : ℕ) × IsContradictedAt h lengths fewest b a x c))

module _ (h : History) (lengths : List ℕ) (b a : ℕ) (readers key_indices : List ℕ) where
  pub fewest_none : AreFewest h lengths b a readers key_indices 0 NO_WALK
  fewest_none = record { none = λ i less. absurd (omega (arith, less)); some = inl refl }

  module _ (k fewest steps : ℕ) (w : AreFewest h lengths b a readers key_indices k fewest) (is : steps ≡ get_or lengths (get_or readers k 0) 0) where
    pub fewest_more : 0 < steps → steps < fewest → MayContradict h b a (key_at h (get_or key_indices k 0)) (get_or readers k 0)
        → AreFewest h lengths b a readers key_indices (k + 1) steps
    fewest_more some less may = record {
      none = λ i low walked one. none i low walked one (cases_eq i k);
      some = inr (some, (key_at h (get_or key_indices k 0), get_or readers k 0, (may, sym is)));
    }
      where
        none : (i : ℕ) → i < k + 1 → 0 < get_or lengths (get_or readers i 0) 0 → MayContradict h b a (key_at h (get_or key_indices i 0)) (get_or readers i 0)
            → (i ≡ k) ⊎ (i ≢ k) → steps ≤ get_or lengths (get_or readers i 0) 0
        none i low walked one (inl same) = subst (λ (z : ℕ). steps ≤ get_or lengths (get_or readers z 0) 0) (sym same) (omega (arith, is))
        none i low walked one (inr other) = omega (arith, less, w.none i (omega (arith, low, other)) walked one)

    pub fewest_same : ((0 < steps) × (steps < fewest) × MayContradict h b a (key_at h (get_or key_indices k 0)) (get_or readers k 0) → ⊥)
        → AreFewest h lengths b a readers key_indices (k + 1) fewest
    fewest_same never = record { none = λ i low walked one. none i low walked one (cases_eq i k); some = w.some }
      where
        here : 0 < get_or lengths (get_or readers k 0) 0 → MayContradict h b a (key_at h (get_or key_indices k 0)) (get_or readers k 0)
            → (steps < fewest) ⊎ (fewest ≤ steps) → fewest ≤ get_or lengths (get_or readers k 0) 0
        here walked one (inl less) = absurd (never (omega (arith, walked, is), less, one))
        here walked one (inr more) = omega (arith, more, is)

        none : (i : ℕ) → i < k + 1 → 0 < get_or lengths (get_or readers i 0) 0 → MayContradict h b a (key_at h (get_or key_indices i 0)) (get_or readers i 0)
            → (i ≡ k) ⊎ (i ≢ k) → fewest ≤ get_or lengths (get_or readers i 0) 0
        none i low walked one (inl same) =
            subst (λ (z : ℕ). fewest ≤ get_or lengths (get_or readers z 0) 0) (sym same)
            (here (subst (λ (z : ℕ). 0 < get_or lengths (get_or readers z 0) 0) same walked)
            (subst (λ (z : ℕ). MayContradict h b a (key_at h (get_or key_indices z 0)) (get_or readers z 0)) same one) (cases_lt steps fewest))
        none i low walked one (inr other) = w.none i (omega (arith, low, other)) walked one

  pub fewest_all : AreReadingsByIndex h a readers key_indices → (k fewest : ℕ) → length readers ≤ k → AreFewest h lengths b a readers key_indices k fewest
      → NoneContradictedUpTo h lengths (fewest - 1) b a
  fewest_all are k fewest all w m some low x c is =
      let (i, inside, reader, key) = place_of_reading h a readers key_indices are c x is.0.1 in
      let at : get_or lengths (get_or readers i 0) 0 ≡ m = ap (λ (z : ℕ). get_or lengths z 0) reader ∙ is.1 in
      let one : MayContradict h b a (key_at h (get_or key_indices i 0)) (get_or readers i 0) = rw (reader, key) is.0 in
      omega (arith, some, low, at, w.none i (omega (arith, inside, all)) (omega (arith, at, some)) one)

-- the first of those with this number of steps
pub nearest_of : (h : History) (lengths : List ℕ) (b a most n : ℕ) → n ≤ most → most < NO_WALK → NoneContradictedUpTo h lengths (n - 1) b a
    → (n ≡ NO_WALK) ⊎ ((0 < n) × ((x : List ℕ) × (c : ℕ) × IsContradictedAt h lengths n b a x c)) → (found : Option (List ℕ × ℕ))
    → MatchOption found ((x : List ℕ) (c : ℕ) → IsContradictedAt h lengths n b a x c → ⊥)
    (λ first. (first.1 < count h) × IsFirstContradictedAt h lengths n b a first.0 first.1)
    → MatchOption found (NoneContradictedUpTo h lengths most b a)
    (λ first. (first.1 < count h) × ((m : ℕ) × (0 < m) × (m ≤ most) × IsFirstContradictedAt h lengths m b a first.0 first.1
    × NoneContradictedUpTo h lengths (m - 1) b a))
nearest_of h lengths b a most n within few none (inl never) found is = absurd (omega (arith, never, within, few))
nearest_of h lengths b a most n within few none (inr (some, (x, c, one))) None is = absurd (is x c one)
nearest_of h lengths b a most n within few none (inr (some, (x, c, one))) (Some first) is = (is.0, (n, some, within, is.1, none))

-- ---- readings that are contradicted
-- the first of those below m, by the index of the key and by the reader
pub record AreFound (h : History) (lengths : List ℕ) (n : ℕ) (b : ℕ) (a : ℕ) (readers : List ℕ) (key_indices : List ℕ) (m : ℕ) (first : Option (ℕ × ℕ)) : Type 0 where
  pub sound : MatchOption first (Unit {0})
      (λ place. (place.0 < length (keys h)) × (place.1 < count h) × IsContradictedAt h lengths n b a (key_at h place.0) place.1)
  pub found : (k : ℕ) → k < m → IsContradictedAt h lengths n b a (key_at h (get_or key_indices k 0)) (get_or readers k 0)
      → IsFoundUpTo first (get_or key_indices k 0) (get_or readers k 0)

module _ (h : History) (lengths : List ℕ) (n b a : ℕ) (readers key_indices : List ℕ) (are : AreReadingsByIndex h a readers key_indices) where
  pub found_more : (m : ℕ) (old new : Option (ℕ × ℕ)) → m < length readers → AreFound h lengths n b a readers key_indices m old
      → IsContradictedAt h lengths n b a (key_at h (get_or key_indices m 0)) (get_or readers m 0)
      → (new ≡ old) ⊎ (new ≡ Some (get_or key_indices m 0, get_or readers m 0))
      → ((k c : ℕ) → IsFoundUpTo old k c → IsFoundUpTo new k c) → IsFoundUpTo new (get_or key_indices m 0) (get_or readers m 0)
      → AreFound h lengths n b a readers key_indices (m + 1) new
  found_more m old new inside done here either kept found = record {
    sound = sound either;
    found = below_more _ _ (λ k less is. kept (get_or key_indices k 0) (get_or readers k 0) (done.found k less is)) (λ is. found);
  }
    where
      sound : (new ≡ old) ⊎ (new ≡ Some (get_or key_indices m 0, get_or readers m 0))
          → MatchOption new (Unit {0}) (λ place. (place.0 < length (keys h)) × (place.1 < count h) × IsContradictedAt h lengths n b a (key_at h place.0) place.1)
      sound (inl same) =
          subst (λ (z : Option (ℕ × ℕ)). MatchOption z (Unit {0})
          (λ place. (place.0 < length (keys h)) × (place.1 < count h) × IsContradictedAt h lengths n b a (key_at h place.0) place.1)) (sym same) done.sound
      sound (inr one) =
          let (key, read) = reading_at h a readers key_indices are m inside in
          subst (λ (z : Option (ℕ × ℕ)). MatchOption z (Unit {0})
          (λ place. (place.0 < length (keys h)) × (place.1 < count h) × IsContradictedAt h lengths n b a (key_at h place.0) place.1)) (sym one) (key, read.1, here)

  pub found_same : (m : ℕ) (first : Option (ℕ × ℕ)) → AreFound h lengths n b a readers key_indices m first
      → (IsContradictedAt h lengths n b a (key_at h (get_or key_indices m 0)) (get_or readers m 0) → ⊥)
      → AreFound h lengths n b a readers key_indices (m + 1) first
  found_same m first done none = record { sound = done.sound; found = below_more _ _ done.found (λ is. absurd (none is)) }

  module _ (m : ℕ) (all : length readers ≤ m) where
    pub none_found : AreFound h lengths n b a readers key_indices m None → (x : List ℕ) (c : ℕ) → IsContradictedAt h lengths n b a x c → ⊥
    none_found done x c is =
        let w = place_of_reading h a readers key_indices are c x is.0.1 in
        done.found w.0 (omega (arith, all, w.1)) (rw (w.2, w.3) is)

    pub first_found : (k c : ℕ) → AreFound h lengths n b a readers key_indices m (Some (k, c)) → IsFirstContradictedAt h lengths n b a (key_at h k) c
    first_found k c done = record { here = done.sound.2; first = up_to }
      where
        up_to : (y : List ℕ) (d : ℕ) → IsContradictedAt h lengths n b a y d → (name_cmp (key_at h k) y ≡ Less) ⊎ ((key_at h k ≡ y) × (c ≤ d))
        up_to y d is = go (done.found w.0 (omega (arith, all, w.1)) (rw (w.2, w.3) is))
          where
            w : (i : ℕ) × (i < length readers) × (get_or readers i 0 ≡ d) × (key_at h (get_or key_indices i 0) ≡ y)
            w = place_of_reading h a readers key_indices are d y is.0.1

            go : (k < get_or key_indices w.0 0) ⊎ ((k ≡ get_or key_indices w.0 0) × (c ≤ get_or readers w.0 0))
                → (name_cmp (key_at h k) y ≡ Less) ⊎ ((key_at h k ≡ y) × (c ≤ d))
            go (inl less) =
                inl (subst (λ (z : List ℕ). name_cmp (key_at h k) z ≡ Less) w.3
                (key_before h k (get_or key_indices w.0 0) less (reading_at h a readers key_indices are w.0 w.1).0))
            go (inr (same, up)) = inr (ap (key_at h) same ∙ w.3, omega (arith, up, w.2))
