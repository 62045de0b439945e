-- Which transactions are near, by what was found about the links that lead back.
use Rattle.std.proofs.Common.{◌≡◌, ◌≢◌, ◌<◌, ◌≤◌, ◌+◌, ◌⊎◌, ◌↔◌, inl, inr, ℕ, Bool, true, false, cond, List, [], ◌∷◌, ◌++◌, length, length-append, get_or, set, replicate, refl, sym, ap, subst, ◌∙◌, arith}
use Rattle.std.proofs.lemmas.Bool.{cases_Bool, cases_eq, cases_lt}
use Rattle.std.proofs.lemmas.List.{get_or-replicate, get_or-set_other, get_or-set_same, get_or_append_left, get_or_at, get_or_default, get_or_past, length-replicate, length-set}
use Rattle.tcc_reads.specs.History.{History, count}
use Rattle.tcc_graph.specs.Levels.{Judged}
use Rattle.tcc_graph.specs.Orders.{IsNumbering}
use Rattle.tcc_graph.proofs.Numberings.{below_in, one_index}
use Rattle.tcc_graph.proofs.Pairs.{pair_below}
use Rattle.tcc_lanes.specs.Nearness.{AreEndsOfAll, AreNear, ArePlaces, IsClosing, IsForward, IsJump, IsNear, IsOnward, IsOver}
use Rattle.tcc_lanes.specs.declared.pricing.TheConstants.{NONE}
use Rattle.tcc_lanes.specs.private.Closings.{AreOffered, IsFromFirst}
use Rattle.tcc_lanes.specs.private.Marks.{HasLane, IsAt, IsLedTo}
use Rattle.tcc_lanes.specs.private.Passes.{AreAllCovered, AreClosings, AreCovered, AreEnds, AreNearTo, IsBeyond, IsComing, IsGoing, IsLeastPrice, IsLedFromEnd, IsNearAt, IsReachedOn, price_at}

-- ---- where links end
pub ends_none : (lasts : List ℕ) → AreEnds lasts 0 []
ends_none lasts = record { long = refl; each = λ v l. absurd (omega arith) }

pub ends_more : (lasts marks : List ℕ) (i word : ℕ) → HasLane word 0 ↔ (0 < get_or lasts i 0) → AreEnds lasts i marks → AreEnds lasts (i + 1) (marks ++ word ∷ [])
ends_more lasts marks i word is w = record {
  long = omega (arith, length-append marks (word ∷ []), w.long);
  each = λ v l. go v l (cases_eq v i);
}
  where
    here : get_or (marks ++ word ∷ []) (length marks) 0 ≡ word
    here = get_or_at marks word [] 0 (length marks) refl

    go : (v : ℕ) → v < i + 1 → (v ≡ i) ⊎ (v ≢ i) → IsAt (marks ++ word ∷ []) v 0 ↔ (0 < get_or lasts v 0)
    go v l (inl same) = rw (same, sym w.long, here) (rw (sym w.long) at is)
    go v l (inr other) = rw (get_or_append_left marks (word ∷ []) 0 v (omega (arith, l, other, w.long))) (w.each v (omega (arith, l, other)))

pub led_told : (h : History) (lasts marks : List ℕ) (end : ℕ) → end ≡ count h → AreEnds lasts end marks → (v : ℕ) → IsLedTo h marks v 0 ↔ IsLedFromEnd h lasts v
led_told h lasts marks end all w v = (
  (λ is. (is.0, is.1, (w.each is.0 (omega (arith, (pair_below h is.0 v is.1).0, all))).0 is.2)),
  (λ is. (is.0, is.1, (w.each is.0 (omega (arith, (pair_below h is.0 v is.1).0, all))).1 is.2)),
)

-- ---- at one place
module _ (h : History) (order prices lasts : List ℕ) (covered : List Bool) (most : ℕ) (low : most ≤ NONE) (place v : ℕ) where
  abbrev comes_of : Bool → Bool → Bool → ℕ
  comes_of ends led reached = cond ends 0 (cond led 1 (cond reached 2 NONE))

  module _ (ends led reached : Bool) (ends_is : (ends ≡ true) ↔ (0 < get_or lasts v 0)) (led_is : (led ≡ true) ↔ IsLedFromEnd h lasts v)
      (reached_is : (reached ≡ true) ↔ IsReachedOn order lasts covered place) where
    coming : comes_of ends led reached < NONE → IsComing h order lasts covered place v (comes_of ends led reached)
    coming few = go (cases_Bool ends) (cases_Bool led) (cases_Bool reached)
      where
        go : (ends ≡ true) ⊎ (ends ≡ false) → (led ≡ true) ⊎ (led ≡ false) → (reached ≡ true) ⊎ (reached ≡ false)
            → IsComing h order lasts covered place v (comes_of ends led reached)
        go (inl is) q r = rw is (inl (ends_is.0 is, refl))
        go (inr none) (inl is) r = rw (none, is) (inr (inl (led_is.0 is, refl)))
        go (inr none) (inr no_pair) (inl is) = rw (none, no_pair, is) (inr (inr (reached_is.0 is, refl)))
        go (inr none) (inr no_pair) (inr nothing) = absurd (omega (arith, rw (none, no_pair, nothing) at few))

    least_coming : (m : ℕ) → IsComing h order lasts covered place v m → comes_of ends led reached ≤ m
    least_coming m (inl (is, none)) = rw (ends_is.1 is) (omega arith)
    least_coming m (inr (inl (is, one))) = go (cases_Bool ends)
      where
        go : (ends ≡ true) ⊎ (ends ≡ false) → comes_of ends led reached ≤ m
        go (inl ended) = rw ended (omega arith)
        go (inr none) = rw (none, led_is.1 is) (omega (arith, one))
    least_coming m (inr (inr (is, two))) = go (cases_Bool ends) (cases_Bool led)
      where
        go : (ends ≡ true) ⊎ (ends ≡ false) → (led ≡ true) ⊎ (led ≡ false) → comes_of ends led reached ≤ m
        go (inl ended) q = rw ended (omega arith)
        go (inr none) (inl paired) = rw (none, paired) (omega (arith, two))
        go (inr none) (inr no_pair) = rw (none, no_pair, reached_is.1 is) (omega (arith, two))

    pub near_at : (beyond : ℕ) → IsLeastPrice (IsBeyond order prices covered place) beyond
        → ((comes_of ends led reached + get_or prices v 0 < most) ⊎ (comes_of ends led reached + (beyond + 1) < most))
        ↔ IsNearAt h order prices lasts covered most place v
    near_at beyond w = (there, λ is. back is.0 is.1 is.2 is.3 is.4)
      where
        comes : ℕ
        comes = comes_of ends led reached

        there : (comes + get_or prices v 0 < most) ⊎ (comes + (beyond + 1) < most) → IsNearAt h order prices lasts covered most place v
        there (inl few) = (comes, get_or prices v 0, coming (omega (arith, few, low)), inl refl, few)
        there (inr few) = go w.attained
          where
            go : (beyond ≡ NONE) ⊎ IsBeyond order prices covered place beyond → IsNearAt h order prices lasts covered most place v
            go (inl none) = absurd (omega (arith, few, low, none))
            go (inr is) = (comes, beyond + 1, coming (omega (arith, few, low)), inr (beyond, is, refl), few)

        back : (m n : ℕ) → IsComing h order lasts covered place v m → IsGoing order prices covered place v n → m + n < most
            → (comes + get_or prices v 0 < most) ⊎ (comes + (beyond + 1) < most)
        back m n is_m (inl here) few = inl (omega (arith, least_coming m is_m, here, few))
        back m n is_m (inr (price, is, on)) few = inr (omega (arith, least_coming m is_m, w.lowest price is, on, few))

-- ---- the places so far
module _ (h : History) (order prices lasts : List ℕ) (covered : List Bool) (most : ℕ) (numbering : IsNumbering (count h) order) where
  pub near_none : (n : ℕ) → n ≡ count h → AreNearTo h order prices lasts covered most 0 (replicate n false)
  near_none n is = record { long = length-replicate {A = Bool} n false ∙ is; each = λ place l. absurd (omega arith) }

  pub near_more : (place : ℕ) (marks : List Bool) (one : Bool) → place < length order → AreNearTo h order prices lasts covered most place marks
      → (one ≡ true) ↔ IsNearAt h order prices lasts covered most place (get_or order place 0)
      → AreNearTo h order prices lasts covered most (place + 1) (set marks (get_or order place 0) one)
  near_more place marks one inside w is = record {
    long = length-set marks (get_or order place 0) one ∙ w.long;
    each = λ k l. each k l (cases_eq k place);
  }
    where
      here : get_or (set marks (get_or order place 0) one) (get_or order place 0) false ≡ one
      here = get_or-set_same marks (get_or order place 0) one false (omega (arith, below_in numbering place inside, w.long))

      each : (k : ℕ) → k < place + 1 → (k ≡ place) ⊎ (k ≢ place)
          → (get_or (set marks (get_or order place 0) one) (get_or order k 0) false ≡ true) ↔ IsNearAt h order prices lasts covered most k (get_or order k 0)
      each k l (inl same) = rw (same, here) is
      each k l (inr other) =
          rw (
          get_or-set_other marks (get_or order place 0) (get_or order k 0) one false
          (λ e. other (one_index numbering k place (omega (arith, l, inside)) inside e))
          ) (w.each k (omega (arith, l, other)))

-- ---- by the links that lead back
module _ (j : Judged) (order positions : List ℕ) (places : ArePlaces (count j.history) order positions) (most : ℕ) where
  abbrev pub rank : ℕ → ℕ
  rank v = get_or positions v 0

  rank_at : (place : ℕ) → place < length order → rank (get_or order place 0) ≡ place
  rank_at place inside =
      let below : get_or order place 0 < count j.history = below_in places.numbering place inside in
      one_index places.numbering (rank (get_or order place 0)) place (places.within (get_or order place 0) below) inside (places.here (get_or order place 0) below)

  -- all but `init` come after the first place
  rank_some : (v : ℕ) → v < count j.history → v ≢ 0 → 0 < rank v
  rank_some v below other = go (cases_eq (rank v) 0)
    where
      go : (rank v ≡ 0) ⊎ (rank v ≢ 0) → 0 < rank v
      go (inl none) = absurd (other (sym (places.here v below) ∙ (ap (λ z. get_or order z 0) none ∙ places.init)))
      go (inr some) = omega arith

  pub closings_are : (prices lasts sources targets : List ℕ) → AreEndsOfAll j rank most sources targets
      → AreOffered (IsFromFirst j positions most sources targets (length sources)) rank (replicate (count j.history) NONE) (replicate (count j.history) 0) prices lasts
      → AreClosings j rank most prices lasts
  closings_are prices lasts sources targets ends w = record {
    priced = λ b below less. priced b below less (w.priced b);
    cheapest = λ b a price is. w.cheapest b a price (meant b a price is);
    led = λ a some. led a some (w.led a);
    last = λ b a price is. w.last b a price (meant b a price is);
  }
    where
      meant : (b a price : ℕ) → IsClosing j rank most b a price → IsFromFirst j positions most sources targets (length sources) b a price
      meant b a price is =
          let (from, to) = ends b a price is in
          ((from.0, from.1, from.1, get_or_default sources from.0 0 b from.1 ∙ from.2), to, is)

      priced : (b : ℕ) → b < count j.history → get_or prices b 0 < NONE
          → (get_or prices b 0 ≡ get_or (replicate (count j.history) NONE) b 0)
          ⊎ ((a : ℕ) × IsFromFirst j positions most sources targets (length sources) b a (get_or prices b 0))
          → (a : ℕ) × IsClosing j rank most b a (get_or prices b 0)
      priced b below less (inl same) = absurd (omega (arith, less, same, get_or-replicate (count j.history) b NONE 0 below))
      priced b below less (inr (a, is)) = (a, is.2)

      led : (a : ℕ) → 0 < get_or lasts a 0
          → (get_or lasts a 0 ≡ get_or {A = ℕ} (replicate (count j.history) 0) a 0)
          ⊎ ((b : ℕ) × (price : ℕ) × IsFromFirst j positions most sources targets (length sources) b a price × (rank b ≡ get_or lasts a 0))
          → (b : ℕ) × (price : ℕ) × IsClosing j rank most b a price × (rank b ≡ get_or lasts a 0)
      led a some (inl same) = absurd (omega (arith, some, same, zeros a (count j.history)))
        where
          zeros : (k n : ℕ) → get_or {A = ℕ} (replicate n 0) k 0 ≡ 0
          zeros k n = go (cases_lt k n)
            where
              go : (k < n) ⊎ (n ≤ k) → get_or {A = ℕ} (replicate n 0) k 0 ≡ 0
              go (inl less) = get_or-replicate n k 0 0 less
              go (inr past) = get_or_past (replicate n 0) k 0 (omega (arith, past, length-replicate {A = ℕ} n 0))
      led a some (inr (b, price, is, at)) = (b, price, is.2, at)

  module _ (prices lasts : List ℕ) (w : AreClosings j rank most prices lasts) (covered : List Bool) (all : AreCovered order lasts (length order) covered) where
    source_below : (b a price : ℕ) → IsClosing j rank most b a price → b < count j.history
    source_below b a price is = is.reason.0.2.0

    target_below : (b a price : ℕ) → IsClosing j rank most b a price → a < count j.history
    target_below b a price is = is.reason.0.1.0

    ended : (b a price : ℕ) → IsClosing j rank most b a price → 0 < get_or lasts a 0
    ended b a price is = omega (arith, w.last b a price is, is.back, rank_some a (target_below b a price is) is.aside)

    over : (at : ℕ) → at < length order → get_or covered at false ≡ true → IsOver j rank most at
    over at inside is =
        let (i, less, far) = (all.each at inside).0 is in
        let (b, price, closing, here) = w.led (get_or order i 0) (omega (arith, far)) in
        (b, get_or order i 0, price, closing, omega (arith, less, rank_at i (omega (arith, less, inside))), omega (arith, far, here))

    covers : (at : ℕ) → at < length order → IsOver j rank most at → get_or covered at false ≡ true
    covers at inside (b, a, price, closing, low, high) =
        (all.each at inside).1 (
          rank a,
          low,
          omega (
            arith,
            high,
            w.last b a price closing,
            ap (λ z. get_or lasts z 0) (places.here a (target_below b a price closing)),
          ),
        )

    jump : (u v : ℕ) → u < count j.history → v < count j.history → rank u < rank v → AreAllCovered covered (rank u) (rank v) → IsJump j rank most u v
    jump u v low high less through = (less, λ at from to. over at (omega (arith, to, places.within v high)) (through at from to))

    jumped : (u v : ℕ) → u < count j.history → v < count j.history → IsJump j rank most u v → AreAllCovered covered (rank u) (rank v)
    jumped u v low high is at from to = covers at (omega (arith, to, places.within v high)) (is.1 at from to)

    module _ (most_low : most ≤ NONE) (v : ℕ) (below : v < count j.history) where
      pub near_there : IsNearAt j.history order prices lasts covered most (rank v) v → IsNear j rank most v
      near_there (m, n, coming, going, few) = go (came coming) (goes_on going)
        where
          came : IsComing j.history order lasts covered (rank v) v m → (u : ℕ) × (0 < get_or lasts u 0) × IsForward j rank most u v m
          came (inl (some, none)) = (v, some, inl (refl, none))
          came (inr (inl ((u, pair, some), one))) = (u, some, inr (inl (pair, one)))
          came (inr (inr ((i, less, some, through), two))) =
              let inside : i < length order = omega (arith, less, places.within v below) in
              let at : rank (get_or order i 0) ≡ i = rank_at i inside in
              let less_rank : rank (get_or order i 0) < rank v = omega (arith, less, at) in (
                get_or order i 0,
                some,
                inr (inr (
                  jump (get_or order i 0) v (below_in places.numbering i inside) below less_rank
                      (subst (λ (z : ℕ). AreAllCovered covered z (rank v)) (sym at) through),
                  two,
                )),
              )

          goes_on : IsGoing order prices covered (rank v) v n
              → (w_at : ℕ) × (price : ℕ) × (goes : ℕ) × (w_at < count j.history) × (get_or prices w_at 0 ≡ price) × IsOnward j rank most v w_at goes × (goes + price ≡ n)
          goes_on (inl here) = (v, n, 0, below, here, inl (refl, refl), omega arith)
          goes_on (inr (price, (k, more, inside, through, is), on)) =
              let at : rank (get_or order k 0) ≡ k = rank_at k inside in
              let less_rank : rank v < rank (get_or order k 0) = omega (arith, more, at) in (
                get_or order k 0,
                price,
                1,
                below_in places.numbering k inside,
                is,
                inr (
                  jump v (get_or order k 0) below (below_in places.numbering k inside) less_rank
                      (subst (λ (z : ℕ). AreAllCovered covered (rank v) z) (sym at) through),
                  refl,
                ),
                omega (arith, on),
              )

          go : (u : ℕ) × (0 < get_or lasts u 0) × IsForward j rank most u v m
              → (w_at : ℕ) × (price : ℕ) × (goes : ℕ) × (w_at < count j.history) × (get_or prices w_at 0 ≡ price) × IsOnward j rank most v w_at goes × (goes + price ≡ n)
              → IsNear j rank most v
          go (u, some, from) (x, price, goes, inside, is, to, sum) = record {
            target = u;
            ended = (found.0, found.1, found.2);
            source = x;
            price = price;
            begun = (cheap.0, subst (λ (z : ℕ). IsClosing j rank most x cheap.0 z) is cheap.1);
            comes = m;
            from = from;
            goes = goes;
            to = to;
            few = omega (arith, few, sum);
          }
            where
              found : (b : ℕ) × (p : ℕ) × IsClosing j rank most b u p × (rank b ≡ get_or lasts u 0)
              found = w.led u some

              cheap : (a : ℕ) × IsClosing j rank most x a (get_or prices x 0)
              cheap = w.priced x inside (omega (arith, few, sum, is, most_low))

      pub near_back : IsNear j rank most v → IsNearAt j.history order prices lasts covered most (rank v) v
      near_back is = go (came is.from) (goes_on is.to)
        where
          ended_at : 0 < get_or lasts is.target 0
          ended_at = ended is.ended.0 is.target is.ended.1 is.ended.2

          target_in : is.target < count j.history
          target_in = target_below is.ended.0 is.target is.ended.1 is.ended.2

          source_in : is.source < count j.history
          source_in = source_below is.source is.begun.0 is.price is.begun.1

          cheap : get_or prices is.source 0 ≤ is.price
          cheap = w.cheapest is.source is.begun.0 is.price is.begun.1

          came : IsForward j rank most is.target v is.comes → IsComing j.history order lasts covered (rank v) v is.comes
          came (inl (same, none)) = inl (subst (λ (z : ℕ). 0 < get_or lasts z 0) same ended_at, none)
          came (inr (inl (pair, one))) = inr (inl ((is.target, pair, ended_at), one))
          came (inr (inr (over_all, two))) =
              inr (inr (
                (
                  rank is.target,
                  over_all.0,
                  subst (λ (z : ℕ). 0 < get_or lasts z 0) (sym (places.here is.target target_in)) ended_at,
                  jumped is.target v target_in below over_all,
                ),
                two,
              ))

          goes_on : IsOnward j rank most v is.source is.goes → (n : ℕ) × IsGoing order prices covered (rank v) v n × (n ≤ is.goes + is.price)
          goes_on (inl (same, none)) =
              (get_or prices v 0, inl refl, omega (arith, none, cheap, ap (λ z. get_or prices z 0) same))
          goes_on (inr (over_all, one)) =
              let at : price_at order prices (rank is.source) ≡ get_or prices is.source 0 = ap (λ z. get_or prices z 0) (places.here is.source source_in) in (
                get_or prices is.source 0 + 1,
                inr (
                  get_or prices is.source 0,
                  (rank is.source, over_all.0, places.within is.source source_in, jumped v is.source below source_in over_all, at),
                  refl,
                ),
                omega (arith, one, cheap),
              )

          go : IsComing j.history order lasts covered (rank v) v is.comes → (n : ℕ) × IsGoing order prices covered (rank v) v n × (n ≤ is.goes + is.price)
              → IsNearAt j.history order prices lasts covered most (rank v) v
          go coming (n, going, less) = (is.comes, n, coming, going, omega (arith, less, is.few))

    pub near_all : most ≤ NONE → (marks : List Bool) → AreNearTo j.history order prices lasts covered most (length order) marks → AreNear j rank most marks
    near_all most_low marks near = record {
      long = near.long;
      each = λ v below.
          let told = near.each (rank v) (places.within v below) in
          let here = places.here v below in
          let by_v : (get_or marks v false ≡ true) ↔ IsNearAt j.history order prices lasts covered most (rank v) v
          = subst (λ (z : ℕ). (get_or marks z false ≡ true) ↔ IsNearAt j.history order prices lasts covered most (rank v) z) here told in
          ((λ is. near_there most_low v below (by_v.0 is)), λ is. by_v.1 (near_back most_low v below is));
    }
