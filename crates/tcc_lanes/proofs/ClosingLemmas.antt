-- The derived links that lead back, as they are found.
use Rattle.std.proofs.Common.{◌≡◌, ◌≢◌, ◌<◌, ◌≤◌, ◌+◌, ◌-◌, ◌⊎◌, inl, inr, ℕ, List, length, get_or, replicate, set, refl, sym, ap, subst, ◌∙◌, arith}
use Rattle.std.specs.Prelude.{max, min}
use Rattle.std.specs.List.{All}
use Rattle.std.proofs.lemmas.Bool.{cases_eq, cases_lt}
use Rattle.std.proofs.lemmas.List.{get_or-replicate, get_or-set_same, get_or-set_other, get_or_default, length-replicate, length-set}
use Rattle.tcc_reads.specs.History.{History}
use Rattle.tcc_graph.specs.Levels.{IsAllowed, Judged, judged}
use Rattle.tcc_graph.specs.Links.{IsReason}
use Rattle.tcc_graph.specs.declared.level.Level.{Level}
use Rattle.tcc_graph.specs.declared.step.Step.{Step}
use Rattle.tcc_lanes.specs.Nearness.{IsClosing}
use Rattle.tcc_lanes.specs.declared.pricing.TheConstants.{NONE}
use Rattle.tcc_lanes.specs.private.Pricing.{ArePrices, cell}
use Rattle.tcc_lanes.specs.private.Passes.{ArePricesOf}
use Rattle.tcc_lanes.specs.private.Tiles.{IsTile}
use Rattle.tcc_lanes.specs.private.Closings.{AreOffered, IsCellOf, IsFromFirst, IsInColumn, IsInColumns, IsThis}

-- nothing was taken in
pub offered_none : (Is : ℕ → ℕ → ℕ → Type 0) (rank : ℕ → ℕ) (prices lasts : List ℕ) → ((b a price : ℕ) → Is b a price → ⊥)
    → AreOffered Is rank prices lasts prices lasts
offered_none Is rank prices lasts none = record {
  prices_same = refl;
  lasts_same = refl;
  prices_kept = λ b. omega arith;
  priced = λ b. inl refl;
  cheapest = λ b a price is. absurd (none b a price is);
  lasts_kept = λ a. omega arith;
  led = λ a. inl refl;
  last = λ b a price is. absurd (none b a price is);
}

-- the same for links that are described in another way: each of these is one of those, and each of those costs at least as much as one of
-- these
pub offered_as : (Is Other : ℕ → ℕ → ℕ → Type 0) (rank : ℕ → ℕ) (prices lasts new_prices new_lasts : List ℕ)
    → ((b a price : ℕ) → Is b a price → Other b a price) → ((b a price : ℕ) → Other b a price → (low : ℕ) × (low ≤ price) × Is b a low)
    → AreOffered Is rank prices lasts new_prices new_lasts → AreOffered Other rank prices lasts new_prices new_lasts
offered_as Is Other rank prices lasts new_prices new_lasts there back w = record {
  prices_same = w.prices_same;
  lasts_same = w.lasts_same;
  prices_kept = w.prices_kept;
  priced = λ b. priced b (w.priced b);
  cheapest = λ b a price is. let (low, less, one) = back b a price is in omega (arith, less, w.cheapest b a low one);
  lasts_kept = w.lasts_kept;
  led = λ a. led a (w.led a);
  last = λ b a price is. let (low, less, one) = back b a price is in w.last b a low one;
}
  where
    priced : (b : ℕ) → (get_or new_prices b 0 ≡ get_or prices b 0) ⊎ ((a : ℕ) × Is b a (get_or new_prices b 0))
        → (get_or new_prices b 0 ≡ get_or prices b 0) ⊎ ((a : ℕ) × Other b a (get_or new_prices b 0))
    priced b (inl same) = inl same
    priced b (inr (a, is)) = inr (a, there b a (get_or new_prices b 0) is)

    led : (a : ℕ) → (get_or new_lasts a 0 ≡ get_or lasts a 0) ⊎ ((b : ℕ) × (price : ℕ) × Is b a price × (rank b ≡ get_or new_lasts a 0))
        → (get_or new_lasts a 0 ≡ get_or lasts a 0) ⊎ ((b : ℕ) × (price : ℕ) × Other b a price × (rank b ≡ get_or new_lasts a 0))
    led a (inl same) = inl same
    led a (inr (b, price, is, at)) = inr (b, price, there b a price is, at)

-- one after the other
pub offered_both : (One Other : ℕ → ℕ → ℕ → Type 0) (rank : ℕ → ℕ) (prices lasts mid_prices mid_lasts new_prices new_lasts : List ℕ)
    → AreOffered One rank prices lasts mid_prices mid_lasts → AreOffered Other rank mid_prices mid_lasts new_prices new_lasts
    → AreOffered (λ b a price. One b a price ⊎ Other b a price) rank prices lasts new_prices new_lasts
offered_both One Other rank prices lasts mid_prices mid_lasts new_prices new_lasts v w = record {
  prices_same = w.prices_same ∙ v.prices_same;
  lasts_same = w.lasts_same ∙ v.lasts_same;
  prices_kept = λ b. omega (arith, v.prices_kept b, w.prices_kept b);
  priced = λ b. priced b (v.priced b) (w.priced b);
  cheapest = cheapest;
  lasts_kept = λ a. omega (arith, v.lasts_kept a, w.lasts_kept a);
  led = λ a. led a (v.led a) (w.led a);
  last = last;
}
  where
    Both : ℕ → ℕ → ℕ → Type 0
    Both b a price = One b a price ⊎ Other b a price

    priced : (b : ℕ) → (get_or mid_prices b 0 ≡ get_or prices b 0) ⊎ ((a : ℕ) × One b a (get_or mid_prices b 0))
        → (get_or new_prices b 0 ≡ get_or mid_prices b 0) ⊎ ((a : ℕ) × Other b a (get_or new_prices b 0))
        → (get_or new_prices b 0 ≡ get_or prices b 0) ⊎ ((a : ℕ) × (One b a (get_or new_prices b 0) ⊎ Other b a (get_or new_prices b 0)))
    priced b p (inr (a, is)) = inr (a, inr is)
    priced b (inl old) (inl same) = inl (same ∙ old)
    priced b (inr (a, is)) (inl same) = inr (a, inl (subst (One b a) (sym same) is))

    cheapest : (b a price : ℕ) → One b a price ⊎ Other b a price → get_or new_prices b 0 ≤ price
    cheapest b a price (inl is) = omega (arith, v.cheapest b a price is, w.prices_kept b)
    cheapest b a price (inr is) = w.cheapest b a price is

    led : (a : ℕ) → (get_or mid_lasts a 0 ≡ get_or lasts a 0) ⊎ ((b : ℕ) × (price : ℕ) × One b a price × (rank b ≡ get_or mid_lasts a 0))
        → (get_or new_lasts a 0 ≡ get_or mid_lasts a 0) ⊎ ((b : ℕ) × (price : ℕ) × Other b a price × (rank b ≡ get_or new_lasts a 0))
        → (get_or new_lasts a 0 ≡ get_or lasts a 0)
        ⊎ ((b : ℕ) × (price : ℕ) × (One b a price ⊎ Other b a price) × (rank b ≡ get_or new_lasts a 0))
    led a p (inr (b, price, is, at)) = inr (b, price, inr is, at)
    led a (inl old) (inl same) = inl (same ∙ old)
    led a (inr (b, price, is, at)) (inl same) = inr (b, price, inl is, at ∙ sym same)

    last : (b a price : ℕ) → One b a price ⊎ Other b a price → rank b ≤ get_or new_lasts a 0
    last b a price (inl is) = omega (arith, v.last b a price is, w.lasts_kept a)
    last b a price (inr is) = w.last b a price is

-- one is taken in
pub offered_one : (rank : ℕ → ℕ) (prices lasts : List ℕ) (from position to price : ℕ) → from < length prices → to < length lasts → rank from ≡ position
    → AreOffered (IsThis from to price) rank prices lasts (set prices from (min price (get_or prices from 0))) (set lasts to (max position (get_or lasts to 0)))
offered_one rank prices lasts from position to price inside within here = record {
  prices_same = length-set prices from (min price (get_or prices from 0));
  lasts_same = length-set lasts to (max position (get_or lasts to 0));
  prices_kept = λ b. prices_kept b (cases_eq b from);
  priced = λ b. priced b (cases_eq b from) (cases_lt price (get_or prices from 0));
  cheapest = λ b a p is. omega (arith, is.2, ap (λ z. get_or new_prices z 0) is.0, price_here);
  lasts_kept = λ a. lasts_kept a (cases_eq a to);
  led = λ a. led a (cases_eq a to) (cases_lt (get_or lasts to 0) position);
  last = λ b a p is. omega (arith, ap rank is.0, here, ap (λ z. get_or new_lasts z 0) is.1, last_here);
}
  where
    new_prices : List ℕ
    new_prices = set prices from (min price (get_or prices from 0))

    new_lasts : List ℕ
    new_lasts = set lasts to (max position (get_or lasts to 0))

    price_here : get_or new_prices from 0 ≡ min price (get_or prices from 0)
    price_here = get_or-set_same prices from (min price (get_or prices from 0)) 0 inside

    last_here : get_or new_lasts to 0 ≡ max position (get_or lasts to 0)
    last_here = get_or-set_same lasts to (max position (get_or lasts to 0)) 0 within

    other_price : (b : ℕ) → b ≢ from → get_or new_prices b 0 ≡ get_or prices b 0
    other_price b other = get_or-set_other prices from b (min price (get_or prices from 0)) 0 other

    other_last : (a : ℕ) → a ≢ to → get_or new_lasts a 0 ≡ get_or lasts a 0
    other_last a other = get_or-set_other lasts to a (max position (get_or lasts to 0)) 0 other

    prices_kept : (b : ℕ) → (b ≡ from) ⊎ (b ≢ from) → get_or new_prices b 0 ≤ get_or prices b 0
    prices_kept b (inl same) = omega (arith, ap (λ z. get_or new_prices z 0) same, ap (λ z. get_or prices z 0) same, price_here)
    prices_kept b (inr other) = omega (arith, other_price b other)

    priced : (b : ℕ) → (b ≡ from) ⊎ (b ≢ from) → (price < get_or prices from 0) ⊎ (get_or prices from 0 ≤ price)
        → (get_or new_prices b 0 ≡ get_or prices b 0) ⊎ ((a : ℕ) × IsThis from to price b a (get_or new_prices b 0))
    priced b (inr other) q = inl (other_price b other)
    priced b (inl same) (inl less) = inr (to, (same, refl, omega (arith, less, ap (λ z. get_or new_prices z 0) same, price_here)))
    priced b (inl same) (inr more) = inl (omega (arith, more, ap (λ z. get_or new_prices z 0) same, ap (λ z. get_or prices z 0) same, price_here))

    lasts_kept : (a : ℕ) → (a ≡ to) ⊎ (a ≢ to) → get_or lasts a 0 ≤ get_or new_lasts a 0
    lasts_kept a (inl same) = omega (arith, ap (λ z. get_or new_lasts z 0) same, ap (λ z. get_or lasts z 0) same, last_here)
    lasts_kept a (inr other) = omega (arith, other_last a other)

    led : (a : ℕ) → (a ≡ to) ⊎ (a ≢ to) → (get_or lasts to 0 < position) ⊎ (position ≤ get_or lasts to 0)
        → (get_or new_lasts a 0 ≡ get_or lasts a 0) ⊎ ((b : ℕ) × (p : ℕ) × IsThis from to price b a p × (rank b ≡ get_or new_lasts a 0))
    led a (inr other) q = inl (other_last a other)
    led a (inl same) (inl more) =
        inr (from, price, (refl, same, refl), omega (arith, more, here, ap (λ z. get_or new_lasts z 0) same, last_here))
    led a (inl same) (inr less) = inl (omega (arith, less, ap (λ z. get_or new_lasts z 0) same, ap (λ z. get_or lasts z 0) same, last_here))

-- what was found from nothing
module _ (Is : ℕ → ℕ → ℕ → Type 0) (rank : ℕ → ℕ) (n : ℕ) (prices lasts : List ℕ) (w : AreOffered Is rank (replicate n NONE) (replicate n 0) prices lasts) where
  pub offered_prices : ArePricesOf n prices
  offered_prices = record {
    long = w.prices_same ∙ length-replicate n NONE;
    high = λ b below. omega (arith, w.prices_kept b, get_or-replicate n b NONE 0 below);
  }

  pub offered_lasts : length lasts ≡ n
  offered_lasts = w.lasts_same ∙ length-replicate {A = ℕ} n 0

-- ---- the cells of a table
module _ (positions : List ℕ) (most : ℕ) (starts members table : List ℕ) where
  abbrev rank : ℕ → ℕ
  rank v = get_or positions v 0

  abbrev InColumn : ℕ → ℕ → ℕ → ℕ → ℕ → Type 0
  InColumn v end b a price = IsInColumn positions most starts members table v end b a price

  abbrev InColumns : ℕ → ℕ → ℕ → ℕ → Type 0
  InColumns end b a price = IsInColumns positions most starts members table end b a price

  module _ (prices lasts now_prices now_lasts : List ℕ) (v : ℕ) where
    pub column_none : AreOffered (InColumn v 0) rank prices lasts prices lasts
    column_none = offered_none (InColumn v 0) rank prices lasts (λ b a price is. omega (arith, is.1))

    module _ (i : ℕ) (w : AreOffered (InColumn v i) rank prices lasts now_prices now_lasts) where
      last_cell : (b a price : ℕ) → InColumn v (i + 1) b a price → InColumn v i b a price ⊎ IsCellOf positions most starts members table v i b a price
      last_cell b a price (k, less, is) = go (cases_eq k i)
        where
          go : (k ≡ i) ⊎ (k ≢ i) → InColumn v i b a price ⊎ IsCellOf positions most starts members table v i b a price
          go (inl same) = inr (subst (λ (z : ℕ). IsCellOf positions most starts members table v z b a price) same is)
          go (inr other) = inl (k, omega (arith, less, other), is)

      pub column_same : ((get_or table (cell v i) 0 + 1 < most) × (rank (get_or members v 0) ≤ rank (get_or starts i 0)) → ⊥)
          → AreOffered (InColumn v (i + 1)) rank prices lasts now_prices now_lasts
      column_same none =
          offered_as (InColumn v i) (InColumn v (i + 1)) rank prices lasts now_prices now_lasts (λ b a price is. (is.0, omega (arith, is.1), is.2))
          (λ b a price is. (price, omega arith, back b a price (last_cell b a price is))) w
        where
          back : (b a price : ℕ) → InColumn v i b a price ⊎ IsCellOf positions most starts members table v i b a price → InColumn v i b a price
          back b a price (inl is) = is
          back b a price (inr one) =
              absurd (none (omega (arith, one.is, one.short), omega (arith, ap rank one.from, ap rank one.to, one.back)))

      pub column_more : (from position to price : ℕ) → get_or starts i 0 ≡ from → get_or members v 0 ≡ to → get_or table (cell v i) 0 ≡ price → rank from ≡ position
          → (price + 1 < most) × (rank to ≤ position) → from < length now_prices → to < length now_lasts
          → AreOffered (InColumn v (i + 1)) rank prices lasts (set now_prices from (min price (get_or now_prices from 0)))
          (set now_lasts to (max position (get_or now_lasts to 0)))
      column_more from position to price at_from at_to at here is inside within =
          offered_as (λ b a p. InColumn v i b a p ⊎ IsThis from to price b a p) (InColumn v (i + 1)) rank prices lasts
          (set now_prices from (min price (get_or now_prices from 0))) (set now_lasts to (max position (get_or now_lasts to 0))) there
          (λ b a p one. (p, omega arith, back b a p (last_cell b a p one)))
          (offered_both (InColumn v i) (IsThis from to price) rank prices lasts now_prices now_lasts (set now_prices from (min price (get_or now_prices from 0)))
          (set now_lasts to (max position (get_or now_lasts to 0))) w (offered_one rank now_prices now_lasts from position to price inside within here))
        where
          there : (b a p : ℕ) → InColumn v i b a p ⊎ IsThis from to price b a p → InColumn v (i + 1) b a p
          there b a p (inl one) = (one.0, omega (arith, one.1), one.2)
          there b a p (inr (is_from, is_to, is_price)) = (
            i,
            omega arith,
            record {
              from = at_from ∙ sym is_from;
              to = at_to ∙ sym is_to;
              is = at ∙ sym is_price;
              short = omega (arith, is.0, is_price);
              back = omega (arith, is.1, here, ap rank is_from, ap rank is_to);
            },
          )

          back : (b a p : ℕ) → InColumn v i b a p ⊎ IsCellOf positions most starts members table v i b a p → InColumn v i b a p ⊎ IsThis from to price b a p
          back b a p (inl one) = inl one
          back b a p (inr one) = inr (sym one.from ∙ at_from, sym one.to ∙ at_to, sym one.is ∙ at)

  pub columns_none : (prices lasts : List ℕ) → AreOffered (InColumns 0) rank prices lasts prices lasts
  columns_none prices lasts = offered_none (InColumns 0) rank prices lasts (λ b a price is. omega (arith, is.1))

  pub columns_more : (prices lasts now_prices now_lasts new_prices new_lasts : List ℕ) (v : ℕ) → AreOffered (InColumns v) rank prices lasts now_prices now_lasts
      → AreOffered (InColumn v (length starts)) rank now_prices now_lasts new_prices new_lasts
      → AreOffered (InColumns (v + 1)) rank prices lasts new_prices new_lasts
  columns_more prices lasts now_prices now_lasts new_prices new_lasts v w one =
      offered_as (λ b a p. InColumns v b a p ⊎ InColumn v (length starts) b a p) (InColumns (v + 1)) rank prices lasts new_prices new_lasts there
      (λ b a p is. (p, omega arith, back b a p is)) (offered_both (InColumns v) (InColumn v (length starts)) rank prices lasts now_prices now_lasts new_prices new_lasts w one)
    where
      there : (b a p : ℕ) → InColumns v b a p ⊎ InColumn v (length starts) b a p → InColumns (v + 1) b a p
      there b a p (inl is) = (is.0, omega (arith, is.1), is.2)
      there b a p (inr is) = (v, omega arith, is)

      back : (b a p : ℕ) → InColumns (v + 1) b a p → InColumns v b a p ⊎ InColumn v (length starts) b a p
      back b a p (k, less, is) = go (cases_eq k v)
        where
          go : (k ≡ v) ⊎ (k ≢ v) → InColumns v b a p ⊎ InColumn v (length starts) b a p
          go (inl same) = inr (subst (λ (z : ℕ). InColumn z (length starts) b a p) same is)
          go (inr other) = inl (k, omega (arith, less, other), is)

-- ---- the sources of a block
module _ (h : History) (level : Level) (positions : List ℕ) (most : ℕ) (sources targets : List ℕ) (some : All (λ a. 0 < a) targets) (low : most ≤ NONE)
    (longest : ℕ) (longest_is : (walk : List Step) → IsAllowed level walk → length walk + 2 < most → length walk ≤ longest) where
  abbrev j : Judged
  j = judged h level

  abbrev at : ℕ → ℕ
  at v = get_or positions v 0

  abbrev FromFirst : ℕ → ℕ → ℕ → ℕ → Type 0
  FromFirst end b a price = IsFromFirst j positions most sources targets end b a price

  pub from_none : (prices lasts : List ℕ) → AreOffered (FromFirst 0) at prices lasts prices lasts
  from_none prices lasts = offered_none (FromFirst 0) at prices lasts (λ b a price is. omega (arith, is.0.1))

  pub from_all : (prices lasts new_prices new_lasts : List ℕ) (end : ℕ) → length sources ≤ end → AreOffered (FromFirst end) at prices lasts new_prices new_lasts
      → AreOffered (FromFirst (length sources)) at prices lasts new_prices new_lasts
  from_all prices lasts new_prices new_lasts end all w =
      offered_as (FromFirst end) (FromFirst (length sources)) at prices lasts new_prices new_lasts
      (λ b a p is. ((is.0.0, is.0.2, is.0.2, is.0.3), is.1, is.2)) (λ b a p is. (p, omega arith, ((is.0.0, omega (arith, all, is.0.2), is.0.2, is.0.3), is.1, is.2))) w

  module _ (from end : ℕ) (starts table : List ℕ) (tiled : IsTile sources from end starts) (order : from ≤ length sources) (up : from ≤ end)
      (prices_are : ArePrices j targets starts longest table) where
    pub from_more : (prices lasts now_prices now_lasts new_prices new_lasts : List ℕ) → AreOffered (FromFirst from) at prices lasts now_prices now_lasts
        → AreOffered (IsInColumns positions most starts targets table (length targets)) at now_prices now_lasts new_prices new_lasts
        → AreOffered (FromFirst end) at prices lasts new_prices new_lasts
    from_more prices lasts now_prices now_lasts new_prices new_lasts w one =
        offered_as (λ b a p. FromFirst from b a p ⊎ IsInColumns positions most starts targets table (length targets) b a p) (FromFirst end) at prices lasts
        new_prices new_lasts there back
        (offered_both (FromFirst from) (IsInColumns positions most starts targets table (length targets)) at prices lasts now_prices now_lasts new_prices new_lasts
        w one)
      where
        there : (b a p : ℕ) → FromFirst from b a p ⊎ IsInColumns positions most starts targets table (length targets) b a p → FromFirst end b a p
        there b a p (inl is) = ((is.0.0, omega (arith, is.0.1, up), is.0.2, is.0.3), is.1, is.2)
        there b a p (inr (v, inside, (i, less, is))) = (
          (from + i, omega (arith, less, tiled.long), omega (arith, less, tiled.long), sym (tiled.each i less) ∙ is.from),
          (v, inside, get_or_default targets v a 0 inside ∙ is.to),
          closing,
        )
          where
            reason_of : (x : List ℕ) × (c : ℕ) × (walk : List Step) × IsReason j (get_or starts i 0) (get_or targets v 0) x c walk × (length walk + 1 ≤ get_or table (cell v i) 0)
            reason_of = prices_are.sound v i inside less (omega (arith, is.is, is.short, low))

            closing : IsClosing j at most b a p
            closing =
                let (x, c, walk, reason, cheap) = reason_of in
                let short : length walk + 2 < most = omega (arith, cheap, is.is, is.short) in
                let dear : get_or table (cell v i) 0 ≤ length walk + 1 = prices_are.all v i inside less x c walk reason (longest_is walk reason.1.1 short) in
                record {
                  key = x;
                  reader = c;
                  walk = walk;
                  reason = subst (λ (z : ℕ). IsReason j z a x c walk) is.from (subst (λ (z : ℕ). IsReason j (get_or starts i 0) z x c walk) is.to reason);
                  aside = λ none. omega (arith, none, is.to, some v 0 inside);
                  back = is.back;
                  costs = omega (arith, cheap, dear, is.is);
                  short = is.short;
                }

        back : (b a p : ℕ) → FromFirst end b a p → (q : ℕ) × (q ≤ p) × (FromFirst from b a q ⊎ IsInColumns positions most starts targets table (length targets) b a q)
        back b a p ((k, low_k, inside, at_k), listed, is) = go (cases_lt k from)
          where
            go : (k < from) ⊎ (from ≤ k) → (q : ℕ) × (q ≤ p) × (FromFirst from b a q ⊎ IsInColumns positions most starts targets table (length targets) b a q)
            go (inl before) = (p, omega arith, inl ((k, before, inside, at_k), listed, is))
            go (inr later) = (get_or table (cell v i) 0, cheap, inr (v, listed.1, (i, less, cell_is)))
              where
                v : ℕ
                v = listed.0

                i : ℕ
                i = k - from

                less : i < length starts
                less = omega (arith, tiled.long, low_k, inside, later)

                from_is : get_or starts i 0 ≡ b
                from_is = tiled.each i less ∙ (ap (λ z. get_or sources z 0) (omega (arith, later)) ∙ at_k)

                to_is : get_or targets v 0 ≡ a
                to_is = get_or_default targets v 0 a listed.1 ∙ listed.2

                cheap : get_or table (cell v i) 0 ≤ p
                cheap =
                    omega (
                      arith,
                      is.costs,
                      prices_are.all v i listed.1 less is.key is.reader is.walk
                          (subst (λ (z : ℕ). IsReason j z (get_or targets v 0) is.key is.reader is.walk) (sym from_is)
                          (subst (λ (z : ℕ). IsReason j b z is.key is.reader is.walk) (sym to_is) is.reason))
                          (longest_is is.walk is.reason.1.1 (omega (arith, is.costs, is.short))),
                    )

                cell_is : IsCellOf positions most starts targets table v i b a (get_or table (cell v i) 0)
                cell_is = record { from = from_is; to = to_is; is = refl; short = omega (arith, cheap, is.short); back = is.back }

-- a column in which no lane has a price
pub column_blank : (positions : List ℕ) (most : ℕ) (starts members table prices lasts : List ℕ) (v : ℕ) → most ≤ NONE
    → ((i : ℕ) → i < length starts → get_or table (cell v i) 0 ≡ NONE)
    → AreOffered (IsInColumn positions most starts members table v (length starts)) (λ u. get_or positions u 0) prices lasts prices lasts
column_blank positions most starts members table prices lasts v low blank =
    offered_none (IsInColumn positions most starts members table v (length starts)) (λ u. get_or positions u 0) prices lasts
    (λ b a price (i, m, is). omega (arith, is.is, is.short, blank i m, low))
