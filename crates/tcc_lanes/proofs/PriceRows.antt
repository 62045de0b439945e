-- Rows of prices.
use Rattle.std.proofs.Common.{◌≡◌, ◌≢◌, ◌<◌, ◌≤◌, ◌+◌, ◌-◌, ◌↔◌, ◌⊎◌, inl, inr, ℕ, Bool, true, false, if◌then◌else◌, List, [], ◌∷◌, ◌++◌, length, get_or, refl, sym, ap, subst, ◌∙◌, arith}
use Rattle.std.proofs.lemmas.Bool.{cases_Bool, cases_eq, cases_lt, false≢true}
use Rattle.std.proofs.lemmas.List.{get_or_append_left, get_or_push, length_push}
use Rattle.std.specs.List.{All}
use Rattle.tcc_reads.specs.History.{History, count}
use Rattle.tcc_graph.specs.Levels.{Judged, IsAllowed, judged}
use Rattle.tcc_graph.specs.Links.{IsLink, IsReason, link_cost, link_from, link_to}
use Rattle.tcc_graph.specs.Relations.{IsCausalPair, causal_pair}
use Rattle.tcc_graph.specs.declared.level.Level.{Level}
use Rattle.tcc_graph.specs.declared.link.Link.{Link}
use Rattle.tcc_graph.specs.declared.link.Link.TheVariants as link
use Rattle.tcc_graph.specs.declared.step.Step.{Step}
use Rattle.tcc_graph.proofs.Linking.{derived_cost, pair_link, some_cost}
use Rattle.tcc_graph.proofs.Pairs.{pair_below, pair_kinds, pair_from_kinds}
use Rattle.tcc_lanes.specs.declared.pricing.TheConstants.{NONE}
use Rattle.tcc_lanes.specs.declared.words.TheConstants.{LANES}
use Rattle.tcc_lanes.specs.private.Pricing.{ArePriceRows, ArePrices, AreRowsOn, IsPriceRow, IsRowOf, cell}
use Rattle.tcc_lanes.specs.private.Marks.{AreMarksOf, IsLedTo}
use Rattle.tcc_lanes.specs.private.Tiles.{IsTile}

module _ (h : History) (level : Level) (members starts table : List ℕ) (longest most : ℕ) (prices : ArePrices (judged h level) members starts longest table)
    (far : (walk : List Step) → IsAllowed level walk → length walk + 1 < most → length walk ≤ longest) where
  abbrev j : Judged
  j = judged h level

  module _ (i : ℕ) (m : i < length starts) (row : List ℕ) (w : IsRowOf h members table i (get_or starts i 0) row) where
    abbrev from : ℕ
    from = get_or starts i 0

    pair : (v : ℕ) → v < length members → causal_pair h from (get_or members v 0) ≡ true → get_or row v 0 ≡ 1
    pair v l is = w.each v l ∙ ap (λ (b : Bool). if b then 1 else get_or table (cell v i) 0) is

    derived : (v : ℕ) → v < length members → causal_pair h from (get_or members v 0) ≡ false → get_or row v 0 ≡ get_or table (cell v i) 0
    derived v l is = w.each v l ∙ ap (λ (b : Bool). if b then 1 else get_or table (cell v i) 0) is

    some : (v : ℕ) → v < length members → 1 ≤ get_or row v 0
    some v l = go (cases_Bool (causal_pair h from (get_or members v 0))) (cases_lt (get_or table (cell v i) 0) NONE)
      where
        go : (causal_pair h from (get_or members v 0) ≡ true) ⊎ (causal_pair h from (get_or members v 0) ≡ false)
            → (get_or table (cell v i) 0 < NONE) ⊎ (NONE ≤ get_or table (cell v i) 0) → 1 ≤ get_or row v 0
        go (inl is) q = omega (arith, pair v l is)
        go (inr is) (inr high) = omega (arith, derived v l is, high)
        go (inr is) (inl low) = let (x, c, walk, reason, cheap) = prices.sound v i l m low in omega (arith, derived v l is, cheap)

    high : (v : ℕ) → v < length members → get_or row v 0 ≤ NONE
    high v l = go (cases_Bool (causal_pair h from (get_or members v 0)))
      where
        go : (causal_pair h from (get_or members v 0) ≡ true) ⊎ (causal_pair h from (get_or members v 0) ≡ false) → get_or row v 0 ≤ NONE
        go (inl is) = omega (arith, pair v l is)
        go (inr is) = omega (arith, derived v l is, prices.high v i l m)

    sound : (v : ℕ) → v < length members → get_or row v 0 < NONE
        → (l : Link) × (link_from l ≡ from) × (link_to l ≡ get_or members v 0) × IsLink j l × (link_cost l ≤ get_or row v 0)
    sound v l low = go (cases_Bool (causal_pair h from (get_or members v 0)))
      where
        go : (causal_pair h from (get_or members v 0) ≡ true) ⊎ (causal_pair h from (get_or members v 0) ≡ false)
            → (l : Link) × (link_from l ≡ from) × (link_to l ≡ get_or members v 0) × IsLink j l × (link_cost l ≤ get_or row v 0)
        go (inl is) =
            let (one, start, end, right, costs) = pair_link j from (get_or members v 0) (pair_kinds h from (get_or members v 0) is) in
            (one, start, end, right, omega (arith, costs, pair v l is))
        go (inr is) =
            let (x, c, walk, reason, cheap) = prices.sound v i l m (omega (arith, low, derived v l is)) in
            (link.Derived from (get_or members v 0) x c walk, refl, refl, reason, omega (arith, derived_cost from (get_or members v 0) x c walk, cheap, derived v l is))

    all : (v : ℕ) → v < length members → (l : Link) → link_from l ≡ from → link_to l ≡ get_or members v 0 → IsLink j l → link_cost l < most
        → get_or row v 0 ≤ link_cost l
    all v inside l start end is cheap = go (cases_Bool (causal_pair h from (get_or members v 0)))
      where
        of_kind : (l : Link) → link_from l ≡ from → link_to l ≡ get_or members v 0 → IsLink j l → link_cost l < most
            → causal_pair h from (get_or members v 0) ≡ false → get_or row v 0 ≤ link_cost l
        of_kind (link.Session a b) start end is cheap none = absurd (false≢true (sym none ∙ pair_from_kinds h from (get_or members v 0) (inl (by start end is))))
          where
            by : a ≡ from → b ≡ get_or members v 0 → IsLink j (link.Session a b) → IsLink j (link.Session from (get_or members v 0))
            by first second one = subst (λ (z : ℕ). IsLink j (link.Session from z)) second (subst (λ (z : ℕ). IsLink j (link.Session z b)) first one)
        of_kind (link.Reads a b x) start end is cheap none =
            absurd (false≢true (sym none ∙ pair_from_kinds h from (get_or members v 0) (inr (x, by start end is))))
          where
            by : a ≡ from → b ≡ get_or members v 0 → IsLink j (link.Reads a b x) → IsLink j (link.Reads from (get_or members v 0) x)
            by first second one = subst (λ (z : ℕ). IsLink j (link.Reads from z x)) second (subst (λ (z : ℕ). IsLink j (link.Reads z b x)) first one)
        of_kind (link.Derived b a x c walk) start end is cheap none =
            omega (arith, derived v inside none, derived_cost b a x c walk, prices.all v i inside m x c walk (by start end is) (far walk is.1.1 (omega (arith, cheap, derived_cost b a x c walk))))
          where
            by : b ≡ from → a ≡ get_or members v 0 → IsReason j b a x c walk → IsReason j from (get_or members v 0) x c walk
            by first second one = subst (λ (z : ℕ). IsReason j from z x c walk) second (subst (λ (z : ℕ). IsReason j z a x c walk) first one)

        go : (causal_pair h from (get_or members v 0) ≡ true) ⊎ (causal_pair h from (get_or members v 0) ≡ false) → get_or row v 0 ≤ link_cost l
        go (inl pair_is) = omega (arith, pair v inside pair_is, some_cost l)
        go (inr none) = of_kind l start end is cheap none

    pub row_of : IsPriceRow j members most from row
    row_of = record { long = w.long; some = some; high = high; sound = sound; all = all }

  -- ---- one more tile of rows
  pub rows_more : (first last : ℕ) → IsTile members first last starts → first ≤ length members → first ≤ last → (old new : List (List ℕ)) → ArePriceRows j members most first old
      → AreRowsOn h members table starts (length starts) old new → ArePriceRows j members most last new
  rows_more first last tiled within order old new w on = record {
    long = omega (arith, on.long, w.long, tiled.long, within, order);
    each = λ u less inside. each u less inside (cases_lt u first);
  }
    where
      each : (u : ℕ) → u < last → u < length members → (u < first) ⊎ (first ≤ u) → IsPriceRow j members most (get_or members u 0) (get_or new u [])
      each u less inside (inl early) =
          subst (λ (row : List ℕ). IsPriceRow j members most (get_or members u 0) row) (sym (on.kept u (omega (arith, early, inside, w.long)))) (w.each u early inside)
      each u less inside (inr late) =
          subst (λ (row : List ℕ). IsPriceRow j members most (get_or members u 0) row) (ap (λ (k : ℕ). get_or new k []) back)
          (subst (λ (s : ℕ). IsPriceRow j members most s (get_or new (length old + (u - first)) [])) (tiled.each (u - first) m ∙ ap (λ (k : ℕ). get_or members k 0) there) (row_of (u - first) m (get_or new (length old + (u - first)) []) (on.each (u - first) m)))
        where
          m : u - first < length starts
          m = omega (arith, tiled.long, less, inside, late)

          there : first + (u - first) ≡ u
          there = omega (arith, late)

          back : length old + (u - first) ≡ u
          back = omega (arith, w.long, late, within)

-- ---- rows of a tile
module _ (h : History) (members table starts : List ℕ) (old : List (List ℕ)) where
  pub rows_none : AreRowsOn h members table starts 0 old old
  rows_none = record { long = omega arith; kept = λ k l. refl; each = λ i l. absurd (omega (arith, l)) }

  pub one_row_more : (n : ℕ) (mid : List (List ℕ)) (row : List ℕ) → AreRowsOn h members table starts n old mid → IsRowOf h members table n (get_or starts n 0) row
      → AreRowsOn h members table starts (n + 1) old (mid ++ row ∷ [])
  one_row_more n mid row w is = record {
    long = omega (arith, length_push mid row, w.long);
    kept = λ k l. get_or_append_left mid (row ∷ []) [] k (omega (arith, l, w.long)) ∙ w.kept k l;
    each = λ i l. each i l (cases_eq i n);
  }
    where
      each : (i : ℕ) → i < n + 1 → (i ≡ n) ⊎ (i ≢ n) → IsRowOf h members table i (get_or starts i 0) (get_or (mid ++ row ∷ []) (length old + i) [])
      each i l (inl same) =
          subst (λ (k : ℕ). IsRowOf h members table k (get_or starts k 0) (get_or (mid ++ row ∷ []) (length old + k) [])) (sym same)
          (subst (λ (r : List ℕ). IsRowOf h members table n (get_or starts n 0) r) (sym (get_or_push mid row [] (length old + n) w.long)) is)
      each i l (inr other) =
          let less : i < n = omega (arith, l, other) in
          subst (λ (r : List ℕ). IsRowOf h members table i (get_or starts i 0) r) (sym (get_or_append_left mid (row ∷ []) [] (length old + i) (omega (arith, less, w.long))))
          (w.each i less)

-- ---- one more price
pub one_price_more : (price : ℕ → ℕ) (row : List ℕ) (k new : ℕ) → length row ≡ k → ((v : ℕ) → v < k → get_or row v 0 ≡ price v) → new ≡ price k
    → (v : ℕ) → v < k + 1 → get_or (row ++ new ∷ []) v 0 ≡ price v
one_price_more price row k new long w is v l = go (cases_eq v k)
  where
    go : (v ≡ k) ⊎ (v ≢ k) → get_or (row ++ new ∷ []) v 0 ≡ price v
    go (inl same) = get_or_push row new 0 v (long ∙ sym same) ∙ (is ∙ ap price (sym same))
    go (inr other) = get_or_append_left row (new ∷ []) 0 v (omega (arith, l, other, long)) ∙ w v (omega (arith, l, other))

-- ---- pairs from some starts
pub pairs_told : (h : History) (starts begun : List ℕ) → All (λ u. u < count h) starts → length starts ≤ LANES → AreMarksOf (count h) starts (length starts) begun
    → (v i : ℕ) → i < length starts → IsLedTo h begun v i ↔ (causal_pair h (get_or starts i 0) v ≡ true)
pairs_told h starts begun inside lanes marks v i m = (
  (λ (u, pair, at).
      pair_from_kinds h (get_or starts i 0) v
      (subst (λ (z : ℕ). IsCausalPair h z v) (sym ((marks.each u i (pair_below h u v pair).0 (omega (arith, m, lanes))).0 at).1) pair)),
  (λ is. (
    get_or starts i 0,
    pair_kinds h (get_or starts i 0) v is,
    (marks.each (get_or starts i 0) i (inside i 0 m) (omega (arith, m, lanes))).1 (m, refl),
  )),
)
