-- What the first items of a list lower in a row of weights by ends.
use Rattle.std.proofs.Common.{◌≡◌, ◌<◌, ◌≤◌, ◌+◌, ◌↔◌, ℕ, zero, suc, ◌⊎◌, inl, inr, List}
use Rattle.std.proofs.Common.{[], ◌∷◌, ◌++◌, length, get_or, set, min, replicate, arith, refl, sym, ap}
use Rattle.std.proofs.Common.{subst, ◌∙◌}
use Rattle.std.specs.Prelude.{All}
use Rattle.std.specs.List.{Contains, zip}
use Rattle.std.proofs.lemmas.Bool.{cases_eq}
use Rattle.std.proofs.lemmas.List.{get_or_append_left, get_or_default, get_or_push, get_or-replicate, length_push, length-replicate}
use Rattle.std.proofs.lemmas.List.Elements.{All-push, Contains-append_cases}
use Rattle.std.specs.List.Sorted.{IsPermutation}
use Rattle.std.proofs.lemmas.List.Sorted.{Contains-permutation, IsPermutation-sym}
use Rattle.std.proofs.lemmas.Slice.Zip.{get_or-zip, length-zip}
use Rattle.std.proofs.Math.Nat.{min-zero}
use Rattle.tcc_reads.specs.History.{History, count}
use Rattle.tcc_graph.specs.Relations.{IsCausalPair, IsReadsPair, IsSessionPair}
use Rattle.tcc_graph.specs.Keys.{key_at}
use Rattle.tcc_graph.specs.Readings.{AreReadingsByIndex}
use Rattle.tcc_graph.proofs.WriterLemmas.{key_place}
use Rattle.tcc_check.specs.private.Pairs.{AreOrderly}
use Rattle.tcc_check.specs.private.Weights.{unlinked, AreByWeight, IsLeastRow, IsLowered}
use Rattle.tcc_check.specs.private.WeightsFrom.{AreAllEnds, AreEnds, AreEndsTo, AreLightEnds, ends_of, BetweenWeighs}
use Rattle.tcc_check.specs.private.WeightsFrom.{ContradictsBy, InitContradictsBy, MarkWeighs, ReadWeighs, SourceWeighs}
use Rattle.tcc_check.proofs.Lowering.{lowered_none, lowered_as, lowered_then, lowered_one}

-- ---- two lists, item by item

module _ {A B : Type 0} (ks : List A) (vs : List B) (long : length ks ≡ length vs) where
  pub zip-at : (k : ℕ) (a : A) (b : B) → k < length ks → get_or ks k a ≡ a → get_or vs k b ≡ b → Contains (zip ks vs) (a, b)
  zip-at k a b l one two = (
    k,
    omega (arith, length-zip ks vs, l, long),
    get_or-zip ks vs k (a, b) l (omega (arith, l, long)) ∙ ap (λ z. (z, get_or vs k b)) one
        ∙ ap (λ z. (a, z)) two,
  )

  pub zip-from : (a : A) (b : B) → Contains (zip ks vs) (a, b) → (k : ℕ) × (k < length ks) × (get_or ks k a ≡ a) × (get_or vs k b ≡ b)
  zip-from a b (k, l, e) =
      let inside : k < length ks = omega (arith, length-zip ks vs, l, long) in
      let both : (get_or ks k a, get_or vs k b) ≡ (a, b) = sym (get_or-zip ks vs k (a, b) inside (omega (arith, inside, long))) ∙ e in
      (k, inside, ap (λ (z : A × B). z.0) both, ap (λ (z : A × B). z.1) both)

-- what is known of the items at each index of two lists is known of each item
pub firsts-by : {B : Type 0} (x : B) (P : ℕ → Type 0) (ks : List ℕ) (vs : List B) → length ks ≡ length vs
    → ((k : ℕ) (v : B) → Contains (zip ks vs) (k, v) → P k) → All P ks
firsts-by x P ks vs long each k d l =
    each (get_or ks k d) (get_or vs k x) (zip-at ks vs long k (get_or ks k d) (get_or vs k x) l (get_or_default ks k _ d l)
    (get_or_default vs k _ x (omega (arith, l, long))))

pub seconds-by : (P : ℕ → Type 0) (ks vs : List ℕ) → length ks ≡ length vs → ((k v : ℕ) → Contains (zip ks vs) (k, v) → P v) → All P vs
seconds-by P ks vs long each k d l =
    each (get_or ks k 0) (get_or vs k d) (zip-at ks vs long k (get_or ks k 0) (get_or vs k d) (omega (arith, l, long))
    (get_or_default ks k _ 0 (omega (arith, l, long))) (get_or_default vs k _ d l))

-- ---- who reads from a transaction, whatever key

pub record AreReadersOf (h : History) (a : ℕ) (readers : List ℕ) : Type 0 where
  pub reads : (c : ℕ) → Contains readers c → (x : List ℕ) × IsReadsPair h a c x
  pub listed : (c : ℕ) (x : List ℕ) → IsReadsPair h a c x → Contains readers c

module _ (h : History) (a : ℕ) (readers key_indices : List ℕ) (are : AreReadingsByIndex h a readers key_indices) where
  reads-there : (c : ℕ) → Contains readers c → (x : List ℕ) × IsReadsPair h a c x
  reads-there c (k, l, e) =
      let index = get_or key_indices k 0 in
      let inside : k < length key_indices = omega (arith, l, are.long) in
      (key_at h index, ((are.each c index).0 (zip-at readers key_indices are.long k c index l e (get_or_default key_indices k _ 0 inside))).1)

  listed-there : (c : ℕ) (x : List ℕ) → IsReadsPair h a c x → Contains readers c
  listed-there c x pair =
      let (index, low, is) = key_place h a c x pair in
      let at = zip-from readers key_indices are.long c index ((are.each c index).1 (low, subst (λ (y : List ℕ). IsReadsPair h a c y) (sym is) pair)) in
      (at.0, at.1, at.2)

  pub readers-of : AreReadersOf h a readers
  readers-of = record { reads = reads-there; listed = listed-there }

  pub readers-below : All (λ c. c < count h) readers
  readers-below k d l = (reads-there (get_or readers k d) (k, l, get_or_default readers k _ d l)).1.1

-- ---- one more number

-- what the first ones lower, with one more number
module _ (P Q : ℕ → ℕ → Type 0) (old new : List ℕ) (lowered : IsLowered P old new) where
  pub one-lowered : (a n : ℕ) → a < length new → ((v w : ℕ) → P v w ⊎ ((v ≡ a) × (w ≡ n)) → Q v w) → ((v w : ℕ) → Q v w → P v w ⊎ ((v ≡ a) × (w ≡ n)))
      → IsLowered Q old (set new a (min (get_or new a 0) n))
  one-lowered a n below to back = lowered_as _ _ old _ to back (lowered_then _ _ old new _ lowered (lowered_one new a n below))

-- ---- marks

abbrev pub SeenMark : ℕ → List ℕ → ℕ → ℕ → Type 0
SeenMark i readers v w = (k : ℕ) × (k < i) × (get_or readers k 0 ≡ v) × (w ≡ 0)

module _ (readers old new : List ℕ) where
  pub no-mark : IsLowered (SeenMark 0 readers) old old
  no-mark = lowered_none _ old (λ v w s. absurd (omega (arith, s.1)))

  pub one-mark : (i a : ℕ) → get_or readers i 0 ≡ a → a < length new → IsLowered (SeenMark i readers) old new
      → IsLowered (SeenMark (i + 1) readers) old (set new a 0)
  one-mark i a is below lowered =
      rw (← min-zero (get_or new a 0)) (one-lowered (SeenMark i readers) (SeenMark (i + 1) readers) old new lowered a 0 below to
      (λ v w s. go v w s (cases_eq s.0 i)))
    where
      to : (v w : ℕ) → SeenMark i readers v w ⊎ ((v ≡ a) × (w ≡ 0)) → SeenMark (i + 1) readers v w
      to v w (inl s) = (s.0, omega (arith, s.1), s.2, s.3)
      to v w (inr s) = (i, omega arith, is ∙ sym s.0, s.1)

      go : (v w : ℕ) (s : SeenMark (i + 1) readers v w) → (s.0 ≡ i) ⊎ (s.0 ≡ i → ⊥) → SeenMark i readers v w ⊎ ((v ≡ a) × (w ≡ 0))
      go v w s (inl same) = inr (sym s.2 ∙ ap (λ z. get_or readers z 0) same ∙ is, s.3)
      go v w s (inr apart) = inl (s.0, omega (arith, s.1, apart), s.2, s.3)

  pub all-marks : (i : ℕ) → i ≡ length readers → IsLowered (SeenMark i readers) old new → IsLowered (MarkWeighs readers) old new
  all-marks i all lowered = lowered_as _ _ old new
      (λ v w s. ((s.0, omega (arith, s.1, all), get_or_default readers s.0 v 0 (omega (arith, s.1, all)) ∙ s.2), s.3))
      (λ v w s. (s.0.0, omega (arith, s.0.1, all), get_or_default readers s.0.0 0 v s.0.1 ∙ s.0.2, s.1))
      lowered

-- who reads from u is marked
pub marks-reads : (h : History) (u : ℕ) (readers old new : List ℕ) → AreReadersOf h u readers → IsLowered (MarkWeighs readers) old new
    → IsLowered (ReadWeighs h u) old new
marks-reads h u readers old new are = lowered_as _ _ old new there here
  where
    there : (v w : ℕ) → MarkWeighs readers v w → ReadWeighs h u v w
    there v w (is, none) = let read = are.reads v is in (read.0, read.1, none)

    here : (v w : ℕ) → ReadWeighs h u v w → MarkWeighs readers v w
    here v w (x, reads, none) = (are.listed v x reads, none)

-- ---- marks between two numbers

module _ (first : ℕ) (old new : List ℕ) where
  pub none-between : IsLowered (BetweenWeighs first first) old old
  none-between = lowered_none _ old (λ v w s. absurd (omega (arith, s.0, s.1)))

  pub one-between : (i : ℕ) → first ≤ i → i < length new → IsLowered (BetweenWeighs first i) old new → IsLowered (BetweenWeighs first (i + 1)) old (set new i 0)
  one-between i from below lowered =
      rw (← min-zero (get_or new i 0)) (one-lowered (BetweenWeighs first i) (BetweenWeighs first (i + 1)) old new lowered i 0 below to
      (λ v w s. go v w s (cases_eq v i)))
    where
      to : (v w : ℕ) → BetweenWeighs first i v w ⊎ ((v ≡ i) × (w ≡ 0)) → BetweenWeighs first (i + 1) v w
      to v w (inl s) = (s.0, omega (arith, s.1), s.2)
      to v w (inr s) = (omega (arith, s.0, from), omega (arith, s.0), s.1)

      go : (v w : ℕ) (s : BetweenWeighs first (i + 1) v w) → (v ≡ i) ⊎ (v ≡ i → ⊥) → BetweenWeighs first i v w ⊎ ((v ≡ i) × (w ≡ 0))
      go v w s (inl same) = inr (same, s.2)
      go v w s (inr apart) = inl (s.0, omega (arith, s.1, apart), s.2)

-- marked are reads-from pairs and session pairs, and no others
pub causal-weights : (h : History) (u first end : ℕ) (weights : List ℕ) → length weights ≡ count h
    → ((v : ℕ) → IsSessionPair h u v ↔ ((first ≤ v) × (v < end))) → IsLeastRow (λ v w. ReadWeighs h u v w ⊎ BetweenWeighs first end v w) weights → (c : ℕ)
    → c < count h → (get_or weights c 0 ≡ 0) ↔ IsCausalPair h u c
causal-weights h u first end weights long pairs least c inside =
    (λ none. go none (least.from c below), λ pair. omega (arith, least.low c 0 below (weighs pair)))
  where
    below : c < length weights
    below = omega (arith, inside, long)

    go : get_or weights c 0 ≡ 0 → (get_or weights c 0 ≡ unlinked) ⊎ (ReadWeighs h u c (get_or weights c 0) ⊎ BetweenWeighs first end c (get_or weights c 0))
        → IsCausalPair h u c
    go none (inl heavy) = absurd (omega (arith, none, heavy))
    go none (inr (inl (x, reads, zeroth))) = inr (x, reads)
    go none (inr (inr (low, high, zeroth))) = inl ((pairs c).1 (low, high))

    weighs : IsCausalPair h u c → ReadWeighs h u c 0 ⊎ BetweenWeighs first end c 0
    weighs (inl pair) = inr (let at = (pairs c).0 pair in (at.0, at.1, refl))
    weighs (inr (x, reads)) = inl (x, reads, refl)

-- ---- `init`, which writes every key

abbrev pub SeenReader : ℕ → ℕ → List ℕ → List ℕ → ℕ → ℕ → Type 0
SeenReader i source readers row v w = (v ≡ source) × (k : ℕ) × (k < i) × (w ≡ get_or row (get_or readers k 0) 0)

module _ (source : ℕ) (readers row old new : List ℕ) where
  pub no-reader : IsLowered (SeenReader 0 source readers row) old old
  no-reader = lowered_none _ old (λ v w s. absurd (omega (arith, s.2)))

  pub one-reader : (i n : ℕ) → n ≡ get_or row (get_or readers i 0) 0 → source < length new → IsLowered (SeenReader i source readers row) old new
      → IsLowered (SeenReader (i + 1) source readers row) old (set new source (min (get_or new source 0) n))
  one-reader i n has below lowered =
      one-lowered (SeenReader i source readers row) (SeenReader (i + 1) source readers row) old new lowered source n below to
      (λ v w s. back v w s (cases_eq s.1 i))
    where
      to : (v w : ℕ) → SeenReader i source readers row v w ⊎ ((v ≡ source) × (w ≡ n)) → SeenReader (i + 1) source readers row v w
      to v w (inl s) = (s.0, s.1, omega (arith, s.2), s.3)
      to v w (inr s) = (s.0, i, omega arith, s.1 ∙ has)

      back : (v w : ℕ) (s : SeenReader (i + 1) source readers row v w) → (s.1 ≡ i) ⊎ (s.1 ≡ i → ⊥)
          → SeenReader i source readers row v w ⊎ ((v ≡ source) × (w ≡ n))
      back v w s (inl same) = inr (s.0, s.3 ∙ ap (λ z. get_or row (get_or readers z 0) 0) same ∙ sym has)
      back v w s (inr apart) = inl (s.0, s.1, omega (arith, s.2, apart), s.3)

  pub all-readers : (i : ℕ) → i ≡ length readers → IsLowered (SeenReader i source readers row) old new → IsLowered (SourceWeighs source readers row) old new
  all-readers i all lowered = lowered_as _ _ old new
      (λ v w s. (s.0, get_or readers s.1 0, (s.1, omega (arith, s.2, all), get_or_default readers s.1 _ 0 (omega (arith, s.2, all))), s.3))
      (λ v w s. (s.0, s.2.0, omega (arith, s.2.1, all), s.3 ∙ ap (λ z. get_or row z 0) (sym (get_or_default readers s.2.0 0 s.1 s.2.1 ∙ s.2.2))))
      lowered

abbrev pub SeenSource : ℕ → History → List ℕ → ℕ → ℕ → Type 0
SeenSource i h row v w = (0 < v) × (v < i) × (x : List ℕ) × (c : ℕ) × IsReadsPair h v c x × (w ≡ get_or row c 0)

module _ (h : History) (row old new : List ℕ) where
  pub no-source : IsLowered (SeenSource 1 h row) old old
  no-source = lowered_none _ old (λ v w s. absurd (omega (arith, s.0, s.1)))

  pub one-source : (i : ℕ) (readers newer : List ℕ) → 0 < i → AreReadersOf h i readers → IsLowered (SeenSource i h row) old new
      → IsLowered (SourceWeighs i readers row) new newer → IsLowered (SeenSource (i + 1) h row) old newer
  one-source i readers newer some are before more =
      lowered_as _ _ old newer to (λ v w s. back v w s (cases_eq v i)) (lowered_then _ _ old new newer before more)
    where
      to : (v w : ℕ) → SeenSource i h row v w ⊎ SourceWeighs i readers row v w → SeenSource (i + 1) h row v w
      to v w (inl s) = (s.0, omega (arith, s.1), s.2, s.3, s.4, s.5)
      to v w (inr (same, c, is, has)) =
          let read = are.reads c is in
          (omega (arith, same, some), omega (arith, same), read.0, c, subst (λ (z : ℕ). IsReadsPair h z c read.0) (sym same) read.1, has)

      back : (v w : ℕ) → SeenSource (i + 1) h row v w → (v ≡ i) ⊎ (v ≡ i → ⊥) → SeenSource i h row v w ⊎ SourceWeighs i readers row v w
      back v w (positive, l, x, c, reads, has) (inl same) =
          inr (same, c, are.listed c x (subst (λ (z : ℕ). IsReadsPair h z c x) same reads), has)
      back v w (positive, l, x, c, reads, has) (inr apart) = inl (positive, omega (arith, l, apart), x, c, reads, has)

  pub all-sources : (i : ℕ) → count h ≤ i → IsLowered (SeenSource i h row) old new → IsLowered (InitContradictsBy h row) old new
  all-sources i all lowered =
      lowered_as _ _ old new (λ v w s. (s.0, s.2, s.3, s.4, s.5)) (λ v w s. (s.0, omega (arith, s.3.0, all), s.1, s.2, s.3, s.4)) lowered

  pub init-contradicts : 0 < count h → IsLowered (InitContradictsBy h row) old new → IsLowered (ContradictsBy h row 0) old new
  init-contradicts some lowered = lowered_as _ _ old new to back lowered
    where
      to : (v w : ℕ) → InitContradictsBy h row v w → ContradictsBy h row 0 v w
      to v w (positive, x, c, reads, has) = (x, c, ((λ e. absurd (omega (arith, e, positive))), reads, (some, refl)), has)

      back : (v w : ℕ) → ContradictsBy h row 0 v w → InitContradictsBy h row v w
      back v w (x, c, (apart, reads, writer), has) = (omega (arith, positive (cases_eq 0 v)), x, c, reads, has)
        where
          positive : (0 ≡ v) ⊎ (0 ≡ v → ⊥) → 0 < v
          positive (inl e) = absurd (apart e)
          positive (inr n) = omega (arith, n)

-- ---- light ends

pub record AreLightTo (i : ℕ) (weights : List ℕ) (least : ℕ) (ends : List (ℕ × ℕ)) : Type 0 where
  pub each : (v : ℕ) → v < i → get_or weights v 0 + 1 < least → Contains ends (v, get_or weights v 0)
  pub only : (link : ℕ × ℕ) → Contains ends link → (link.0 < length weights) × (get_or weights link.0 0 ≡ link.1) × (link.1 + 1 < least)

module _ (weights : List ℕ) (least : ℕ) where
  pub no-light : AreLightTo 0 weights least []
  no-light = record { each = λ v l p. absurd (omega (arith, l)); only = λ s w. absurd (omega (arith, w.1)) }

  pub light-skipped : (i : ℕ) (ends : List (ℕ × ℕ)) → (get_or weights i 0 + 1 < least → ⊥) → AreLightTo i weights least ends
      → AreLightTo (i + 1) weights least ends
  light-skipped i ends heavy h = record { each = λ v l p. go v l p (cases_eq v i); only = h.only }
    where
      go : (v : ℕ) → v < i + 1 → get_or weights v 0 + 1 < least → (v ≡ i) ⊎ (v ≡ i → ⊥) → Contains ends (v, get_or weights v 0)
      go v l p (inl same) = absurd (heavy (subst (λ (z : ℕ). get_or weights z 0 + 1 < least) same p))
      go v l p (inr apart) = h.each v (omega (arith, l, apart)) p

  pub light-added : (i : ℕ) (ends : List (ℕ × ℕ)) → i < length weights → get_or weights i 0 + 1 < least → AreLightTo i weights least ends
      → AreLightTo (i + 1) weights least (ends ++ (i, get_or weights i 0) ∷ [])
  light-added i ends below light h =
      record { each = λ v l p. go v l p (cases_eq v i); only = λ s w. only s (Contains-append_cases ends ((i, get_or weights i 0) ∷ []) s w) }
    where
      go : (v : ℕ) → v < i + 1 → get_or weights v 0 + 1 < least → (v ≡ i) ⊎ (v ≡ i → ⊥)
          → Contains (ends ++ (i, get_or weights i 0) ∷ []) (v, get_or weights v 0)
      go v l p (inl same) =
          rw same (
            length ends,
            omega (arith, length_push ends (i, get_or weights i 0)),
            get_or_push ends (i, get_or weights i 0) (i, get_or weights i 0) (length ends) refl,
          )
      go v l p (inr apart) =
          let w = h.each v (omega (arith, l, apart)) p in (
            w.0,
            omega (arith, w.1, length_push ends (i, get_or weights i 0)),
            get_or_append_left ends ((i, get_or weights i 0) ∷ []) (v, get_or weights v 0) w.0 w.1 ∙ w.2,
          )

      only : (s : ℕ × ℕ) → Contains ends s ⊎ Contains ((i, get_or weights i 0) ∷ []) s
          → (s.0 < length weights) × (get_or weights s.0 0 ≡ s.1) × (s.1 + 1 < least)
      only s (inl w) = h.only s w
      only s (inr (zero, l, e)) = rw (← e) (below, refl, light)
      only s (inr (suc k, l, e)) = absurd (omega (arith, l))

  pub all-light : (i : ℕ) (ends sorted : List (ℕ × ℕ)) → length weights ≤ i → IsPermutation ends sorted → AreByWeight sorted
      → AreLightTo i weights least ends → AreLightEnds weights least sorted
  all-light i ends sorted all same by h = record {
    each = λ v l p. Contains-permutation ends sorted (v, get_or weights v 0) same (h.each v (omega (arith, l, all)) p);
    only = λ s w. h.only s (Contains-permutation sorted ends s (IsPermutation-sym ends sorted same) w);
    sorted = by;
  }

  -- of the least weights the light ones are the links that cost less
  pub ends-light : (n : ℕ) (weighs : ℕ → ℕ → Type 0) (ends : List (ℕ × ℕ)) → length weights ≡ n → least < 4294967296 → IsLeastRow weighs weights
      → AreLightEnds weights least ends → AreEnds weighs n least ends
  ends-light n weighs ends long fits row light = record {
    each = λ v w below p less. let low =
        row.low v w (omega (arith, below, long)) p in (get_or weights v 0, low, light.each v (omega (arith, below, long)) (omega (arith, low, less)));
    only = λ link w. only link (light.only link w);
    sorted = light.sorted;
  }
    where
      only : (link : ℕ × ℕ) → (link.0 < length weights) × (get_or weights link.0 0 ≡ link.1) × (link.1 + 1 < least) → (link.0 < n) × weighs link.0 link.1
      only link (inside, is, less) = (omega (arith, inside, long), go (row.from link.0 inside))
        where
          go : (get_or weights link.0 0 ≡ unlinked) ⊎ weighs link.0 (get_or weights link.0 0) → weighs link.0 link.1
          go (inl none) = absurd (omega (arith, none, is, less, fits))
          go (inr p) = subst (λ (z : ℕ). weighs link.0 z) is p

pub light-inside : (weights : List ℕ) (least m : ℕ) (ends : List (ℕ × ℕ)) → length weights ≤ m → AreLightEnds weights least ends
    → All (λ (link : ℕ × ℕ). link.0 < m) ends
light-inside weights least m ends few are k d l = let w = are.only (get_or ends k d) (k, l, get_or_default ends k _ d l) in omega (arith, w.0, few)

-- a row where nothing is linked, lowered
pub bare-lowered : (n : ℕ) (weighs : ℕ → ℕ → Type 0) (bare row : List ℕ) → bare ≡ replicate n unlinked → IsLowered weighs bare row
    → (length row ≡ n) × IsLeastRow weighs row
bare-lowered n weighs bare row is lowered = (
  long,
  record { low = λ u w l p. lowered.low u w (omega (arith, l, lowered.long)) p; from = λ u l. go u l (lowered.from u (omega (arith, l, lowered.long))) },
)
  where
    long : length row ≡ n
    long = lowered.long ∙ ap length is ∙ length-replicate n unlinked

    go : (u : ℕ) → u < length row → (get_or row u 0 ≡ get_or bare u 0) ⊎ weighs u (get_or row u 0) → (get_or row u 0 ≡ unlinked) ⊎ weighs u (get_or row u 0)
    go u l (inl same) = inl (same ∙ ap (λ r. get_or r u 0) is ∙ get_or-replicate n u unlinked 0 (omega (arith, l, long)))
    go u l (inr p) = inr p

-- ---- rows of ends

pub no-ends : (weighs : ℕ → ℕ → ℕ → Type 0) (n least : ℕ) → AreEndsTo 0 weighs n least []
no-ends weighs n least = record { long = refl; rows = λ u l. absurd (omega (arith, l)) }

pub more-ends : (i : ℕ) (weighs : ℕ → ℕ → ℕ → Type 0) (n least : ℕ) (ends : List (List (ℕ × ℕ))) (more : List (ℕ × ℕ)) → AreEnds (weighs i) n least more
    → AreEndsTo i weighs n least ends → AreEndsTo (i + 1) weighs n least (ends ++ more ∷ [])
more-ends i weighs n least ends more are h = record {
  long = length_push ends more ∙ ap (λ k. k + 1) h.long;
  rows = λ u l. rows u l (cases_eq u i);
}
  where
    rows : (u : ℕ) → u < i + 1 → (u ≡ i) ⊎ (u ≡ i → ⊥) → AreEnds (weighs u) n least (ends_of (ends ++ more ∷ []) u)
    rows u l (inl same) = rw (get_or_push ends more [] u (h.long ∙ sym same)) (subst (λ (z : ℕ). AreEnds (weighs z) n least more) (sym same) are)
    rows u l (inr apart) = let inside : u < length ends =
        omega (arith, l, apart, h.long) in rw (get_or_append_left ends (more ∷ []) [] u inside) (h.rows u (omega (arith, l, apart)))

pub ends-inside : (n least : ℕ) (weighs : ℕ → ℕ → Type 0) (ends : List (ℕ × ℕ)) → AreEnds weighs n least ends → All (λ link. link.0 < n) ends
ends-inside n least weighs ends are k d l = (are.only (get_or ends k d) (k, l, get_or_default ends k _ d l)).0

-- all ends are below n, and the lighter come first
pub orderly-more : (n least : ℕ) (weighs : ℕ → ℕ → Type 0) (ends : List (List (ℕ × ℕ))) (more : List (ℕ × ℕ)) → AreEnds weighs n least more
    → AreOrderly n ends → AreOrderly n (ends ++ more ∷ [])
orderly-more n least weighs ends more are old = record {
  inside =
      All-push (λ links. All (λ link. link.0 < n) links) ends more old.inside (λ k d l. (are.only (get_or more k d) (k, l, get_or_default more k _ d l)).0);
  sorted = All-push (λ links. AreByWeight links) ends more old.sorted are.sorted;
}

pub orderly-none : (n : ℕ) → AreOrderly n []
orderly-none n = record { inside = λ k d l. absurd (omega (arith, l)); sorted = λ k d l. absurd (omega (arith, l)) }

pub orderly-all : (n least : ℕ) (weighs : ℕ → ℕ → ℕ → Type 0) (ends : List (List (ℕ × ℕ))) → AreAllEnds weighs n least ends → AreOrderly n ends
orderly-all n least weighs ends are = record {
  inside =
      λ k d l. rw (get_or_default ends k d [] l)
      (λ j e m. ((are.rows k (omega (arith, l, are.long))).only (get_or (ends_of ends k) j e) (j, m, get_or_default (ends_of ends k) j _ e m)).0);
  sorted = λ k d l. rw (get_or_default ends k d [] l) (are.rows k (omega (arith, l, are.long))).sorted;
}
