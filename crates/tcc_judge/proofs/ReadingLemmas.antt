-- The readings that a graph lists, by the places of their keys, and what is meant by them.
use Rattle.std.proofs.Common.{◌≡◌, ◌≢◌, ◌<◌, ◌+◌, ◌⊎◌, inl, inr, ℕ, List, length, get_or, sym, ap, subst, ◌∙◌, arith}
use Rattle.std.specs.Prelude.{min, zip}
use Rattle.std.specs.List.{Contains}
use Rattle.std.proofs.lemmas.Bool.{cases_eq}
use Rattle.std.proofs.lemmas.List.{get_or_default}
use Rattle.tcc_reads.specs.History.{History, count}
use Rattle.tcc_graph.specs.Relations.{IsReadsPair}
use Rattle.tcc_graph.specs.Readings.{AreReadingsByIndex}
use Rattle.tcc_graph.specs.Keys.{keys, key_at}
use Rattle.tcc_graph.proofs.WriterLemmas.{key_place}
use Rattle.tcc_judge.specs.declared.least.TheConstants.{NONE}
use Rattle.tcc_judge.specs.private.Least.{IsLeastOf}
use Rattle.tcc_judge.specs.private.Readings.{IsByFirst, IsByReading}
use Rattle.tcc_judge.proofs.LeastLemmas.{least_both, least_none, least_same}
use Rattle.tcc_bits.proofs.Lists.{zip_at, zip_has, zip-long}

module _ (h : History) (a : ℕ) (readers key_indices : List ℕ) (are : AreReadingsByIndex h a readers key_indices) where
  -- the reading at a place
  pub record IsReadingAt (i : ℕ) : Type 0 where
    pub key : get_or key_indices i 0 < length (keys h)
    pub pair : IsReadsPair h a (get_or readers i 0) (key_at h (get_or key_indices i 0))

  pub reading_at : (i : ℕ) → i < length readers → IsReadingAt i
  reading_at i l = let w = (are.each (get_or readers i 0) (get_or key_indices i 0)).0 (zip_has readers key_indices i 0 are.long l) in record { key = w.0; pair = w.1 }

  pub reader_below : (i : ℕ) → i < length readers → get_or readers i 0 < count h
  reader_below i l = (reading_at i l).pair.1

  -- and each reading has its place
  pub reading_place : (c : ℕ) (x : List ℕ) → IsReadsPair h a c x
      → (i : ℕ) × (i < length readers) × (get_or readers i 0 ≡ c) × (key_at h (get_or key_indices i 0) ≡ x)
  reading_place c x pair = go (key_place h a c x pair)
    where
      by : (k : ℕ) → key_at h k ≡ x → Contains (zip readers key_indices) (c, k)
          → (i : ℕ) × (i < length readers) × (get_or readers i 0 ≡ c) × (key_at h (get_or key_indices i 0) ≡ x)
      by k is (i, l, e) =
          let inside : i < length readers = omega (arith, l, zip-long readers key_indices are.long) in
          let at = zip_at readers key_indices i 0 0 are.long inside in
          let both = sym at ∙ (get_or_default (zip readers key_indices) i (0, 0) (c, k) l ∙ e) in
          (i, inside, ap (λ p. p.0) both, ap (λ (p : ℕ × ℕ). key_at h p.1) both ∙ is)

      go : (k : ℕ) × (k < length (keys h)) × (key_at h k ≡ x)
          → (i : ℕ) × (i < length readers) × (get_or readers i 0 ≡ c) × (key_at h (get_or key_indices i 0) ≡ x)
      go (k, l, is) = by k is ((are.each c k).1 (l, subst (λ (y : List ℕ). IsReadsPair h a c y) (sym is) pair))

  -- and is found by the index of its key
  pub reading_index : (c k : ℕ) → k < length (keys h) → IsReadsPair h a c (key_at h k)
      → (i : ℕ) × (i < length readers) × (get_or readers i 0 ≡ c) × (get_or key_indices i 0 ≡ k)
  reading_index c k low pair = go ((are.each c k).1 (low, pair))
    where
      go : Contains (zip readers key_indices) (c, k) → (i : ℕ) × (i < length readers) × (get_or readers i 0 ≡ c) × (get_or key_indices i 0 ≡ k)
      go (i, l, e) =
          let inside : i < length readers = omega (arith, l, zip-long readers key_indices are.long) in
          let at = zip_at readers key_indices i 0 0 are.long inside in
          let both = sym at ∙ (get_or_default (zip readers key_indices) i (0, 0) (c, k) l ∙ e) in
          (i, inside, ap (λ (p : ℕ × ℕ). p.0) both, ap (λ (p : ℕ × ℕ). p.1) both)

-- ---- what is meant by readings, one after another
module _ (h : History) (a : ℕ) (readers key_indices : List ℕ) (Is : List ℕ → ℕ → ℕ → Type 0) where
  abbrev pub By : ℕ → ℕ → Type 0
  By i n = Is (key_at h (get_or key_indices i 0)) (get_or readers i 0) n

  abbrev pub In : ℕ → ℕ → Type 0
  In i n = IsByFirst h readers key_indices Is i n

  pub one_more : (i n : ℕ) → By i n ⊎ In i n → In (i + 1) n
  one_more i n (inl is) = record { index = i; first = omega arith; behind = is }
  one_more i n (inr is) = record { index = is.index; first = omega (arith, is.first); behind = is.behind }

  pub one_or_before : (i n : ℕ) → In (i + 1) n → By i n ⊎ In i n
  one_or_before i n is = go (cases_eq is.index i)
    where
      go : (is.index ≡ i) ⊎ (is.index ≢ i) → By i n ⊎ In i n
      go (inl same) = inl (subst (λ (j : ℕ). By j n) same is.behind)
      go (inr other) = inr record { index = is.index; first = omega (arith, is.first); behind = is.behind }

  module _ (are : AreReadingsByIndex h a readers key_indices) (i : ℕ) (all : i ≡ length readers) where
    pub by_reading : (n : ℕ) → In i n → IsByReading h a Is n
    by_reading n is = record {
      reader = get_or readers is.index 0;
      key = key_at h (get_or key_indices is.index 0);
      pair = (reading_at h a readers key_indices are is.index (omega (arith, is.first, all))).pair;
      behind = is.behind;
    }

    pub reading_by : (n : ℕ) → IsByReading h a Is n → In i n
    reading_by n is = go (reading_place h a readers key_indices are is.reader is.key is.pair)
      where
        go : (j : ℕ) × (j < length readers) × (get_or readers j 0 ≡ is.reader) × (key_at h (get_or key_indices j 0) ≡ is.key) → In i n
        go (j, l, e, f) = record {
          index = j;
          first = omega (arith, l, all);
          behind = subst (λ (c : ℕ). Is (key_at h (get_or key_indices j 0)) c n) (sym e)
              (subst (λ (y : List ℕ). Is y is.reader n) (sym f) is.behind);
        }

  -- ---- the least of what is meant
  pub least_begun : IsLeastOf (In 0) NONE
  least_begun = least_none (In 0) (λ n is. omega (arith, is.first))

  pub least_next : (i one least : ℕ) → IsLeastOf (By i) one → IsLeastOf (In i) least → IsLeastOf (In (i + 1)) (min one least)
  least_next i one least v w =
      least_same (λ n. By i n ⊎ In i n) (In (i + 1)) (min one least) (one_more i) (one_or_before i) (least_both (By i) (In i) one least v w)

  pub least_of_all : AreReadingsByIndex h a readers key_indices → (i least : ℕ) → i ≡ length readers → IsLeastOf (In i) least
      → IsLeastOf (IsByReading h a Is) least
  least_of_all are i least all w = least_same (In i) (IsByReading h a Is) least (by_reading are i all) (reading_by are i all) w
