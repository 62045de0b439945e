-- Words of marks: what is joined, what two have in common, and one more mark.
use Rattle.std.proofs.Common.{◌≡◌, ◌≢◌, ◌<◌, ◌≤◌, ◌+◌, ◌↔◌, ◌⊎◌, inl, inr, ℕ, List, get_or, IsTrue, not, nat_eq, replicate, sym, ap, subst, ◌∙◌, arith, w64, ◌*◌, ◌%◌, ◌^◌}
use Rattle.std.specs.Prelude.{bit_and, bit_or}
use Rattle.std.specs.Int.{bit_at, bit_not, trailing_zeros}
use Rattle.std.proofs.lemmas.Bool.{cases_eq, cases_lt, eq-eqb, false≢true, ne_eqb}
use Rattle.std.proofs.lemmas.List.{get_or-replicate, get_or_past, length-replicate}
use Rattle.std.proofs.lemmas.Nat.{and_le_l}
use Rattle.std.proofs.lemmas.Nat.Bits.{bit_at-lt, bit_at_or, bit_at_and, bit_at_not, bit_at-zero, bit_at_set_same, bit_at_set_other, bit_at-trailing_zeros}
use Rattle.tcc_lanes.specs.declared.words.TheConstants.{LANES}
use Rattle.tcc_lanes.specs.private.Marks.{HasLane, IsAt}

-- a mark is 1, and no mark is 0
bit_cases : (word i : ℕ) → (bit_at word i ≡ 1) ⊎ (bit_at word i ≡ 0)
bit_cases word i = go (cases_eq (bit_at word i) 1)
  where
    go : (bit_at word i ≡ 1) ⊎ (bit_at word i ≢ 1) → (bit_at word i ≡ 1) ⊎ (bit_at word i ≡ 0)
    go (inl one) = inl one
    go (inr other) = inr (omega (arith, bit_at-lt word i))

pub none_has : (i : ℕ) → HasLane 0 i → ⊥
none_has i has = omega (arith, has, bit_at-zero i)

pub either_has : (a b i : ℕ) → HasLane (bit_or a b) i ↔ (HasLane a i ⊎ HasLane b i)
either_has a b i = (there (bit_cases a i) (bit_cases b i), back)
  where
    there : (bit_at a i ≡ 1) ⊎ (bit_at a i ≡ 0) → (bit_at b i ≡ 1) ⊎ (bit_at b i ≡ 0) → HasLane (bit_or a b) i → HasLane a i ⊎ HasLane b i
    there (inl one) q has = inl one
    there (inr none) (inl one) has = inr one
    there (inr none) (inr other) has = absurd (omega (arith, has, bit_at_or a b i, none, other))

    back : HasLane a i ⊎ HasLane b i → HasLane (bit_or a b) i
    back (inl one) = omega (arith, bit_at_or a b i, one, bit_at-lt b i)
    back (inr one) = omega (arith, bit_at_or a b i, one, bit_at-lt a i)

pub both_have : (a b i : ℕ) → HasLane (bit_and a b) i ↔ (HasLane a i × HasLane b i)
both_have a b i = ((λ has. (omega (arith, has, bit_at_and a b i, bit_at-lt a i), omega (arith, has, bit_at_and a b i, bit_at-lt b i))), λ w. omega (arith, bit_at_and a b i, w.0, w.1))

pub lacks : (a b i : ℕ) → b < 2 ^ 64 → i < 64 → HasLane (bit_and a (bit_not w64 b)) i ↔ (HasLane a i × (HasLane b i → ⊥))
lacks a b i small within = (there, λ w. back (bit_cases b i) w)
  where
    there : HasLane (bit_and a (bit_not w64 b)) i → HasLane a i × (HasLane b i → ⊥)
    there has =
        let w = (both_have a (bit_not w64 b) i).0 has in
        (w.0, λ one. omega (arith, w.1, bit_at_not w64 b i small within, one))

    back : (bit_at b i ≡ 1) ⊎ (bit_at b i ≡ 0) → HasLane a i × (HasLane b i → ⊥) → HasLane (bit_and a (bit_not w64 b)) i
    back (inl one) w = absurd (w.1 one)
    back (inr none) w = (both_have a (bit_not w64 b) i).1 (w.0, omega (arith, bit_at_not w64 b i small within, none))

pub one_more : (word lane i : ℕ) → lane < 64 → i < 64 → HasLane (bit_or word (1 * 2 ^ lane % 2 ^ 64)) i ↔ (HasLane word i ⊎ (i ≡ lane))
one_more word lane i inside within = (there (cases_eq i lane), back (cases_eq i lane))
  where
    there : (i ≡ lane) ⊎ (i ≢ lane) → HasLane (bit_or word (1 * 2 ^ lane % 2 ^ 64)) i → HasLane word i ⊎ (i ≡ lane)
    there (inl same) has = inr same
    there (inr other) has = inl (sym (bit_at_set_other w64 word lane inside i other) ∙ has)

    back : (i ≡ lane) ⊎ (i ≢ lane) → HasLane word i ⊎ (i ≡ lane) → HasLane (bit_or word (1 * 2 ^ lane % 2 ^ 64)) i
    back (inl same) w = subst (λ (k : ℕ). HasLane (bit_or word (1 * 2 ^ lane % 2 ^ 64)) k) (sym same) (bit_at_set_same w64 word lane inside)
    back (inr other) (inl has) = bit_at_set_other w64 word lane inside i other ∙ has
    back (inr other) (inr same) = absurd (other same)

-- words without marks
pub zeros_nowhere : (n v i : ℕ) → IsAt (replicate n 0) v i → ⊥
zeros_nowhere n v i at = go (cases_lt v n)
  where
    go : (v < n) ⊎ (n ≤ v) → ⊥
    go (inl l) = none_has i (subst (λ (w : ℕ). HasLane w i) (get_or-replicate {A = ℕ} n v 0 0 l) at)
    go (inr past) = none_has i (subst (λ (w : ℕ). HasLane w i) (get_or_past (replicate n 0) v 0 (omega (arith, length-replicate {A = ℕ} n 0))) at)

-- a word that isn't 0 has a mark
pub some_has : (word : ℕ) → word < 2 ^ 64 → word ≢ 0 → (i : ℕ) × (i < 64) × HasLane word i
some_has word fits other = let w = bit_at-trailing_zeros w64 word (omega arith) fits in (trailing_zeros w64 word, w.0, w.1)

-- two words have a lane in common exactly where what they share isn't 0
pub sharing : (a b : ℕ) → a < 2 ^ 64 → IsTrue (not (nat_eq (bit_and a b) 0)) ↔ ((i : ℕ) × (i < LANES) × HasLane a i × HasLane b i)
sharing a b fits = (there, back)
  where
    fits_both : bit_and a b < 2 ^ 64
    fits_both = omega (arith, fits, and_le_l a b)

    there : IsTrue (not (nat_eq (bit_and a b) 0)) → (i : ℕ) × (i < LANES) × HasLane a i × HasLane b i
    there is =
        let (i, inside, has) = some_has (bit_and a b) fits_both (λ none. false≢true (sym (ap not (eq-eqb (bit_and a b) 0 none)) ∙ is)) in
        let both = (both_have a b i).0 has in (i, inside, both.0, both.1)

    back : (i : ℕ) × (i < LANES) × HasLane a i × HasLane b i → IsTrue (not (nat_eq (bit_and a b) 0))
    back (i, inside, in_a, in_b) =
        ap not (ne_eqb (bit_and a b) 0 (λ none. none_has i (subst (λ (w : ℕ). HasLane w i) none ((both_have a b i).1 (in_a, in_b)))))

-- ---- words joined
-- a word has the lanes that are marked at one of the first of some places
abbrev pub AreJoined : List ℕ → (ℕ → ℕ) → ℕ → ℕ → Type 0
AreJoined marks place end word = (i : ℕ) → i < LANES → HasLane word i ↔ ((n : ℕ) × (n < end) × IsAt marks (place n) i)

pub joined_none : (marks : List ℕ) (place : ℕ → ℕ) → AreJoined marks place 0 0
joined_none marks place = λ i l. ((λ has. absurd (none_has i has)), λ w. absurd (omega (arith, w.1)))

pub joined_more : (marks : List ℕ) (place : ℕ → ℕ) (k word : ℕ) → AreJoined marks place k word
    → AreJoined marks place (k + 1) (bit_or word (get_or marks (place k) 0))
joined_more marks place k word w = λ i l. (there i l, back i l)
  where
    one : ℕ
    one = get_or marks (place k) 0

    there : (i : ℕ) → i < LANES → HasLane (bit_or word one) i → (n : ℕ) × (n < k + 1) × IsAt marks (place n) i
    there i l has = go ((either_has word one i).0 has)
      where
        go : HasLane word i ⊎ HasLane one i → (n : ℕ) × (n < k + 1) × IsAt marks (place n) i
        go (inl old) = let v = (w i l).0 old in (v.0, omega (arith, v.1), v.2)
        go (inr new) = (k, omega arith, new)

    back : (i : ℕ) → i < LANES → (n : ℕ) × (n < k + 1) × IsAt marks (place n) i → HasLane (bit_or word one) i
    back i l (n, less, at) = go (cases_eq n k)
      where
        go : (n ≡ k) ⊎ (n ≢ k) → HasLane (bit_or word one) i
        go (inl same) = (either_has word one i).1 (inr (subst (λ (m : ℕ). IsAt marks (place m) i) same at))
        go (inr other) = (either_has word one i).1 (inl ((w i l).1 (n, omega (arith, less, other), at)))
