-- Rows of marks, 64 in a word.
use Rattle.std.proofs.Common.{◌≡◌, ◌≢◌, ◌<◌, ◌≤◌, ◌+◌, ◌*◌, ◌/◌, ◌%◌, ◌^◌, ◌==◌, ◌||◌, ◌↔◌, ◌⊎◌, ℕ, zero, suc, inl, inr, Bool, true}
use Rattle.std.proofs.Common.{false, List, [], ◌∷◌, ◌++◌, length, set, replicate, slice_index, refl, sym, ◌∙◌, ap, arith, eq-eqb}
use Rattle.std.proofs.Common.{eqb-true, w64}
use Rattle.std.specs.Prelude.{bit_and, bit_or, max}
use Rattle.std.specs.Int.{bit_at, bit_not}
use Rattle.std.proofs.lemmas.Bool.{cases_eq, cases_lt, false≢true, ne_eqb}
use Rattle.std.proofs.lemmas.Nat.{and_le_l}
use Rattle.std.proofs.lemmas.Nat.Bits.{bit_at-lt, bit_at_or, bit_at_and, bit_at_not, bit_at-zero}
use Rattle.std.proofs.lemmas.Nat.Bits.{bit_at_set_same, bit_at_set_other, bit_at_clear_same}
use Rattle.std.proofs.lemmas.Nat.Bits.{bit_at_clear_other}
use Rattle.std.proofs.lemmas.List.{get_or-set_same, get_or-set_other, get_or_past}
use Rattle.std.specs.List.{Contains}
use Rattle.std.proofs.lemmas.List.Elements.{Contains-append_left, Contains-push, Contains-push_cases}
use Rattle.tcc_bits.specs.Bits.{is_marked, IsFresh}

-- the bit of a row for a number
abbrev pub bit_of : List ℕ → ℕ → ℕ
bit_of words b = bit_at (slice_index words (b / 64)) (b % 64)

pub marked_is : (words : List ℕ) (b : ℕ) → is_marked words b ≡ (bit_of words b == 1)
unfolding is_marked
marked_is words b = refl

-- a number is marked if its bit is 1
pub marked_from : (words : List ℕ) (b : ℕ) → bit_of words b ≡ 1 → is_marked words b ≡ true
marked_from words b one = marked_is words b ∙ eq-eqb (bit_of words b) 1 one

pub bit_from : (words : List ℕ) (b : ℕ) → is_marked words b ≡ true → bit_of words b ≡ 1
bit_from words b mark = eqb-true (bit_of words b) 1 (sym (marked_is words b) ∙ mark)

pub unmarked_from : (words : List ℕ) (b : ℕ) → bit_of words b ≡ 0 → is_marked words b ≡ false
unmarked_from words b none = marked_is words b ∙ rw none refl

pub zero_from : (words : List ℕ) (b : ℕ) → is_marked words b ≡ false → bit_of words b ≡ 0
zero_from words b no_mark = go (cases_eq (bit_of words b) 1)
  where
    go : (bit_of words b ≡ 1) ⊎ (bit_of words b ≢ 1) → bit_of words b ≡ 0
    go (inl one) = absurd (false≢true (sym no_mark ∙ marked_from words b one))
    go (inr other) = omega (arith, bit_at-lt (slice_index words (b / 64)) (b % 64))

-- past its words a row marks nothing
pub unmarked_past : (words : List ℕ) (b : ℕ) → length words ≤ b / 64 → is_marked words b ≡ false
unmarked_past words b past = unmarked_from words b (rw (get_or_past words (b / 64) 0 past) (bit_at-zero (b % 64)))

either : (x y : ℕ) → x < 2 → y < 2 → (max x y == 1) ≡ ((x == 1) || (y == 1))
either zero zero l m = refl
either zero (suc zero) l m = refl
either (suc zero) zero l m = refl
either (suc zero) (suc zero) l m = refl
either zero (suc (suc y)) l m = absurd (omega arith)
either (suc zero) (suc (suc y)) l m = absurd (omega arith)
either (suc (suc x)) y l m = absurd (omega arith)

-- joined words mark what either marks
pub joined : (old other new : List ℕ) (b : ℕ) → slice_index new (b / 64) ≡ bit_or (slice_index old (b / 64)) (slice_index other (b / 64))
    → is_marked new b ≡ (is_marked old b || is_marked other b)
unfolding is_marked
joined old other new b is =
    ap (λ w. bit_at w (b % 64) == 1) is
    ∙ (ap (λ x. x == 1) (bit_at_or (slice_index old (b / 64)) (slice_index other (b / 64)) (b % 64))
    ∙ either (bit_of old b) (bit_of other b) (bit_at-lt (slice_index old (b / 64)) (b % 64)) (bit_at-lt (slice_index other (b / 64)) (b % 64)))

pub joined_all : (old other new : List ℕ) → length new ≡ length old → length old ≡ length other
    → ((k : ℕ) → k < length old → slice_index new k ≡ bit_or (slice_index old k) (slice_index other k))
    → (b : ℕ) → is_marked new b ≡ (is_marked old b || is_marked other b)
joined_all old other new same long each b = go (cases_lt (b / 64) (length old))
  where
    go : (b / 64 < length old) ⊎ (length old ≤ b / 64) → is_marked new b ≡ (is_marked old b || is_marked other b)
    go (inl inside) = joined old other new b (each (b / 64) inside)
    go (inr past) = rw (unmarked_past new b (omega (arith, same)), unmarked_past old b past, unmarked_past other b (omega (arith, long))) refl

-- one more mark
pub marked_set : (words : List ℕ) (p b : ℕ) → p / 64 < length words
    → is_marked (set words (p / 64) (bit_or (slice_index words (p / 64)) (1 * 2 ^ (p % 64) % 2 ^ 64))) b ≡ (is_marked words b || (b == p))
unfolding is_marked
marked_set words p b inside = go (cases_eq (b / 64) (p / 64)) (cases_eq b p)
  where
    word : ℕ
    word = bit_or (slice_index words (p / 64)) (1 * 2 ^ (p % 64) % 2 ^ 64)

    or_false : (m : Bool) → m ≡ (m || false)
    or_false true = refl
    or_false false = refl

    or_true : (m : Bool) → true ≡ (m || true)
    or_true true = refl
    or_true false = refl

    go : (b / 64 ≡ p / 64) ⊎ (b / 64 ≢ p / 64) → (b ≡ p) ⊎ (b ≢ p)
        → (bit_at (slice_index (set words (p / 64) word) (b / 64)) (b % 64) == 1) ≡ ((bit_of words b == 1) || (b == p))
    go _ (inl same) =
        let one : bit_at (slice_index (set words (p / 64) word) (p / 64)) (p % 64) ≡ 1
        =
        ap (λ w. bit_at w (p % 64)) (get_or-set_same words (p / 64) word 0 inside)
        ∙ bit_at_set_same w64 (slice_index words (p / 64)) (p % 64) (omega arith) in
        rw (same, one, eq-eqb p p refl) (or_true (bit_of words p == 1))
    go (inr far) (inr other) =
        rw (get_or-set_other words (p / 64) (b / 64) word 0 far, ne_eqb b p other) (or_false (bit_of words b == 1))
    go (inl near) (inr other) =
        let bit : b % 64 ≢ p % 64 = λ e. other (omega arith) in
        let kept : bit_at (slice_index (set words (p / 64) word) (b / 64)) (b % 64) ≡ bit_of words b
        =
        rw near (ap (λ w. bit_at w (b % 64)) (get_or-set_same words (p / 64) word 0 inside)
        ∙ bit_at_set_other w64 (slice_index words (p / 64)) (p % 64) (omega arith) (b % 64) bit) in
        rw (kept, ne_eqb b p other) (or_false (bit_of words b == 1))

-- words that are 0 mark nothing
pub none_marked : (n b : ℕ) → is_marked (replicate n 0) b ≡ false
none_marked n b = unmarked_from (replicate n 0) b (rw (zeros n (b / 64)) (bit_at-zero (b % 64)))
  where
    zeros : (n k : ℕ) → slice_index (replicate n 0) k ≡ 0
    zeros zero k = refl
    zeros (suc n) zero = refl
    zeros (suc n) (suc k) = zeros n k

-- what a word marks and another does not
pub fresh_bits : (word known i : ℕ) → known < 2 ^ 64 → i < 64 → (bit_at (bit_and word (bit_not w64 known)) i ≡ 1) ↔ ((bit_at word i ≡ 1) × (bit_at known i ≡ 0))
fresh_bits word known i small within =
    let both = bit_at_and word (bit_not w64 known) i in
    let not = bit_at_not w64 known i small within in
    let a = bit_at-lt word i in
    let b = bit_at-lt known i in
    (λ one. (omega arith, omega arith), λ h. omega (arith, h.0, h.1))

-- clearing a bit that is set makes the word smaller, and leaves the other bits
pub cleared : (word k : ℕ) → k < 64 → bit_at word k ≡ 1
    → let left = bit_and word (bit_not w64 (1 * 2 ^ k % 2 ^ 64)) in
    (left < word) × (bit_at left k ≡ 0) × ((j : ℕ) → j < 64 → (j ≡ k → ⊥) → bit_at left j ≡ bit_at word j)
cleared word k within set_bit =
    let left : ℕ = bit_and word (bit_not w64 (1 * 2 ^ k % 2 ^ 64)) in
    let gone : bit_at left k ≡ 0 = bit_at_clear_same w64 word k within in (
      elim (cases_eq left word) [
        | inl same ↦ absurd (let both : bit_at left k ≡ bit_at word k = ap (λ x. bit_at x k) same in omega arith)
        | inr other ↦ omega (arith, and_le_l word (bit_not w64 (1 * 2 ^ k % 2 ^ 64)))
      ],
      gone,
      λ j small other. bit_at_clear_other w64 word k within j small other,
    )

-- ---- the numbers that a word marks
-- nothing is listed yet
pub push_none : (old : List ℕ) (word first b : ℕ) → Contains old b ↔
    (Contains old b ⊎ ((i : ℕ) × (i < 64) × (bit_at word i ≡ 1) × (bit_at word i ≡ 0) × (b ≡ first + i)))
push_none old word first b = (inl, back)
  where
    back : Contains old b ⊎ ((i : ℕ) × (i < 64) × (bit_at word i ≡ 1) × (bit_at word i ≡ 0) × (b ≡ first + i)) → Contains old b
    back (inl h) = h
    back (inr (i, small, one, none, at)) = absurd (omega (arith, one, none))

pub push_more : (old numbers : List ℕ) (word left first t : ℕ) → (t < 64) → bit_at left t ≡ 1 → ((i : ℕ) → i < 64 → bit_at left i ≤ bit_at word i)
    → ((b : ℕ) → Contains numbers b ↔ (Contains old b ⊎ ((i : ℕ) × (i < 64) × (bit_at word i ≡ 1) × (bit_at left i ≡ 0) × (b ≡ first + i))))
    → let less = bit_and left (bit_not w64 (1 * 2 ^ t % 2 ^ 64)) in
    ((i : ℕ) → i < 64 → bit_at less i ≤ bit_at word i)
    × ((b : ℕ) → Contains (numbers ++ (first + t) ∷ []) b ↔
    (Contains old b ⊎ ((i : ℕ) × (i < 64) × (bit_at word i ≡ 1) × (bit_at less i ≡ 0) × (b ≡ first + i))))
push_more old numbers word left first t inside one within before =
    (λ i small. few i small (cases_eq i t), λ b. (λ h. onward b (Contains-push_cases numbers (first + t) b h), back b))
  where
    less : ℕ
    less = bit_and left (bit_not w64 (1 * 2 ^ t % 2 ^ 64))

    gone : bit_at less t ≡ 0
    gone = (cleared left t inside one).1

    others : (j : ℕ) → j < 64 → (j ≡ t → ⊥) → bit_at less j ≡ bit_at left j
    others = (cleared left t inside one).2

    few : (i : ℕ) → i < 64 → (i ≡ t) ⊎ (i ≢ t) → bit_at less i ≤ bit_at word i
    few i small (inl same) = rw same (omega (arith, gone))
    few i small (inr other) = omega (arith, others i small other, within i small)

    onward : (b : ℕ) → Contains numbers b ⊎ (first + t ≡ b) → Contains old b
        ⊎ ((i : ℕ) × (i < 64) × (bit_at word i ≡ 1) × (bit_at less i ≡ 0) × (b ≡ first + i))
    onward b (inr last) =
        let set_bit : bit_at word t ≡ 1 = omega (arith, within t inside, bit_at-lt word t) in
        inr (t, inside, set_bit, gone, sym last)
    onward b (inl was) = go ((before b).0 was)
      where
        go : Contains old b ⊎ ((i : ℕ) × (i < 64) × (bit_at word i ≡ 1) × (bit_at left i ≡ 0) × (b ≡ first + i))
            → Contains old b ⊎ ((i : ℕ) × (i < 64) × (bit_at word i ≡ 1) × (bit_at less i ≡ 0) × (b ≡ first + i))
        go (inl h) = inl h
        go (inr (i, small, set_bit, none, at)) =
            let far : i ≢ t = λ e. absurd (let same : bit_at left i ≡ bit_at left t = ap (bit_at left) e in omega arith) in
            inr (i, small, set_bit, others i small far ∙ none, at)

    back : (b : ℕ) → Contains old b ⊎ ((i : ℕ) × (i < 64) × (bit_at word i ≡ 1) × (bit_at less i ≡ 0) × (b ≡ first + i))
        → Contains (numbers ++ (first + t) ∷ []) b
    back b (inl h) = Contains-append_left numbers ((first + t) ∷ []) b ((before b).1 (inl h))
    back b (inr (i, small, set_bit, none, at)) = go (cases_eq i t)
      where
        go : (i ≡ t) ⊎ (i ≢ t) → Contains (numbers ++ (first + t) ∷ []) b
        go (inl same) = rw (at, same) (Contains-push numbers (first + t))
        go (inr other) = Contains-append_left numbers ((first + t) ∷ []) b ((before b).1 (inr (i, small, set_bit, sym (others i small other) ∙ none, at)))

-- once a word is 0, all that it marked is listed
pub push_done : (old numbers : List ℕ) (word left first : ℕ) → left ≡ 0
    → ((b : ℕ) → Contains numbers b ↔ (Contains old b ⊎ ((i : ℕ) × (i < 64) × (bit_at word i ≡ 1) × (bit_at left i ≡ 0) × (b ≡ first + i))))
    → (b : ℕ) → Contains numbers b ↔ (Contains old b ⊎ ((i : ℕ) × (i < 64) × (bit_at word i ≡ 1) × (b ≡ first + i)))
push_done old numbers word left first none before b = (λ h. onward ((before b).0 h), λ h. (before b).1 (back h))
  where
    onward : Contains old b ⊎ ((i : ℕ) × (i < 64) × (bit_at word i ≡ 1) × (bit_at left i ≡ 0) × (b ≡ first + i))
        → Contains old b ⊎ ((i : ℕ) × (i < 64) × (bit_at word i ≡ 1) × (b ≡ first + i))
    onward (inl h) = inl h
    onward (inr (i, small, set_bit, gone, at)) = inr (i, small, set_bit, at)

    back : Contains old b ⊎ ((i : ℕ) × (i < 64) × (bit_at word i ≡ 1) × (b ≡ first + i))
        → Contains old b ⊎ ((i : ℕ) × (i < 64) × (bit_at word i ≡ 1) × (bit_at left i ≡ 0) × (b ≡ first + i))
    back (inl h) = inl h
    back (inr (i, small, set_bit, at)) = inr (i, small, set_bit, rw none (bit_at-zero i), at)

-- ---- what is marked and not seen
-- what a row marks is among its words
pub marked_within : (words : List ℕ) (b : ℕ) → is_marked words b ≡ true → b < 64 * length words
marked_within words b mark = go (cases_lt (b / 64) (length words))
  where
    go : (b / 64 < length words) ⊎ (length words ≤ b / 64) → b < 64 * length words
    go (inl inside) = omega arith
    go (inr past) = absurd (false≢true (sym (unmarked_past words b past) ∙ mark))

abbrev pub FreshBelow : List ℕ → List ℕ → List ℕ → ℕ → Type 0
FreshBelow seen marks fresh n = (b : ℕ) → Contains fresh b ↔ ((b < 64 * n) × (is_marked marks b ≡ true) × (is_marked seen b ≡ false))

pub fresh_more : (seen marks fresh new : List ℕ) (n : ℕ) → slice_index seen n < 2 ^ 64 → FreshBelow seen marks fresh n
    → ((b : ℕ) → Contains new b ↔
    (Contains fresh b ⊎ ((i : ℕ) × (i < 64) × (bit_at (bit_and (slice_index marks n) (bit_not w64 (slice_index seen n))) i ≡ 1) × (b ≡ n * 64 + i))))
    → FreshBelow seen marks new (n + 1)
fresh_more seen marks fresh new n small before pushed b = (λ h. onward ((pushed b).0 h), λ h. (pushed b).1 (back h (cases_lt b (64 * n))))
  where
    bits : (i : ℕ) → i < 64 → (bit_at (bit_and (slice_index marks n) (bit_not w64 (slice_index seen n))) i ≡ 1) ↔
        ((bit_at (slice_index marks n) i ≡ 1) × (bit_at (slice_index seen n) i ≡ 0))
    bits i within = fresh_bits (slice_index marks n) (slice_index seen n) i small within

    onward : Contains fresh b ⊎ ((i : ℕ) × (i < 64) × (bit_at (bit_and (slice_index marks n) (bit_not w64 (slice_index seen n))) i ≡ 1) × (b ≡ n * 64 + i))
        → (b < 64 * (n + 1)) × (is_marked marks b ≡ true) × (is_marked seen b ≡ false)
    onward (inl h) = let was = (before b).0 h in (omega (arith, was.0), was.1, was.2)
    onward (inr (i, within, one, at)) =
        let is = (bits i within).0 one in
        let word : b / 64 ≡ n = omega arith in
        let place : b % 64 ≡ i = omega arith in
        (omega arith, marked_from marks b (rw (word, place) is.0), unmarked_from seen b (rw (word, place) is.1))

    back : (b < 64 * (n + 1)) × (is_marked marks b ≡ true) × (is_marked seen b ≡ false) → (b < 64 * n) ⊎ (64 * n ≤ b)
        → Contains fresh b ⊎ ((i : ℕ) × (i < 64) × (bit_at (bit_and (slice_index marks n) (bit_not w64 (slice_index seen n))) i ≡ 1) × (b ≡ n * 64 + i))
    back (below, mark, unseen) (inl low) = inl ((before b).1 (low, mark, unseen))
    back (below, mark, unseen) (inr high) =
        let word : b / 64 ≡ n = omega arith in
        let within : b % 64 < 64 = omega arith in
        let at : b ≡ n * 64 + b % 64 = omega arith in
        let one : bit_at (slice_index marks n) (b % 64) ≡ 1 = ap (λ k. bit_at (slice_index marks k) (b % 64)) (sym word) ∙ bit_from marks b mark in
        let zero_bit : bit_at (slice_index seen n) (b % 64) ≡ 0 = ap (λ k. bit_at (slice_index seen k) (b % 64)) (sym word) ∙ zero_from seen b unseen in
        inr (b % 64, within, (bits (b % 64) within).1 (one, zero_bit), at)

pub fresh_whole : (seen marks fresh : List ℕ) (n : ℕ) → length marks ≤ n → FreshBelow seen marks fresh n → IsFresh seen marks fresh
fresh_whole seen marks fresh n all before b = (
  λ h. let is = (before b).0 h in (is.1, is.2),
  λ h. let below = marked_within marks b h.0 in (before b).1 (omega arith, h.0, h.1),
)
