-- The order of names is that of their padded bytes, eight by eight, read as numbers.
use Rattle.std.proofs.Common.{◌≡◌, ℕ, zero, suc, ◌+◌, ◌-◌, ◌*◌, ◌≤◌, ◌<◌, true, List, [], ◌∷◌, ◌++◌, length}
use Rattle.std.proofs.Common.{take, drop, get_or, refl, sym, ap, subst, ◌∙◌, arith, None, Ordering, Less, Equal}
use Rattle.std.proofs.Common.{Greater}
use Rattle.std.proofs.lemmas.Bool.Decides.{nat_tests}
use Rattle.std.proofs.lemmas.List.{get_or-drop, drop-drop, drop_all, length-take, length-drop, take_all}
use Rattle.std.proofs.lemmas.List.Sums.{prefix_len_passes}
use Rattle.std.specs.Prelude.{replicate, not}
use Rattle.std.specs.List.{prefix_len}
use Rattle.tcc_txn.specs.Names.{name_fault, is_name_byte}
use Rattle.tcc_txn.specs.private.Stored.{IsStored, few_bytes}
use Rattle.tcc_txn.specs.declared.limits.TheConstants.{MAX_NAME_BYTES}
use Rattle.std.proofs.Math.Seq.{drop-cons}
use Rattle.std.specs.Ordering.{nat_cmp, ordering_then, MatchOrdering}
use Rattle.std.specs.Cmp.Lexicographic.{slice_cmp}
use Rattle.std.specs.Cmp.{nat_cmp_is}
use Rattle.std.proofs.lemmas.Cmp.{ranked}
use Rattle.std.specs.Int.{w64, from_be_bytes}

then_assoc : (a b c : Ordering) → ordering_then a (ordering_then b c) ≡ ordering_then (ordering_then a b) c
then_assoc Less b c = refl
then_assoc Equal b c = refl
then_assoc Greater b c = refl

then_equal : (o : Ordering) → o ≡ ordering_then o Equal
then_equal Less = refl
then_equal Equal = refl
then_equal Greater = refl

-- the first elements, and then those after them
pub cmp-parts : (n : ℕ) (xs ys : List ℕ)
    → slice_cmp nat_cmp xs ys
    ≡ ordering_then (slice_cmp nat_cmp (take n xs) (take n ys)) (slice_cmp nat_cmp (drop n xs) (drop n ys))
cmp-parts zero xs ys = refl
cmp-parts (suc n) [] [] = refl
cmp-parts (suc n) [] (y ∷ ys) = refl
cmp-parts (suc n) (x ∷ xs) [] = refl
cmp-parts (suc n) (x ∷ xs) (y ∷ ys) =
    ap (ordering_then (nat_cmp x y)) (cmp-parts n xs ys) ∙ then_assoc (nat_cmp x y) _ _

-- the order of the eight bytes from an index on
abbrev pub word_cmp : ℕ → List ℕ → List ℕ → Ordering
word_cmp at xs ys = slice_cmp nat_cmp (take 8 (drop at xs)) (take 8 (drop at ys))

-- eight bytes more
cmp-from : (before : Ordering) (at : ℕ) (xs ys : List ℕ)
    → ordering_then before (slice_cmp nat_cmp (drop at xs) (drop at ys))
    ≡ ordering_then (ordering_then before (word_cmp at xs ys)) (slice_cmp nat_cmp (drop (at + 8) xs) (drop (at + 8) ys))
cmp-from before at xs ys =
    ap (ordering_then before) (cmp-parts 8 (drop at xs) (drop at ys))
    ∙ then_assoc before (word_cmp at xs ys) _
    ∙ (λ i. ordering_then (ordering_then before (word_cmp at xs ys)) (slice_cmp nat_cmp (drop-drop 8 at xs i) (drop-drop 8 at ys i)))

-- the order of three words of eight bytes each, and then of the fourth
pub cmp-four : (xs ys : List ℕ) → length xs ≡ MAX_NAME_BYTES → length ys ≡ MAX_NAME_BYTES
    → slice_cmp nat_cmp xs ys
    ≡ ordering_then (ordering_then (ordering_then (word_cmp 0 xs ys) (word_cmp 8 xs ys)) (word_cmp 16 xs ys)) (word_cmp 24 xs ys)
cmp-four xs ys e f =
    let two : Ordering = ordering_then (word_cmp 0 xs ys) (word_cmp 8 xs ys) in
    let three : Ordering = ordering_then two (word_cmp 16 xs ys) in
    cmp-from Equal 0 xs ys
    ∙ cmp-from (word_cmp 0 xs ys) 8 xs ys
    ∙ cmp-from two 16 xs ys
    ∙ cmp-from three 24 xs ys
    ∙ (λ i. ordering_then (ordering_then three (word_cmp 24 xs ys))
    (slice_cmp nat_cmp (drop_all 32 xs (omega (arith, e)) i) (drop_all 32 ys (omega (arith, f)) i)))
    ∙ sym (then_equal (ordering_then three (word_cmp 24 xs ys)))

-- the number that `high` makes, followed by n bytes from an index on
abbrev number_from : ℕ → ℕ → ℕ → List ℕ → ℕ
number_from high at zero bytes = high
number_from high at (suc n) bytes = number_from (high * 256 + get_or bytes at 0) (suc at) n bytes

-- one byte more
cmp-digit : (a b x y : ℕ) → x < 256 → y < 256
    → nat_cmp (a * 256 + x) (b * 256 + y) ≡ ordering_then (nat_cmp a b) (nat_cmp x y)
cmp-digit a b x y p q = grind (arith, nat_tests)

-- such numbers compare by `high`, and then as the bytes do
cmp-number_from : (a b at n : ℕ) (xs ys : List ℕ) → at + n ≤ length xs → at + n ≤ length ys
    → ((k : ℕ) → get_or xs k 0 < 256) → ((k : ℕ) → get_or ys k 0 < 256)
    → nat_cmp (number_from a at n xs) (number_from b at n ys)
    ≡ ordering_then (nat_cmp a b) (slice_cmp nat_cmp (take n (drop at xs)) (take n (drop at ys)))
cmp-number_from a b at zero xs ys e f p q = then_equal (nat_cmp a b)
cmp-number_from a b at (suc n) xs ys e f p q =
    rw (drop-cons xs at 0 (omega (arith, e)), drop-cons ys at 0 (omega (arith, f)))
    (cmp-number_from (a * 256 + get_or xs at 0) (b * 256 + get_or ys at 0) (suc at) n xs ys (omega (arith, e)) (omega (arith, f)) p q
    ∙ ap (λ o. ordering_then o (slice_cmp nat_cmp (take n (drop (suc at) xs)) (take n (drop (suc at) ys))))
    (cmp-digit a b (get_or xs at 0) (get_or ys at 0) (p at) (q at))
    ∙ sym (then_assoc (nat_cmp a b) (nat_cmp (get_or xs at 0) (get_or ys at 0)) _))

number_from-word : (bytes : List ℕ) → from_be_bytes w64 bytes ≡ number_from 0 0 8 bytes
number_from-word bytes = omega arith

-- words of eight bytes each compare as their bytes do
pub cmp-words : (xs ys : List ℕ) → length xs ≡ 8 → length ys ≡ 8
    → ((k : ℕ) → get_or xs k 0 < 256) → ((k : ℕ) → get_or ys k 0 < 256)
    → nat_cmp (from_be_bytes w64 xs) (from_be_bytes w64 ys) ≡ slice_cmp nat_cmp xs ys
cmp-words xs ys e f p q =
    (λ i. nat_cmp (number_from-word xs i) (number_from-word ys i))
    ∙ cmp-number_from 0 0 0 8 xs ys (omega (arith, e)) (omega (arith, f)) p q
    ∙ (λ i. slice_cmp nat_cmp (take_all 8 xs (omega (arith, e)) i) (take_all 8 ys (omega (arith, f)) i))

pub length-word : (at : ℕ) (bytes : List ℕ) → at + 8 ≤ length bytes → length (take 8 (drop at bytes)) ≡ 8
length-word at bytes h = omega (arith, length-take 8 (drop at bytes), length-drop at bytes, h)

-- the first bytes of some are bytes
pub small-take : (n : ℕ) (xs : List ℕ) → ((k : ℕ) → get_or xs k 0 < 256) → (k : ℕ) → get_or (take n xs) k 0 < 256
small-take zero xs p k = omega arith
small-take (suc n) [] p k = omega arith
small-take (suc n) (x ∷ xs) p zero = p 0
small-take (suc n) (x ∷ xs) p (suc k) = small-take n xs (λ k. p (suc k)) k

pub small-word : (at : ℕ) (bytes : List ℕ) → ((k : ℕ) → get_or bytes k 0 < 256) → (k : ℕ) → get_or (take 8 (drop at bytes)) k 0 < 256
small-word at bytes p = small-take 8 (drop at bytes) (λ k. omega (arith, get_or-drop at bytes k 0, p (at + k)))

-- the first word of some bytes, as the code reads it
abbrev pub first_word : List ℕ → ℕ
first_word bytes = from_be_bytes w64 (take 8 bytes)

cmp-first_words : (xs ys : List ℕ) → length xs ≡ MAX_NAME_BYTES → length ys ≡ MAX_NAME_BYTES
    → ((k : ℕ) → get_or xs k 0 < 256) → ((k : ℕ) → get_or ys k 0 < 256)
    → nat_cmp (first_word xs) (first_word ys) ≡ word_cmp 0 xs ys
cmp-first_words xs ys e f p q =
    cmp-words (take 8 xs) (take 8 ys) (length-word 0 xs (omega (arith, e))) (length-word 0 ys (omega (arith, f))) (small-take 8 xs p) (small-take 8 ys q)

-- equal first words are of equal bytes
pub same-words : (xs ys : List ℕ) → length xs ≡ MAX_NAME_BYTES → length ys ≡ MAX_NAME_BYTES
    → ((k : ℕ) → get_or xs k 0 < 256) → ((k : ℕ) → get_or ys k 0 < 256)
    → first_word xs ≡ first_word ys → word_cmp 0 xs ys ≡ Equal
same-words xs ys e f p q same =
    sym (cmp-first_words xs ys e f p q) ∙ sym (nat_cmp_is (first_word xs) (first_word ys) Equal same)

then_decided : (o next : Ordering) → (o ≡ Equal → ⊥) → ordering_then o next ≡ o
then_decided Less next h = refl
then_decided Equal next h = absurd (h refl)
then_decided Greater next h = refl

-- if the first words differ, they decide
pub cmp-differing : (xs ys : List ℕ) → length xs ≡ MAX_NAME_BYTES → length ys ≡ MAX_NAME_BYTES
    → ((k : ℕ) → get_or xs k 0 < 256) → ((k : ℕ) → get_or ys k 0 < 256)
    → (first_word xs ≡ first_word ys → ⊥) → slice_cmp nat_cmp xs ys ≡ word_cmp 0 xs ys
cmp-differing xs ys e f p q differ =
    cmp-from Equal 0 xs ys
    ∙ then_decided (word_cmp 0 xs ys) _
    (λ tie. differ (ranked (first_word xs) (first_word ys) Equal (sym tie ∙ sym (cmp-first_words xs ys e f p q))))

name_byte-some : (b : ℕ) → not (not (is_name_byte b)) ≡ true → 0 < b
name_byte-some zero e = cc e
name_byte-some (suc b) e = omega arith

-- no byte of a name is zero
pub none-zero : (bytes : List ℕ) → name_fault bytes ≡ None → (k : ℕ) → k < length bytes → 0 < get_or bytes k 0
none-zero bytes found k h =
    let all : length bytes ≤ prefix_len (λ b. not (not (is_name_byte b))) bytes = grind (arith, nat_tests, found) in
    name_byte-some (get_or bytes k 0) (prefix_len_passes (λ b. not (not (is_name_byte b))) bytes k 0 (omega (arith, all, h)))

less-zero : (y : ℕ) (o : Ordering) → ordering_then (nat_cmp 0 (suc y)) o ≡ Less
less-zero y o = grind (arith, nat_tests)

greater-zero : (x : ℕ) (o : Ordering) → ordering_then (nat_cmp (suc x) 0) o ≡ Greater
greater-zero x o = grind (arith, nat_tests)

cmp-nothing : (n : ℕ) → slice_cmp nat_cmp (replicate n 0) (replicate n 0) ≡ Equal
cmp-nothing zero = refl
cmp-nothing (suc n) = cmp-nothing n

-- appended zeros leave the order as it is, if none of the bytes is zero
pub cmp-zeros : (xs ys : List ℕ) (m n : ℕ) → length xs + m ≡ length ys + n
    → ((k : ℕ) → k < length xs → 0 < get_or xs k 0) → ((k : ℕ) → k < length ys → 0 < get_or ys k 0)
    → slice_cmp nat_cmp (xs ++ replicate m 0) (ys ++ replicate n 0) ≡ slice_cmp nat_cmp xs ys
cmp-zeros [] [] m n e p q = subst (λ k. slice_cmp nat_cmp (replicate m 0) (replicate k 0) ≡ Equal) (omega (arith, e)) (cmp-nothing m)
cmp-zeros [] (zero ∷ ys) m n e p q = absurd (omega (arith, q 0 (omega arith)))
cmp-zeros [] (suc y ∷ ys) zero n e p q = absurd (omega (arith, e))
cmp-zeros [] (suc y ∷ ys) (suc m) n e p q = less-zero y _
cmp-zeros (zero ∷ xs) [] m n e p q = absurd (omega (arith, p 0 (omega arith)))
cmp-zeros (suc x ∷ xs) [] m zero e p q = absurd (omega (arith, e))
cmp-zeros (suc x ∷ xs) [] m (suc n) e p q = greater-zero x _
cmp-zeros (x ∷ xs) (y ∷ ys) m n e p q =
    ap (ordering_then (nat_cmp x y))
    (cmp-zeros xs ys m n (omega (arith, e)) (λ k h. p (suc k) (omega (arith, h))) (λ k h. q (suc k) (omega (arith, h))))

-- names in memory compare as their bytes do
pub cmp-stored : (len : ℕ) (buffer : List ℕ) (len' : ℕ) (buffer' : List ℕ) → IsStored len buffer → IsStored len' buffer'
    → slice_cmp nat_cmp buffer buffer' ≡ slice_cmp nat_cmp (take len buffer) (take len' buffer')
cmp-stored len buffer len' buffer' one other =
    let xs : List ℕ = take len buffer in
    let ys : List ℕ = take len' buffer' in
    let few : length xs ≤ MAX_NAME_BYTES = (few_bytes xs one.named).1 in
    let few' : length ys ≤ MAX_NAME_BYTES = (few_bytes ys other.named).1 in
    (λ i. slice_cmp nat_cmp (one.whole i) (other.whole i))
    ∙ cmp-zeros xs ys (MAX_NAME_BYTES - length xs) (MAX_NAME_BYTES - length ys) (omega (arith, few, few')) (none-zero xs one.named) (none-zero ys other.named)

-- what `then_with` returns
pub then-called : {Called : Type 0} (a b r : Ordering) → MatchOrdering a (r ≡ Less) Called (r ≡ Greater) → (Called → r ≡ b) → r ≡ ordering_then a b
then-called Less b r e f = e
then-called Equal b r e f = f e
then-called Greater b r e f = e
