-- Lines and words of a text are read as they were written.
use Rattle.std.proofs.Common.{◌≡◌, ℕ, zero, suc, ◌+◌, ◌*◌, ◌^◌, ◌<◌, ◌≤◌, Bool, true, false, ◌&&◌, eqb, ltb, List, []}
use Rattle.std.proofs.Common.{◌∷◌, ◌++◌, length, get_or, Ok, refl, ap, ◌∙◌, arith, append-nil, decimal}
use Rattle.std.proofs.Common.{lit<, lit≤}
use Rattle.std.specs.Prelude.{flat_map}
use Rattle.std.specs.List.{AllByRecursion}
use Rattle.std.specs.Str.{all_ascii_digits}
use Rattle.std.proofs.Math.Nat.{mul-suc}
use Rattle.std.proofs.lemmas.Bool.{and_parts}
use Rattle.std.proofs.lemmas.Bool.Decides.{nat_tests}
use Rattle.std.proofs.lemmas.List.{take_at, length-append}
use Rattle.std.proofs.lemmas.Fmt.{decimal_digit, decimal_by_steps, decimal_is_IsNumeral, digits_decimal, first_decimal}
use Rattle.std.proofs.lemmas.Str.Parse.{numerals_by_value, tells_all_ascii_digits}
use Rattle.tcc_txn.specs.Bytes.{has_no_leading_zero}
use Rattle.tcc_cert.specs.Texts.{Words, words_text}
use Rattle.tcc_cert.specs.Reading.{parted, words_of, number_of, line_length, line_of}

-- all bytes are above this one
abbrev pub IsAbove : ℕ → List ℕ → Type 0
IsAbove low [] = Unit {0}
IsAbove low (byte ∷ bytes) = (low < byte) × IsAbove low bytes

-- a test for that
abbrev pub is_above : ℕ → List ℕ → Bool
is_above low [] = true
is_above low (byte ∷ bytes) = ltb low byte && is_above low bytes

pub IsAbove-tested : (low : ℕ) (bytes : List ℕ) → is_above low bytes ≡ true → IsAbove low bytes
IsAbove-tested low [] is = tt
IsAbove-tested low (byte ∷ bytes) is =
    let parts = and_parts (ltb low byte) (is_above low bytes) is in
    (grind (arith, nat_tests, parts.0), IsAbove-tested low bytes parts.1)

pub IsAbove-append : (low : ℕ) (s t : List ℕ) → IsAbove low s → IsAbove low t → IsAbove low (s ++ t)
IsAbove-append low [] t p q = q
IsAbove-append low (byte ∷ s) t p q = (p.0, IsAbove-append low s t p.1 q)

pub IsAbove-less : (low less : ℕ) (s : List ℕ) → less ≤ low → IsAbove low s → IsAbove less s
IsAbove-less low less [] le p = tt
IsAbove-less low less (byte ∷ s) le p = (omega (arith, p.0), IsAbove-less low less s le p.1)

-- ---- lines

unequal : (low byte other : ℕ) → other ≤ low → low < byte → eqb byte other ≡ false
unequal low byte other le lt = grind (arith, nat_tests)

-- the first line feed is that after the line
first_feed : (line rest : List ℕ) → IsAbove 31 line → line_length (line ++ 10 ∷ rest) ≡ length line
first_feed [] rest above = refl
first_feed (byte ∷ line) rest above = rw (unequal 31 byte 10 (lit≤ tt) above.0) (ap (λ n. 1 + n) (first_feed line rest above.1) ∙ omega arith)

pub line_of-line : (most : ℕ) (line rest : List ℕ) → IsAbove 31 line → length line ≤ most → line_of most (line ++ 10 ∷ rest) ≡ Ok line
line_of-line most line rest above short =
    let within : ltb most (length line) ≡ false = grind (arith, nat_tests) in
    let there : ltb (length line) (length (line ++ 10 ∷ rest)) ≡ true = grind (arith, nat_tests, length-append line (10 ∷ rest)) in
    rw (first_feed line rest above, within, there) (ap Ok (take_at line (10 ∷ rest) (length line) refl))

-- ---- words

-- a word up to a space
parted-space : (word rest : List ℕ) (next : List ℕ) (words : Words) → IsAbove 32 word → parted rest ≡ next ∷ words
    → parted (word ++ 32 ∷ rest) ≡ word ∷ next ∷ words
parted-space [] rest next words above is = rw is refl
parted-space (byte ∷ word) rest next words above is =
    rw (parted-space word rest next words above.1 is) (rw (unequal 32 byte 32 (lit≤ tt) above.0) refl)

-- the last word
parted-last : (word : List ℕ) → IsAbove 32 word → parted word ≡ word ∷ []
parted-last [] above = refl
parted-last (byte ∷ word) above = rw (parted-last word above.1) (rw (unequal 32 byte 32 (lit≤ tt) above.0) refl)

-- every word has bytes, and no space among them
abbrev pub AreWords : Words → Type 0
AreWords [] = Unit {0}
AreWords (word ∷ words) = (0 < length word) × IsAbove 32 word × AreWords words

-- words after spaces
abbrev pub later : Words → List ℕ
later words = flat_map (λ word. 32 ∷ word) words

parted-words : (word : List ℕ) (words : Words) → IsAbove 32 word → AreWords words → parted (word ++ later words) ≡ word ∷ words
parted-words word [] above are = rw (append-nil word) (parted-last word above)
parted-words word (next ∷ words) above are =
    parted-space word (next ++ later words) next words above (parted-words next words are.1 are.2)

pub words_of-words : (words : Words) → AreWords words → words_of (words_text words) ≡ words
words_of-words [] are = refl
words_of-words ([] ∷ words) are = absurd (omega (arith, are.0))
words_of-words ((byte ∷ word) ∷ words) are = parted-words (byte ∷ word) words are.1 are.2

-- words of at most this many bytes, each after a space
later-short : (most : ℕ) (words : Words) → AllByRecursion (λ word. length word ≤ most) words → length (later words) ≤ (most + 1) * length words
later-short most [] short = omega arith
later-short most (word ∷ words) short =
    omega (arith, short.0, length-append word (later words), later-short most words short.1, mul-suc (most + 1) (length words))

-- a line of them: its first word has no space before it
pub words-short : (most : ℕ) (word : List ℕ) (words : Words) → length word ≤ most → AllByRecursion (λ w. length w ≤ most) words
    → length (words_text (word ∷ words)) < (most + 1) * length (word ∷ words)
words-short most word words first short =
    omega (arith, first, length-append word (later words), later-short most words short, mul-suc (most + 1) (length words))

-- how long a line is, word by word
pub words-first : (word : List ℕ) (words : Words) → length (words_text (word ∷ words)) ≡ length word + length (later words)
words-first word words = length-append word (later words)

pub later-one : (word : List ℕ) (words : Words) → length (later (word ∷ words)) ≡ 1 + length word + length (later words)
later-one word words = omega (arith, length-append word (later words))

-- ---- numbers

pub decimal-above : (n : ℕ) → n < 2 ^ 64 → IsAbove 32 (decimal n)
decimal-above = decimal_by_steps (λ m ds. IsAbove 32 ds) (λ m small. (omega arith, tt)) (λ m ds large above. IsAbove-append 32 ds _ above (omega arith, tt))

not_first_zero : (ds : List ℕ) → 48 < get_or ds 0 0 → has_no_leading_zero ds ≡ true
not_first_zero [] h = refl
not_first_zero (d ∷ []) h = refl
not_first_zero (d ∷ e ∷ ds) h = rw (unequal 48 d 48 (lit≤ tt) h) refl

decimal-leads : (n : ℕ) → n < 2 ^ 64 → has_no_leading_zero (decimal n) ≡ true
decimal-leads zero small = rw (decimal_digit 0 (lit< tt)) refl
decimal-leads (suc n) small = not_first_zero (decimal (suc n)) (first_decimal (suc n) (omega arith) small)

pub number_of-decimal : (least most n : ℕ) → least ≤ n → n ≤ most → n < 2 ^ 64 → number_of least most (decimal n) ≡ Ok n
number_of-decimal least most n low high small =
    let numeral = decimal_is_IsNumeral n small in
    let some : ltb 0 (length (decimal n)) ≡ true = grind (arith, nat_tests, numeral.0.0) in
    let digits : all_ascii_digits (decimal n) ≡ true = digits_decimal (numerals_by_value _ tells_all_ascii_digits) n small in
    let not_low : ltb n least ≡ false = grind (arith, nat_tests) in
    let not_high : ltb most n ≡ false = grind (arith, nat_tests) in
    rw (some, digits, decimal-leads n small, numeral.1, not_low, not_high) refl
