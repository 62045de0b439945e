-- Lines of numbers of one digit each.
use Rattle.std.proofs.Common.{◌≡◌, ℕ, suc, ◌+◌, ◌*◌, ◌-◌, ◌<◌, ◌≤◌, ◌^◌, true, eqb, List, [], ◌∷◌, ◌++◌, length, take, get_or, Ok, refl, sym, ap, ◌∙◌}
use Rattle.std.proofs.Common.{append_assoc, append-nil, decimal, arith}
use Rattle.std.specs.Prelude.{All}
use Rattle.std.proofs.lemmas.Bool.Decides.{nat_tests}
use Rattle.std.proofs.lemmas.Fmt.{decimal_digit}
use Rattle.std.proofs.lemmas.Grind.{take_at_read, flat_map-append}
use Rattle.std.proofs.lemmas.List.{length-map, map-append}
use Rattle.tcc_cert.specs.Texts.{Words, words_text, numbers_words}
use Rattle.tcc_cert.specs.Reading.{words_of, numbers_line}
use Rattle.tcc_cert.proofs.ReadingFacts.{later, words_of-words}
use Rattle.tcc_cert.proofs.FormsBack.{AreAtMost, numbers-words, numbers-back}

-- numbers that a line was written of are read from it
pub numbers-read : (count most : ℕ) (numbers : List ℕ) → most < 2 ^ 64 → AreAtMost most numbers → length numbers ≡ count
    → numbers_line count most (words_of (words_text (numbers_words numbers))) ≡ Ok numbers
numbers-read count most numbers small all long =
    let same : eqb (length (numbers_words numbers)) count ≡ true = grind (arith, nat_tests, length-map numbers decimal) in
    rw (words_of-words (numbers_words numbers) (numbers-words most numbers small all), same) (numbers-back most numbers small all)

-- one more word
words_text-more : (words : Words) (word : List ℕ) → 0 < length words → words_text (words ++ word ∷ []) ≡ words_text words ++ 32 ∷ word
words_text-more [] word some = absurd (omega (arith, some))
words_text-more (first ∷ words) word some =
    ap (λ l. first ++ l) (flat_map-append (λ w. 32 ∷ w) words (word ∷ []) ∙ ap (λ l. later words ++ 32 ∷ l) (append-nil word))
    ∙ sym (append_assoc first (later words) (32 ∷ word))

-- one more number of one digit, after a space
pub digit-more : (line front : List ℕ) (k d : ℕ) → 0 < k → 2 * k < length line → length front ≡ k → take (2 * k - 1) line ≡ words_text (numbers_words front)
    → get_or line (2 * k - 1) 0 ≡ 32 → get_or line (2 * k) 0 ≡ 48 + d → d < 10
    → take (2 * (k + 1) - 1) line ≡ words_text (numbers_words (front ++ d ∷ []))
digit-more line front k d some within long is space digit small =
    let before : 2 * k - 1 + 1 ≡ 2 * k = omega (arith, some) in
    let after : 2 * (k + 1) - 1 ≡ 2 * k + 1 = omega (arith, some) in
    let one : take (2 * k) line ≡ words_text (numbers_words front) ++ 32 ∷ [] =
    ap (λ n. take n line) (sym before) ∙ (take_at_read line (2 * k - 1) 0 (omega (arith, within))).1 ∙ rw (is, space) refl in
    let two : take (2 * k + 1) line ≡ words_text (numbers_words front) ++ 32 ∷ (48 + d) ∷ [] =
    (take_at_read line (2 * k) 0 within).1
    ∙ rw (one, digit) (append_assoc (words_text (numbers_words front)) (32 ∷ []) ((48 + d) ∷ [])) in
    let words : numbers_words (front ++ d ∷ []) ≡ numbers_words front ++ ((48 + d) ∷ []) ∷ [] =
    map-append decimal front (d ∷ []) ∙ ap (λ w. numbers_words front ++ w ∷ []) (decimal_digit d small) in
    let some_words : 0 < length (numbers_words front) = omega (arith, some, long, length-map front decimal) in
    ap (λ n. take n line) after ∙ two ∙ sym (words_text-more (numbers_words front) ((48 + d) ∷ []) some_words) ∙ ap words_text (sym words)

-- the first number of one digit
pub digit-first : (line : List ℕ) (d : ℕ) → 0 < length line → get_or line 0 0 ≡ 48 + d → d < 10 → take 1 line ≡ words_text (numbers_words (d ∷ []))
digit-first line d some is small =
    (take_at_read line 0 0 some).1 ∙ rw (is, decimal_digit d small) refl

-- each of these numbers is at most most
pub at_most-of : (most : ℕ) (numbers : List ℕ) → All (λ n. n ≤ most) numbers → AreAtMost most numbers
at_most-of most [] all = tt
at_most-of most (n ∷ numbers) all = (all 0 0 (omega arith), at_most-of most numbers (λ k d l. all (suc k) d (omega (arith, l))))
