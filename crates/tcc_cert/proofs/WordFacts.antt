-- Words of a line, and digits one after the other.
use Rattle.std.proofs.Common.{◌≡◌, ℕ, ◌+◌, ◌*◌, ◌/◌, ◌%◌, decimal, ◌-◌, ◌<◌, ◌≤◌, true, false, min, ltb, List, [], ◌∷◌, length}
use Rattle.std.proofs.Common.{take, drop, get_or, map, ◌++◌, Result, Ok, Err, ◌≢◌, append_assoc, append-nil, refl, sym, ap, ◌∙◌}
use Rattle.std.proofs.Common.{arith}
use Rattle.std.specs.Char.{digit_value, is_ascii_digit}
use Rattle.std.specs.Str.{all_ascii_digits}
use Rattle.std.specs.Str.Parse.{digits_value}
use Rattle.std.proofs.lemmas.Bool.Decides.{nat_tests}
use Rattle.std.proofs.lemmas.List.{at_drop_more, drop_all}
use Rattle.std.proofs.lemmas.Int.Digits.{digits_value_more}
use Rattle.std.proofs.lemmas.Fmt.{decimal_digit, decimal_step}
use Rattle.tcc_cert.specs.declared.fault.CertFaultKind.{CertFaultKind}
use Rattle.tcc_cert.specs.declared.fault.CertFaultKind.TheVariants.{Count}
use Rattle.tcc_cert.specs.Texts.{Words}
use Rattle.tcc_cert.specs.Reading.{◌>>=◌, parted, words_of, number_of, numbers_of, two_words, three_words, five_words}

pub words_of-some : (line : List ℕ) → 0 < length line → words_of line ≡ parted line
words_of-some [] some = absurd (omega arith)
words_of-some (byte ∷ bytes) some = refl

-- one more digit
pub digits-more : (ds : List ℕ) (i : ℕ) → i < length ds → is_ascii_digit (get_or ds i 0) ≡ true
    → all_ascii_digits (drop i ds) ≡ all_ascii_digits (drop (i + 1) ds)
digits-more ds i lt is = at_drop_more all_ascii_digits ds i 0 lt ∙ rw is refl

pub digit-bounds : (c : ℕ) → is_ascii_digit c ≡ true → (48 ≤ c) × (c ≤ 57)
digit-bounds c is = (grind (arith, nat_tests), grind (arith, nat_tests))

digit-value : (c : ℕ) → 48 ≤ c → c ≤ 57 → digit_value c ≡ c - 48
digit-value c low high =
    let above : ltb c 48 ≡ false = grind (arith, nat_tests) in
    let below : ltb c 58 ≡ true = grind (arith, nat_tests) in
    rw (above, below) refl

-- a number up to a limit, and one more digit
pub value-more : (ds : List ℕ) (i most value : ℕ) → i < length ds → 48 ≤ get_or ds i 0 → get_or ds i 0 ≤ 57 → value ≡ min (digits_value 10 (take i ds)) most
    → min (min (value * 10) most + (get_or ds i 0 - 48)) most ≡ min (digits_value 10 (take (i + 1) ds)) most
value-more ds i most value lt low high is =
    let more = digits_value_more 10 ds i lt in
    let digit = digit-value (get_or ds i 0) low high in
    rw (more, digit) (omega arith)

-- another number of words
pub two_words-other : {X A : Type 0} (form : List ℕ → List ℕ → Result X CertFaultKind) (text : A → List ℕ) (words : List A) → length words ≢ 2
    → Err Count ≡ two_words form (map text words)
two_words-other form text [] other = refl
two_words-other form text (a ∷ []) other = refl
two_words-other form text (a ∷ b ∷ []) other = absurd (other refl)
two_words-other form text (a ∷ b ∷ c ∷ words) other = refl

pub three_words-other : {X A : Type 0} (form : List ℕ → List ℕ → List ℕ → Result X CertFaultKind) (text : A → List ℕ) (words : List A) → length words ≢ 3
    → Err Count ≡ three_words form (map text words)
three_words-other form text [] other = refl
three_words-other form text (a ∷ []) other = refl
three_words-other form text (a ∷ b ∷ []) other = refl
three_words-other form text (a ∷ b ∷ c ∷ []) other = absurd (other refl)
three_words-other form text (a ∷ b ∷ c ∷ d ∷ words) other = refl

pub five_words-other : {X A : Type 0} (form : List ℕ → List ℕ → List ℕ → List ℕ → List ℕ → Result X CertFaultKind) (text : A → List ℕ) (words : List A)
    → length words ≢ 5
    → Err Count ≡ five_words form (map text words)
five_words-other form text [] other = refl
five_words-other form text (a ∷ []) other = refl
five_words-other form text (a ∷ b ∷ []) other = refl
five_words-other form text (a ∷ b ∷ c ∷ []) other = refl
five_words-other form text (a ∷ b ∷ c ∷ d ∷ []) other = refl
five_words-other form text (a ∷ b ∷ c ∷ d ∷ e ∷ []) other = absurd (other refl)
five_words-other form text (a ∷ b ∷ c ∷ d ∷ e ∷ f ∷ words) other = refl

-- ---- lines of numbers

-- numbers before those that are read
abbrev pub with_front : List ℕ → Result (List ℕ) CertFaultKind → Result (List ℕ) CertFaultKind
with_front front read = read >>= λ numbers. Ok (front ++ numbers)

pub with_front-none : (read : Result (List ℕ) CertFaultKind) → with_front [] read ≡ read
with_front-none (Ok numbers) = refl
with_front-none (Err kind) = refl

front-more : (front : List ℕ) (n : ℕ) (read : Result (List ℕ) CertFaultKind)
    → with_front (front ++ n ∷ []) read ≡ with_front front (read >>= λ numbers. Ok (n ∷ numbers))
front-more front n (Ok numbers) = ap Ok (append_assoc front (n ∷ []) numbers)
front-more front n (Err kind) = refl

-- one more word
pub numbers-more : (most : ℕ) (words : Words) (i : ℕ) (w : List ℕ) (n : ℕ) (front : List ℕ) → i < length words → w ≡ get_or words i w
    → number_of 0 most w ≡ Ok n
    → with_front (front ++ n ∷ []) (numbers_of most (drop (i + 1) words)) ≡ with_front front (numbers_of most (drop i words))
numbers-more most words i w n front lt is read =
    front-more front n (numbers_of most (drop (i + 1) words))
    ∙ sym (ap (with_front front) (at_drop_more (numbers_of most) words i w lt ∙ rw (← is, read) refl))

pub numbers-fault : (most : ℕ) (words : Words) (i : ℕ) (w : List ℕ) (kind : CertFaultKind) (front : List ℕ) → i < length words → w ≡ get_or words i w
    → number_of 0 most w ≡ Err kind
    → with_front front (numbers_of most (drop i words)) ≡ Err kind
numbers-fault most words i w kind front lt is read =
    let here : numbers_of most (drop i words) ≡ Err kind = at_drop_more (numbers_of most) words i w lt ∙ rw (← is, read) refl in
    rw here refl

-- no more words
pub numbers-all : (most : ℕ) (words : Words) (front : List ℕ) (i : ℕ) → i ≡ length words → with_front front (numbers_of most (drop i words)) ≡ Ok front
numbers-all most words front i is =
    let none : drop i words ≡ [] = drop_all i words (omega arith) in
    rw none (ap Ok (append-nil front))

-- ---- numbers of two digits

pub decimal-two : (n : ℕ) → 10 ≤ n → n < 100 → decimal n ≡ (48 + n / 10) ∷ (48 + n % 10) ∷ []
decimal-two n low high = decimal_step n low (omega arith) ∙ ap (λ front. front ++ ((48 + n % 10) ∷ [])) (decimal_digit (n / 10) (omega arith))

pub decimal-three : (n : ℕ) → 100 ≤ n → n < 1000 → decimal n ≡ (48 + n / 10 / 10) ∷ (48 + n / 10 % 10) ∷ (48 + n % 10) ∷ []
decimal-three n low high =
    decimal_step n (omega arith) (omega arith) ∙ ap (λ front. front ++ ((48 + n % 10) ∷ [])) (decimal-two (n / 10) (omega arith) (omega arith))
