-- Each line of a certificate's text is read as what it was written of.
use Rattle.std.proofs.Common.{◌≡◌, ℕ, ◌+◌, ◌*◌, ◌<◌, ◌≤◌, ◌^◌, true, eqb, List, [], ◌∷◌, length, Ok, refl, arith, codes, decimal, lit≤, lit<}
use Rattle.tcc_cert.specs.declared.version.Version.{Version}
use Rattle.tcc_cert.specs.declared.version.Version.TheVariants.{One, Two}
use Rattle.tcc_cert.specs.declared.ranges.TextFormat.{TextFormat}
use Rattle.tcc_cert.specs.declared.ranges.TextFormat.TheVariants.{Small}
use Rattle.tcc_cert.specs.Ranges.{ranges_at, ranges_of}
use Rattle.std.specs.List.{AllByRecursion}
use Rattle.std.proofs.lemmas.Bool.Decides.{nat_tests}
use Rattle.std.proofs.lemmas.List.{length-map}
use Rattle.std.proofs.lemmas.Fmt.{length-decimal-le, decimal_nonempty}
use Rattle.tcc_graph.specs.declared.step.Step.TheVariants as step
use Rattle.tcc_cert.specs.Texts.{words_text, numbers_words, step_words, IsNumber, HasStepText}
use Rattle.tcc_cert.specs.Reading.{number_of, numbers_of, numbers_line, step_line}
use Rattle.tcc_cert.proofs.ReadingFacts.{IsAbove, AreWords, words-short, decimal-above, number_of-decimal}
use Rattle.tcc_cert.proofs.RangeFacts.{costs, numbers, lines}
use Rattle.tcc_cert.proofs.LinesBack.{IsReadBack}

-- ---- numbers

-- every number is at most most
abbrev pub AreAtMost : ℕ → List ℕ → Type 0
AreAtMost most numbers = AllByRecursion (λ n. n ≤ most) numbers

pub numbers-words : (most : ℕ) (numbers : List ℕ) → most < 2 ^ 64 → AreAtMost most numbers → AreWords (numbers_words numbers)
numbers-words most [] small all = tt
numbers-words most (n ∷ numbers) small all =
    (decimal_nonempty n (omega (arith, all.0)), decimal-above n (omega (arith, all.0)), numbers-words most numbers small all.1)

pub numbers-back : (most : ℕ) (numbers : List ℕ) → most < 2 ^ 64 → AreAtMost most numbers → numbers_of most (numbers_words numbers) ≡ Ok numbers
numbers-back most [] small all = refl
numbers-back most (n ∷ numbers) small all =
    rw (number_of-decimal 0 most n (omega arith) all.0 (omega (arith, all.0)), numbers-back most numbers small all.1) refl

-- the most digits of a number
abbrev digits : Version → ℕ
digits One = 7
digits Two = 8

number-short : (v : Version) (n : ℕ) → n ≤ (ranges_of v).cost → length (decimal n) ≤ digits v
number-short One n le = length-decimal-le 7 n (lit< tt) (omega (arith, le)) (omega (arith, le))
number-short Two n le = length-decimal-le 8 n (lit< tt) (omega (arith, le)) (omega (arith, le))

each-short : (v : Version) (numbers : List ℕ) → AreAtMost (ranges_of v).cost numbers
    → AllByRecursion (λ word. length word ≤ digits v) (numbers_words numbers)
each-short v [] all = tt
each-short v (n ∷ numbers) all = (number-short v n all.0, each-short v numbers all.1)

-- a line has room for this many, with the bytes between them
room : (v : Version) (count : ℕ) → count ≤ (ranges_of v).count → (digits v + 1) * count ≤ (ranges_of v).line_bytes + 1
room One count few = omega (arith, few)
room Two count few = omega (arith, few)

numbers-short : (v : Version) (numbers : List ℕ) → AreAtMost (ranges_of v).cost numbers → length numbers ≤ (ranges_of v).count
    → length (words_text (numbers_words numbers)) ≤ (ranges_of v).line_bytes
numbers-short v [] all few = omega arith
numbers-short v (n ∷ numbers) all few =
    let long = length-map (n ∷ numbers) decimal in
    omega (
      arith,
      words-short (digits v) (decimal n) (numbers_words numbers) (number-short v n all.0) (each-short v numbers all.1),
      room v (length (numbers_words (n ∷ numbers))) (omega (arith, few, long)),
    )

at_most-less : (most more : ℕ) (numbers : List ℕ) → most ≤ more → AreAtMost most numbers → AreAtMost more numbers
at_most-less most more [] le all = tt
at_most-less most more (n ∷ numbers) le all = (omega (arith, all.0), at_most-less most more numbers le all.1)

-- a row of a table
pub row-back : (v : Version) (columns most : ℕ) (row : List ℕ) → most ≤ (ranges_of v).cost → columns ≤ (ranges_of v).count → length row ≡ columns
    → AreAtMost most row
    → IsReadBack (Small v) (numbers_line columns most) numbers_words row
row-back v columns most row le few long all =
    let small : most < 2 ^ 64 = omega (arith, le, costs v) in
    record {
      are = numbers-words most row small all;
      short = numbers-short v row (at_most-less most (ranges_of v).cost row le all) (omega (arith, long, few));
      back =
          let same : eqb (length (numbers_words row)) columns ≡ true = grind (arith, nat_tests, length-map row decimal) in
          rw same (numbers-back most row small all);
    }

-- ---- keys

-- a name's bytes are above the space
abbrev pub IsPlainKey : List ℕ → Type 0
IsPlainKey key = (0 < length key) × (length key ≤ 32) × IsAbove 32 key

-- ---- steps

-- a number's numeral
pub number-word : (v : TextFormat) (n : ℕ) → IsNumber v n → (0 < length (decimal n)) × IsAbove 32 (decimal n)
number-word v n h = (decimal_nonempty n (omega (arith, h, numbers v)), decimal-above n (omega (arith, h, numbers v)))

pub number-back : (v : TextFormat) (n : ℕ) → IsNumber v n → number_of 0 (ranges_at v).number (decimal n) ≡ Ok n
number-back v n h = number_of-decimal 0 (ranges_at v).number n (omega arith) h (omega (arith, h, numbers v))

pub numbers-two : (v : TextFormat) (a b : ℕ) → IsNumber v a → IsNumber v b → AreWords (decimal a ∷ decimal b ∷ [])
numbers-two v a b ha hb = ((number-word v a ha).0, (number-word v a ha).1, ((number-word v b hb).0, (number-word v b hb).1, tt))

pub eight_digits : (v : TextFormat) (n : ℕ) → IsNumber v n → length (decimal n) ≤ 8
eight_digits v n h = length-decimal-le 8 n (lit< tt) (omega (arith, h, numbers v)) (omega (arith, h, numbers v))

pub session-back : (v : TextFormat) (a b : ℕ) → HasStepText v (step.Session a b) → IsReadBack v (step_line v) step_words (step.Session a b)
session-back v a b h = record {
  are = (lit< tt, (lit< tt, tt), numbers-two v a b h.0 h.1);
  short = omega (arith, lines v, words-short 8 (codes "S") (decimal a ∷ decimal b ∷ []) (lit≤ tt) (eight_digits v a h.0, (eight_digits v b h.1, tt)));
  back = rw (number-back v a h.0, number-back v b h.1) refl;
}
