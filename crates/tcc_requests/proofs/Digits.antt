-- Digits one after the other.
use Rattle.std.proofs.Common.{◌≡◌, ◌∙◌, ℕ, ◌+◌, ◌*◌, ◌-◌, ◌<◌, ◌≤◌, true, false, min, ltb, List, length, take, drop, get_or, refl, arith}
use Rattle.std.specs.Char.{digit_value, is_ascii_digit}
use Rattle.std.specs.Str.{all_ascii_digits}
use Rattle.std.specs.Str.Parse.{digits_value}
use Rattle.std.proofs.lemmas.Bool.Decides.{nat_tests}
use Rattle.std.proofs.lemmas.List.{at_drop_more}
use Rattle.std.proofs.lemmas.Int.Digits.{digits_value_more}

-- one more digit
pub digits-more : (ds : List ℕ) (i : ℕ) → i < length ds → is_ascii_digit (get_or ds i 0) ≡ true
    → all_ascii_digits (drop i ds) ≡ all_ascii_digits (drop (i + 1) ds)
digits-more ds i lt is = at_drop_more all_ascii_digits ds i 0 lt ∙ rw is refl

pub digit-bounds : (c : ℕ) → is_ascii_digit c ≡ true → (48 ≤ c) × (c ≤ 57)
digit-bounds c is = (grind (arith, nat_tests), grind (arith, nat_tests))

digit-value : (c : ℕ) → 48 ≤ c → c ≤ 57 → digit_value c ≡ c - 48
digit-value c low high =
    let above : ltb c 48 ≡ false = grind (arith, nat_tests) in
    let below : ltb c 58 ≡ true = grind (arith, nat_tests) in
    rw (above, below) refl

-- a number up to a limit, and one more digit
pub value-more : (ds : List ℕ) (i most value : ℕ) → i < length ds → 48 ≤ get_or ds i 0 → get_or ds i 0 ≤ 57 → value ≡ min (digits_value 10 (take i ds)) most
    → min (min (value * 10) most + (get_or ds i 0 - 48)) most ≡ min (digits_value 10 (take (i + 1) ds)) most
value-more ds i most value lt low high is =
    let more = digits_value_more 10 ds i lt in
    let digit = digit-value (get_or ds i 0) low high in
    rw (more, digit) (omega arith)
