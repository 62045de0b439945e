-- Lines among the bytes that wait and those that are still to come.
use Rattle.std.proofs.Common.{◌≡◌, ℕ, ◌+◌, ◌-◌, ◌<◌, ◌≤◌, ◌⊎◌, Bool, true, false, not, cond, eqb, ltb, List, [], ◌∷◌, ◌++◌, length, take, drop}
use Rattle.std.proofs.Common.{Option, None, Some, Ok, Err, refl, sym, ap, ◌∙◌, arith, append_assoc, append-nil, length-append, take-append-drop}
use Rattle.std.proofs.Common.{inl, inr}
use Rattle.std.specs.Prelude.{position}
use Rattle.std.specs.Io.KnownBytes.{Consumes, IsAtEnd, prepend_known}
use Rattle.std.proofs.lemmas.Bool.{cases_lt}
use Rattle.std.proofs.lemmas.Bool.Decides.{nat_tests}
use Rattle.std.proofs.lemmas.List.Folds.{prefix_len-append}
use Rattle.std.proofs.lemmas.List.Sums.{prefix_len-le-length}
use Rattle.std.proofs.lemmas.List.{take-append-le, drop-append-le, length-take-le, length-drop, take_all}
use Rattle.tcc_cert.specs.declared.fault.CertFaultKind.TheVariants.{TooLarge, Truncated}
use Rattle.tcc_cert.specs.Reading.{line_length, line_of}

-- ---- where a line ends

goes_on : (front rest : List ℕ) → line_length (front ++ rest)
    ≡ cond (eqb (line_length front) (length front)) (length front + line_length rest) (line_length front)
goes_on front rest = prefix_len-append (λ byte. not (eqb byte 10)) front rest

pub length-within : (bytes : List ℕ) → line_length bytes ≤ length bytes
length-within bytes = prefix_len-le-length (λ byte. not (eqb byte 10)) bytes

-- no line feed is among the first bytes
pub unbroken : (front rest : List ℕ) → line_length front ≡ length front → line_length (front ++ rest) ≡ length front + line_length rest
unbroken front rest none =
    let all : eqb (line_length front) (length front) ≡ true = grind (arith, nat_tests) in
    goes_on front rest ∙ rw all refl

-- a line feed is among the first bytes
pub ended-within : (front rest : List ℕ) → line_length front < length front → line_length (front ++ rest) ≡ line_length front
ended-within front rest some =
    let part : eqb (line_length front) (length front) ≡ false = grind (arith, nat_tests) in
    goes_on front rest ∙ rw part refl

-- bytes after some that were searched
searched-on : (bytes : List ℕ) (n : ℕ) → n ≤ length bytes → line_length (take n bytes) ≡ n → line_length bytes ≡ n + line_length (drop n bytes)
searched-on bytes n within none =
    let long = length-take-le n bytes within in
    ap line_length (sym (take-append-drop n bytes)) ∙ unbroken (take n bytes) (drop n bytes) (none ∙ sym long) ∙ ap (λ m. m + line_length (drop n bytes)) long

position-found : (n m at : ℕ) (t : Bool) → Some at ≡ cond t (Some n) None → at ≡ n
position-found n m at true is = cc
position-found n m at false is = absurd cc

position-none : (n m : ℕ) (t : Bool) (o : Option ℕ) → o ≡ None → o ≡ cond t (Some n) None → t ≡ false
position-none n m true o e is = absurd cc
position-none n m false o e is = refl

-- what a slice from a position on has
from_place : (bytes : List ℕ) (n : ℕ) → take (length bytes - n) (drop n bytes) ≡ drop n bytes
from_place bytes n = take_all (length bytes - n) (drop n bytes) (omega (arith, length-drop n bytes))

pub length-at : (bytes : List ℕ) (n at : ℕ) → n ≤ length bytes → line_length (take n bytes) ≡ n
    → Some at ≡ position (λ byte. eqb byte 10) (take (length bytes - n) (drop n bytes)) → n + at ≡ line_length bytes
length-at bytes n at within none is =
    let found = position-found (line_length (drop n bytes)) (length (drop n bytes)) at _ (is ∙ ap (position (λ byte. eqb byte 10)) (from_place bytes n)) in
    ap (λ m. n + m) found ∙ sym (searched-on bytes n within none)

pub length-none : (bytes : List ℕ) (n : ℕ) → n ≤ length bytes → line_length (take n bytes) ≡ n
    → None ≡ position (λ byte. eqb byte 10) (take (length bytes - n) (drop n bytes)) → length bytes ≡ line_length bytes
length-none bytes n within none is =
    let rest = drop n bytes in
    let all =
    position-none (line_length rest) (length rest) (ltb (line_length rest) (length rest)) None refl
    (is ∙ ap (position (λ byte. eqb byte 10)) (from_place bytes n)) in
    let le = length-within rest in
    let long = length-drop n bytes in
    let whole = searched-on bytes n within none in
    grind (arith, nat_tests)

-- ---- the bytes that are still to come

pub moved-in : (old new : Option (List ℕ)) (held more bytes : List ℕ) → prepend_known held old ≡ Some bytes → Consumes old new more
    → prepend_known (held ++ more) new ≡ Some bytes
moved-in None new held more bytes known read = absurd cc
moved-in (Some xs) None held more bytes known read = absurd read
moved-in (Some xs) (Some ys) held more bytes known read =
    ap Some (append_assoc held more ys) ∙ ap (λ t. Some (held ++ t)) (sym read) ∙ known

pub known-front : (left : Option (List ℕ)) (held bytes : List ℕ) → prepend_known held left ≡ Some bytes → (rest : List ℕ) × (bytes ≡ held ++ rest)
known-front None held bytes known = absurd cc
known-front (Some xs) held bytes known = (xs, cc)

pub known-all : (left : Option (List ℕ)) (held bytes : List ℕ) → prepend_known held left ≡ Some bytes → IsAtEnd left → bytes ≡ held
known-all None held bytes known end = absurd cc
known-all (Some xs) held bytes known end =
    let is : bytes ≡ held ++ xs = cc in
    is ∙ ap (λ t. held ++ t) end ∙ append-nil held

pub passed-front : (left : Option (List ℕ)) (held bytes : List ℕ) (n : ℕ) → n ≤ length held → prepend_known held left ≡ Some bytes
    → prepend_known (drop n held) left ≡ Some (drop n bytes)
passed-front None held bytes n within known = absurd cc
passed-front (Some xs) held bytes n within known =
    let is : held ++ xs ≡ bytes = cc in
    ap Some (sym (drop-append-le n held xs within) ∙ ap (drop n) is)

-- ---- the next line

pub line-found : (most : ℕ) (held rest : List ℕ) → line_length held < length held → line_length held ≤ most
    → line_of most (held ++ rest) ≡ Ok (take (line_length held) held)
line-found most held rest lt fits =
    let within : ltb most (line_length held) ≡ false = grind (arith, nat_tests) in
    let there : ltb (line_length held) (length (held ++ rest)) ≡ true = grind (arith, nat_tests, length-append held rest) in
    rw (ended-within held rest lt, within, there) (ap Ok (take-append-le (line_length held) held rest (omega arith)))

-- more bytes after these make the first line no shorter
no-shorter : (held rest : List ℕ) → (line_length held < length held) ⊎ (length held ≤ line_length held) → line_length held ≤ line_length (held ++ rest)
no-shorter held rest (inl lt) = omega (arith, ended-within held rest lt)
no-shorter held rest (inr le) = omega (arith, unbroken held rest (omega (arith, length-within held)), le, length-within held)

pub line-too-long : (most : ℕ) (held rest : List ℕ) → most < line_length held → line_of most (held ++ rest) ≡ Err TooLarge
line-too-long most held rest full =
    let on = no-shorter held rest (cases_lt (line_length held) (length held)) in
    let over : ltb most (line_length (held ++ rest)) ≡ true = grind (arith, nat_tests) in
    rw over refl

pub line-cut : (most : ℕ) (held more : List ℕ) → length more ≡ 0 → line_length held ≡ length held → length held ≤ most
    → line_of most (held ++ more) ≡ Err Truncated
line-cut most held [] end none short =
    let within : ltb most (length held) ≡ false = grind (arith, nat_tests) in
    let last : ltb (length held) (length held) ≡ false = grind (arith, nat_tests) in
    ap (line_of most) (append-nil held) ∙ rw (none, within, last) refl
line-cut most held (byte ∷ more) end none short = absurd (omega arith)
