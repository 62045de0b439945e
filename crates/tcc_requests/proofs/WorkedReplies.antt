-- The replies to requests that are refused, written out.
use Rattle.std.proofs.Common.{◌≡◌, ◌∙◌, ℕ, ◌+◌, ◌/◌, ◌%◌, ◌<◌, ◌≤◌, [], ◌∷◌, ◌++◌, codes, decimal, refl, ap, arith, lit<, lit≤}
use Rattle.std.proofs.lemmas.Fmt.{decimal_digit, decimal_step}
use Rattle.tcc_requests.specs.Replies.{refusal_reply}
use Rattle.tcc_requests.specs.declared.request.Refusal.TheVariants.{Header, Cut, TooLong, Unknown, Memory}

-- a number of two digits
two : (n : ℕ) → 10 ≤ n → n < 100 → decimal n ≡ (48 + n / 10) ∷ (48 + n % 10) ∷ []
two n low high = decimal_step n low (omega arith) ∙ ap (λ front. front ++ ((48 + n % 10) ∷ [])) (decimal_digit (n / 10) (omega arith))

pub header : codes "64 16 0 0 0\nrefused: header\n" ≡ refusal_reply Header
header = rw (two 64 (lit≤ tt) (lit< tt), two 16 (lit≤ tt) (lit< tt), decimal_digit 0 (lit< tt)) refl

pub cut_off : codes "64 13 0 0 0\nrefused: cut\n" ≡ refusal_reply Cut
cut_off = rw (two 64 (lit≤ tt) (lit< tt), two 13 (lit≤ tt) (lit< tt), decimal_digit 0 (lit< tt)) refl

pub too_long : codes "64 18 0 0 0\nrefused: too long\n" ≡ refusal_reply TooLong
too_long = rw (two 64 (lit≤ tt) (lit< tt), two 18 (lit≤ tt) (lit< tt), decimal_digit 0 (lit< tt)) refl

pub unknown : codes "64 17 0 0 0\nrefused: unknown\n" ≡ refusal_reply Unknown
unknown = rw (two 64 (lit≤ tt) (lit< tt), two 17 (lit≤ tt) (lit< tt), decimal_digit 0 (lit< tt)) refl

pub memory : codes "5 7 0 0 0\nmemory\n" ≡ refusal_reply Memory
memory = rw (decimal_digit 5 (lit< tt), decimal_digit 7 (lit< tt), decimal_digit 0 (lit< tt)) refl
