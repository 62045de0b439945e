-- Bytes that were read, one after the other.
use Rattle.std.proofs.Common.{◌≡◌, ◌∙◌, ℕ, List, [], ◌∷◌, ◌++◌, Option, None, Some, option_map, refl, sym, ap, append_assoc, append-nil, cond, false, eqb}
use Rattle.tcc_requests.specs.Requests.{line_at}
use Rattle.tcc_requests.specs.private.Reading.{IsHeld, IsInLine}

-- ---- a line

abbrev pub with_front : List ℕ → Option (List ℕ × List ℕ) → Option (List ℕ × List ℕ)
with_front seen found = option_map (λ x. (seen ++ x.0, x.1)) found

with_front-more : (seen : List ℕ) (byte : ℕ) (found : Option (List ℕ × List ℕ))
    → with_front seen (option_map (λ x. (byte ∷ x.0, x.1)) found) ≡ with_front (seen ++ byte ∷ []) found
with_front-more seen byte None = refl
with_front-more seen byte (Some x) = ap (λ front. Some (front, x.1)) (sym (append_assoc seen (byte ∷ []) x.0))

none : (found : Option (List ℕ × List ℕ)) → found ≡ with_front [] found
none None = refl
none (Some x) = refl

-- nothing was seen so far
pub in_line-none : IsInLine []
in_line-none more = none (line_at more)

-- one more byte, which is no line feed
pub in_line-more : (seen : List ℕ) (byte : ℕ) → (eqb byte 10 ≡ false) → IsInLine seen → IsInLine (seen ++ byte ∷ [])
in_line-more seen byte other before more =
    ap line_at (append_assoc seen (byte ∷ []) more)
    ∙ before (byte ∷ more)
    ∙ ap (λ b. with_front seen (cond b (Some ([], more)) (option_map (λ x. (byte ∷ x.0, x.1)) (line_at more)))) other
    ∙ with_front-more seen byte (line_at more)

-- the line ends by a line feed
pub line_at-feed : (seen rest : List ℕ) → IsInLine seen → line_at ((seen ++ 10 ∷ []) ++ rest) ≡ Some (seen, rest)
line_at-feed seen rest before =
    ap line_at (append_assoc seen (10 ∷ []) rest) ∙ before (10 ∷ rest) ∙ ap (λ front. Some (front, rest)) (append-nil seen)

-- ---- bytes that are held

pub held-then : (a b c : Option (List ℕ)) (x y : List ℕ) → IsHeld a x b → IsHeld b y c → IsHeld a (x ++ y) c
held-then a b None x y p q = tt
held-then a None (Some u) x y p q = absurd q
held-then None (Some t) (Some u) x y p q = absurd p
held-then (Some s) (Some t) (Some u) x y p q = q ∙ ap (λ l. l ++ y) p ∙ append_assoc s x y

pub held-none : (a : Option (List ℕ)) → IsHeld a [] a
held-none None = tt
held-none (Some s) = sym (append-nil s)
