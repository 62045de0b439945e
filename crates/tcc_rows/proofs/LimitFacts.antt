-- A text under a limit on its bytes, read in parts.
use Rattle.std.proofs.Common.{◌≡◌, ℕ, ◌+◌, ◌-◌, ◌<◌, ◌≤◌, true, false, nat_le, List, [], ◌∷◌, ◌++◌, length, take, Option}
use Rattle.std.proofs.Common.{option_map, None, Some, refl, sym, ap, ◌∙◌, arith, length-append, append_assoc, length-take-le}
use Rattle.std.proofs.Common.{zero-le}
use Rattle.std.proofs.lemmas.Bool.{cases_lt}
use Rattle.std.proofs.lemmas.Bool.Decides.{nat_tests}
use Rattle.std.proofs.Math.Logic.{⊎_elim}
use lib.Seq.{take-append-le, take-append-add}
use Rattle.std.specs.Io.KnownBytes.{Consumes, IsAtEnd, Keeps}
use Rattle.tcc_rows.specs.ByteLimit.{marked, past_limit}

-- a text within the limit stays as it is
pub marked-within : (limit : ℕ) (text : List ℕ) → length text ≤ limit → marked limit text ≡ text
unfolding marked
marked-within limit text short =
    let fits : nat_le (length text) limit ≡ true = grind (arith, nat_tests) in
    rw fits refl

-- a longer text is cut, and marked
pub marked-past : (limit : ℕ) (text : List ℕ) → limit < length text → marked limit text ≡ take limit text ++ past_limit ∷ []
unfolding marked
marked-past limit text long =
    let fits : nat_le (length text) limit ≡ false = grind (arith, nat_tests) in
    rw fits refl

-- bytes at the front that the limit lets through, whether or not the others are within what is left of it
append-within : (limit : ℕ) (front rest : List ℕ) → length front ≤ limit → length rest ≤ limit - length front
    → marked limit (front ++ rest) ≡ front ++ marked (limit - length front) rest
append-within limit front rest within short =
    marked-within limit (front ++ rest) (omega (arith, length-append front rest))
    ∙ ap (λ t. front ++ t) (sym (marked-within (limit - length front) rest short))

append-past : (limit : ℕ) (front rest : List ℕ) → length front ≤ limit → limit - length front < length rest
    → marked limit (front ++ rest) ≡ front ++ marked (limit - length front) rest
append-past limit front rest within long =
    let split : limit ≡ length front + (limit - length front) = omega arith in
    marked-past limit (front ++ rest) (omega (arith, length-append front rest))
    ∙ ap (λ t. t ++ past_limit ∷ []) (ap (λ k. take k (front ++ rest)) split ∙ take-append-add front rest (limit - length front))
    ∙ append_assoc front (take (limit - length front) rest) (past_limit ∷ [])
    ∙ ap (λ t. front ++ t) (sym (marked-past (limit - length front) rest long))

pub marked-append : (limit : ℕ) (front rest : List ℕ) → length front ≤ limit → marked limit (front ++ rest) ≡ front ++ marked (limit - length front) rest
marked-append limit front rest within =
    ⊎_elim (append-past limit front rest within) (append-within limit front rest within) (cases_lt (limit - length front) (length rest))

-- no bytes are within every limit
pub marked-nil : (limit : ℕ) → marked limit [] ≡ []
marked-nil limit = marked-within limit [] zero-le

-- the end is the end under a limit too
pub at-end : (limit : ℕ) (known : Option (List ℕ)) → IsAtEnd known → IsAtEnd (option_map (marked limit) known)
at-end limit None end = tt
at-end limit (Some xs) end = ap (marked limit) end ∙ marked-nil limit

-- known bytes that stay
pub keeps-refl : (known : Option (List ℕ)) → Keeps known known
keeps-refl None = tt
keeps-refl (Some xs) = refl

-- if the limit lets no bytes through, reading some leaves the mark
pub past-limit-kept : (old new : Option (List ℕ)) (bytes : List ℕ) → 0 < length bytes → Consumes old new bytes
    → Keeps (option_map (marked 0) old) (option_map (λ _. past_limit ∷ []) new)
past-limit-kept None new bytes some read = tt
past-limit-kept (Some xs) None bytes some read = absurd read
past-limit-kept (Some xs) (Some ys) bytes some read =
    sym (marked-past 0 xs (omega (arith, ap length read, length-append bytes ys)))

-- a read that the limit lets through
pub limit-consumes : (old new : Option (List ℕ)) (part rest : List ℕ) (limit n : ℕ) → n ≤ length part → n ≤ limit
    → (0 < length (part ++ rest) → 0 < length part)
    → Consumes old new (take n part) → (n ≡ 0 → 0 < length part → IsAtEnd new)
    → Consumes (option_map (marked limit) old) (option_map (marked (limit - n)) new) (take n (part ++ rest))
    × (n ≡ 0 → 0 < length (part ++ rest) → IsAtEnd (option_map (marked (limit - n)) new))
limit-consumes None new part rest limit n fits within room read end =
    (tt, λ zero some. at-end (limit - n) new (end zero (room some)))
limit-consumes (Some xs) None part rest limit n fits within room read end = absurd read
limit-consumes (Some xs) (Some ys) part rest limit n fits within room read end =
    let front : length (take n part) ≡ n = length-take-le n part fits in (
      ap (marked limit) read
          ∙ marked-append limit (take n part) ys (omega arith)
          ∙ rw (front, take-append-le n part rest fits) refl,
      λ zero some. at-end (limit - n) (Some ys) (end zero (room some)),
    )

-- the end of the bytes is the end under a limit too
pub end-consumes : (old new : Option (List ℕ)) (limit : ℕ) → Consumes old new [] → IsAtEnd new
    → Consumes (option_map (marked limit) old) (option_map (λ _. []) new) []
end-consumes None new limit read end = tt
end-consumes (Some xs) None limit read end = absurd read
end-consumes (Some xs) (Some ys) limit read end = ap (marked limit) (read ∙ end) ∙ marked-nil limit

pub nothing-left : (known : Option (List ℕ)) → IsAtEnd (option_map (λ _. []) known)
nothing-left None = tt
nothing-left (Some xs) = refl
