-- Rows that are stored capped are those that searches describe.
use Rattle.std.proofs.Common.{◌≡◌, ◌<◌, ◌≤◌, ℕ, Bool, true, false, cond, List, [], ◌∷◌, map, Option, None, Some, refl, ap, ◌∙◌, arith}
use Rattle.std.specs.Prelude.{min, nat_lt}
use Rattle.std.proofs.lemmas.Bool.{ltb-true, ltb-false}
use Rattle.tcc_core.specs.Shares.{capped}
use Rattle.tcc_bits.specs.Packed.{capped_at}

some_number : (cap n : ℕ) (less : Bool) → nat_lt n cap ≡ less → Some (min cap n) ≡ cond less (Some n) (Some cap)
some_number cap n true e =
    let low : n < cap = ltb-true n cap e in
    let same : min cap n ≡ n = omega (arith, low) in
    ap (λ (x : ℕ). Some x) same
some_number cap n false e =
    let high : cap ≤ n = ltb-false n cap e in
    let same : min cap n ≡ cap = omega (arith, high) in
    ap (λ (x : ℕ). Some x) same

one : (cap : ℕ) (n : Option ℕ) → capped_at cap n ≡ capped (Some cap) n
one cap None = let same : min cap cap ≡ cap = omega arith in ap (λ (x : ℕ). Some x) same
one cap (Some n) = some_number cap n (nat_lt n cap) refl

pub row_capped : (cap : ℕ) (row : List (Option ℕ)) → map (capped_at cap) row ≡ map (capped (Some cap)) row
row_capped cap [] = refl
row_capped cap (n ∷ row) =
    ap (λ (l : List (Option ℕ)). capped_at cap n ∷ l) (row_capped cap row)
    ∙ ap (λ (x : Option ℕ). x ∷ map (capped (Some cap)) row) (one cap n)

pub row_uncapped : (row : List (Option ℕ)) → row ≡ map (capped None) row
row_uncapped [] = refl
row_uncapped (n ∷ row) = ap (λ (l : List (Option ℕ)). n ∷ l) (row_uncapped row)
