-- Rows that are capped twice.
use Rattle.std.proofs.Common.{ℕ, ◌≡◌, List, [], ◌∷◌, map, Option, None, Some, refl, ap, ◌∙◌, arith}
use Rattle.std.specs.Prelude.{min}
use Rattle.tcc_bits.specs.Packed.{capped_at}

-- a value capped twice is capped by the lesser cap
capped_once : (earlier cap : ℕ) (value : Option ℕ) → capped_at (min cap earlier) value ≡ capped_at cap (capped_at earlier value)
capped_once earlier cap None =
    let same : min (min cap earlier) (min cap earlier) ≡ min cap (min earlier earlier) = omega arith in ap (λ (n : ℕ). Some n) same
capped_once earlier cap (Some value) =
    let same : min (min cap earlier) value ≡ min cap (min earlier value) = omega arith in ap (λ (n : ℕ). Some n) same

pub capped_twice : (earlier cap : ℕ) (values : List (Option ℕ))
    → map (capped_at (min cap earlier)) values ≡ map (capped_at cap) (map (capped_at earlier) values)
capped_twice earlier cap [] = refl
capped_twice earlier cap (n ∷ values) =
    ap (λ (l : List (Option ℕ)). capped_at (min cap earlier) n ∷ l) (capped_twice earlier cap values)
    ∙ ap (λ (x : Option ℕ). x ∷ map (capped_at cap) (map (capped_at earlier) values)) (capped_once earlier cap n)
