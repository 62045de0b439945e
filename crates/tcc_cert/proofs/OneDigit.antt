-- The text of a number of one digit.
use Rattle.std.proofs.Common.{◌≡◌, ℕ, Bool, true, false, cond, ltb, ◌+◌, [], ◌∷◌, decimal, refl}
use Rattle.std.proofs.lemmas.Bool.{ltb-true}
use Rattle.std.proofs.lemmas.Fmt.{decimal_digit}

pub digit : (n : ℕ) → decimal n ≡ cond (ltb n 10) ((48 + n) ∷ []) (decimal n)
digit n = go (ltb n 10) refl
  where
    go : (small : Bool) → ltb n 10 ≡ small → decimal n ≡ cond small ((48 + n) ∷ []) (decimal n)
    go true is = decimal_digit n (ltb-true n 10 is)
    go false is = refl
