-- The fields of a record hold no byte but those of its text.
use Rattle.std.proofs.Common.{◌≡◌, ℕ, zero, suc, ◌-◌, ◌<◌, Bool, true, false, List, [], ◌∷◌, take, drop, refl, arith, get_or}
use Rattle.std.specs.Prelude.{◌||◌, ◌==◌}
use Rattle.std.specs.List.{list_any}
use Rattle.std.proofs.lemmas.Bool.Decides.{nat_tests}
use Rattle.csv.specs.Records.{cut_from}
use Rattle.tcc_rows.specs.ByteLimit.{past_limit}

-- if neither of two tests holds, the first fails
neither-first : (a b : Bool) → (a || b) ≡ false → a ≡ false
neither-first true b e = e
neither-first false b e = refl

neither-second : (a b : Bool) → (a || b) ≡ false → b ≡ false
neither-second true b e = cc e
neither-second false b e = e

none-take : (test : ℕ → Bool) (n : ℕ) (xs : List ℕ) → list_any test xs ≡ false → list_any test (take n xs) ≡ false
none-take test zero xs e = refl
none-take test (suc n) [] e = refl
none-take test (suc n) (x ∷ xs) e =
    rw (neither-first (test x) _ e, none-take test n xs (neither-second (test x) _ e)) refl

none-drop : (test : ℕ → Bool) (n : ℕ) (xs : List ℕ) → list_any test xs ≡ false → list_any test (drop n xs) ≡ false
none-drop test zero xs e = e
none-drop test (suc n) [] e = refl
none-drop test (suc n) (x ∷ xs) e = none-drop test n xs (neither-second (test x) _ e)

-- a byte that the text lacks is in no field
pub none-cut : (test : ℕ → Bool) (start : ℕ) (ends bytes : List ℕ) → list_any test bytes ≡ false → list_any (list_any test) (cut_from start ends bytes) ≡ false
unfolding cut_from
none-cut test start [] bytes e = refl
none-cut test start (end ∷ ends) bytes e =
    rw (none-take test (end - start) _ (none-drop test start bytes e)) (none-cut test end ends bytes e)

no-mark : (x : ℕ) → x < 256 → (x == past_limit) ≡ false
no-mark x h = grind (arith, nat_tests)

-- bytes are not marks
pub none-marked : (bytes : List ℕ) → ((k : ℕ) → get_or bytes k 0 < 256) → list_any (λ byte. byte == past_limit) bytes ≡ false
none-marked [] small = refl
none-marked (x ∷ xs) small = rw (no-mark x (small 0)) (none-marked xs (λ k. small (suc k)))
