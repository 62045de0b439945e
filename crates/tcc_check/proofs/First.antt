-- First positions, row by row.
use Rattle.std.proofs.Common.{◌≡◌, ◌<◌, ◌+◌, ℕ, ◌⊎◌, inl, inr, arith, subst}
use Rattle.std.proofs.lemmas.Bool.{cases_eq}
use Rattle.tcc_cert.specs.Tables.{IsEarlier, IsFirstAt}
use Rattle.tcc_cert.specs.Rules.{HoldsEverywhere}
use Rattle.tcc_check.specs.private.Searches.{HoldsBelow}

-- in the first i rows nothing is broken
abbrev pub HoldsAbove : ℕ → (ℕ × ℕ → Type 0) → Type 0
HoldsAbove i broken = (a b : ℕ) → a < i → broken (a, b) → ⊥

-- nor for one more number
pub holds_below_more : (n m : ℕ) (broken : ℕ → Type 0) → m ≡ n + 1 → HoldsBelow n broken → (broken n → ⊥) → HoldsBelow m broken
holds_below_more n m broken is before here a l p = go (cases_eq a n)
  where
    go : (a ≡ n) ⊎ (a ≡ n → ⊥) → ⊥
    go (inl same) = here (subst broken same p)
    go (inr apart) = before a (omega arith) p

-- nor in one more row
pub holds_more : (i : ℕ) (broken : ℕ × ℕ → Type 0) → HoldsAbove i broken → ((b : ℕ) → broken (i, b) → ⊥) → HoldsAbove (i + 1) broken
holds_more i broken before row a b l p = go (cases_eq a i)
  where
    go : (a ≡ i) ⊎ (a ≡ i → ⊥) → ⊥
    go (inl same) = row b (subst (λ (z : ℕ). broken (z, b)) same p)
    go (inr apart) = before a b (omega arith) p

pub first_in_row : (broken : ℕ × ℕ → Type 0) (a b : ℕ) → HoldsAbove a broken → broken (a, b) → ((c : ℕ) → c < b → broken (a, c) → ⊥)
    → IsFirstAt broken (a, b)
first_in_row broken a b before here first = record {
  here = here;
  first = λ earlier l p. go earlier p l;
}
  where
    go : (earlier : ℕ × ℕ) → broken earlier → IsEarlier earlier (a, b) → ⊥
    go earlier p (inl above) = before earlier.0 earlier.1 above p
    go earlier p (inr same) = first earlier.1 same.1 (subst (λ (z : ℕ). broken (z, earlier.1)) same.0 p)

pub nowhere : (n : ℕ) (broken : ℕ × ℕ → Type 0) → ((a b : ℕ) → broken (a, b) → a < n) → HoldsAbove n broken → HoldsEverywhere broken
nowhere n broken bound all at p = all at.0 at.1 (bound at.0 at.1 p) p
