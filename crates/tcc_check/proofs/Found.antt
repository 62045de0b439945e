-- First numbers that were found, by one relation after another.
use Rattle.std.proofs.Common.{◌≡◌, ◌<◌, ◌≤◌, ℕ, ◌⊎◌, inl, inr, Option, None, Some, min, arith, refl}
use Rattle.std.proofs.lemmas.Bool.{cases_lt}
use Rattle.tcc_check.specs.private.Searches.{IsFirstBelow, IsFoundBelow, lesser}

-- what is found of one relation is found of one that holds of the same numbers
pub found_as : (n : ℕ) (P Q : ℕ → Type 0) → ((v : ℕ) → P v → Q v) → ((v : ℕ) → Q v → P v) → (found : Option ℕ) → IsFoundBelow n P found → IsFoundBelow n Q found
found_as n P Q to back None none = λ a l q. none a l (back a q)
found_as n P Q to back (Some e) w = record { below = w.below; here = to e w.here; first = λ a l q. w.first a l (back a q) }

either : {P Q : Type 0} → (P → ⊥) → (Q → ⊥) → P ⊎ Q → ⊥
either p q (inl h) = p h
either p q (inr h) = q h

-- the lesser of the firsts of two is the first of both
pub found_either : (n : ℕ) (P Q : ℕ → Type 0) (one other : Option ℕ) → IsFoundBelow n P one → IsFoundBelow n Q other
    → IsFoundBelow n (λ v. P v ⊎ Q v) (lesser one other)
found_either n P Q None None p q = λ a l w. either (p a l) (q a l) w
found_either n P Q None (Some e) p q = record { below = q.below; here = inr q.here; first = λ a l w. either (p a (omega (arith, l, q.below))) (q.first a l) w }
found_either n P Q (Some e) None p q = record { below = p.below; here = inl p.here; first = λ a l w. either (p.first a l) (q a (omega (arith, l, p.below))) w }
found_either n P Q (Some e) (Some f) p q = go (cases_lt e f)
  where
    left : e < f → IsFirstBelow n (λ v. P v ⊎ Q v) e
    left l = record { below = p.below; here = inl p.here; first = λ a m w. either (p.first a m) (q.first a (omega (arith, l, m))) w }

    right : f ≤ e → IsFirstBelow n (λ v. P v ⊎ Q v) f
    right l = record { below = q.below; here = inr q.here; first = λ a m w. either (p.first a (omega (arith, l, m))) (q.first a m) w }

    go : (e < f) ⊎ (f ≤ e) → IsFirstBelow n (λ v. P v ⊎ Q v) (min e f)
    go (inl l) = let is : min e f ≡ e = omega (arith, l) in rw is (left l)
    go (inr l) = let is : min e f ≡ f = omega (arith, l) in rw is (right l)

-- one number alone
pub found_here : (n e : ℕ) → e < n → IsFoundBelow n (λ v. v ≡ e) (Some e)
found_here n e below = record { below = below; here = refl; first = λ a l same. absurd (omega (arith, l, same)) }
