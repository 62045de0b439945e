use Rattle.std.proofs.Common.{◌≡◌, ◌<◌, ◌≤◌, ◌+◌, ◌⊎◌, inl, inr, ℕ, arith}
use Rattle.tcc_core.specs.private.Closing.{closing_at}
use Rattle.tcc_core.proofs.Rounds.{of_both, before_or_at}
use Rattle.tcc_core.proofs.seeding.least_from.Goals as goal

pub loop-b-preserved : goal.loop-b-preserved
loop-b-preserved c =
    let at = closing_at c.args.near.now c.args.prices.now in
    let b = c.loop-b.b in
    rw c.min-least.ensures (of_both (λ x y. (c.args.from ≤ x) × (x < c.args.to) × (y < b)) (λ x y. (c.args.from ≤ x) × (x < c.args.to) × (y ≡ b))
    (λ x y. (c.args.from ≤ x) × (x < c.args.to) × (y < b + 1)) at c.loop-b.least c.least_to.result c.loop-b.invariant c.least_to.ensures
    (λ x y (from, to, below). (from, to, omega (arith, below)))
    (λ x y (from, to, same). (from, to, omega (arith, same)))
    (λ x y (from, to, below). split x y from to (before_or_at y b below)))
  where
    split : (x y : ℕ) → c.args.from ≤ x → x < c.args.to → (y < c.loop-b.b) ⊎ (y ≡ c.loop-b.b)
        → ((c.args.from ≤ x) × (x < c.args.to) × (y < c.loop-b.b)) ⊎ ((c.args.from ≤ x) × (x < c.args.to) × (y ≡ c.loop-b.b))
    split x y from to (inl less) = inl (from, to, less)
    split x y from to (inr equal) = inr (from, to, equal)
