use Rattle.std.proofs.Common.{◌≡◌, ◌<◌, ◌≤◌, ◌+◌, ◌⊎◌, inl, inr, ℕ, arith}
use Rattle.tcc_core.specs.private.Closing.{closing_at}
use Rattle.tcc_core.proofs.Rounds.{of_both, of_one, of_same, before_or_at}
use Rattle.tcc_core.proofs.seeding.least_to.Goals as goal

pub loop-a-preserved : goal.loop-a-preserved
loop-a-preserved c =
    let at = closing_at c.args.near.now c.args.prices.now in
    let a = c.loop-a.a in
    let b = c.args.b in
    let here : c.closing.result ≡ at a b = rw (c.row.ensures.value, c.prices-row.ensures.value) at c.closing.ensures in
    rw (c.min-least.ensures, here) (of_both (λ x y. (c.args.from ≤ x) × (x < a) × (y ≡ b)) (λ x y. (x ≡ a) × (y ≡ b))
    (λ x y. (c.args.from ≤ x) × (x < a + 1) × (y ≡ b)) at c.loop-a.least (at a b) c.loop-a.invariant (of_one at a b)
    (λ x y (from, below, same). (from, omega (arith, below), same))
    (λ x y (equal, same). (omega (arith, equal, c.loop-a.auto.a), omega (arith, equal), same))
    (λ x y (from, below, same). split x y from same (before_or_at x a below)))
  where
    split : (x y : ℕ) → c.args.from ≤ x → y ≡ c.args.b → (x < c.loop-a.a) ⊎ (x ≡ c.loop-a.a)
        → ((c.args.from ≤ x) × (x < c.loop-a.a) × (y ≡ c.args.b)) ⊎ ((x ≡ c.loop-a.a) × (y ≡ c.args.b))
    split x y from same (inl less) = inl (from, less, same)
    split x y from same (inr equal) = inr (equal, same)

pub returns : goal.returns
returns c =
    of_same (λ x y. (c.args.from ≤ x) × (x < c.loop-a.a) × (y ≡ c.args.b)) (λ x y. (c.args.from ≤ x) × (x < c.args.to) × (y ≡ c.args.b))
    (closing_at c.args.near.now c.args.prices.now) c.loop-a.least c.loop-a.invariant
    (λ x y (from, below, same). (from, omega (arith, below, c.loop-a.auto.a-end c.requires.upward), same))
    (λ x y (from, below, same). (from, omega (arith, below, c.loop-a-test.false), same))
