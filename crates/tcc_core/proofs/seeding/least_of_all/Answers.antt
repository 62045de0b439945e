use Rattle.std.proofs.Common.{◌≡◌, ◌<◌, ◌≤◌, ◌+◌, ◌*◌, ◌⊎◌, inl, inr, ℕ, length, min, arith}
use Rattle.std.proofs.Math.Nat.{min-le_left, min-le_right, le-min}
use Rattle.std.proofs.lemmas.Bool.{cases_lt}
use Rattle.tcc_core.specs.private.Closing.{closing_at}
use Rattle.tcc_core.proofs.Rounds.{of_both}
use Rattle.tcc_core.proofs.seeding.least_of_all.Goals as goal

pub loop-block-preserved : goal.loop-block-preserved
loop-block-preserved c =
    let at = closing_at c.args.near.now c.args.prices.now in
    let k = c.loop-block.block in
    let n = length c.args.prices.now.prices in
    let counted : c.count-count.result ≡ n = c.count-count.ensures.value in
    let low : c.min.result ≤ n = omega (arith, c.min.ensures, counted, min-le_left c.count-count.result (k * 32 + 32)) in
    let high : c.min.result ≤ k * 32 + 32 = omega (arith, c.min.ensures, min-le_right c.count-count.result (k * 32 + 32)) in
    rw c.min-least.ensures (of_both (λ x y. (x < k * 32) × (x < n) × (y < n)) (λ x y. (k * 32 ≤ x) × (x < c.min.result) × (y < n))
    (λ x y. (x < (k + 1) * 32) × (x < n) × (y < n)) at c.loop-block.least c.least_from.result c.loop-block.invariant c.least_from.ensures
    (λ x y (below, from, to). (omega (arith, below), from, to))
    (λ x y (from, below, to). (omega (arith, below, high), omega (arith, below, low), to))
    (λ x y (below, from, to). split x y below from to (cases_lt x (k * 32))))
  where
    split : (x y : ℕ) → x < (c.loop-block.block + 1) * 32 → x < length c.args.prices.now.prices → y < length c.args.prices.now.prices
        → (x < c.loop-block.block * 32) ⊎ (c.loop-block.block * 32 ≤ x)
        → ((x < c.loop-block.block * 32) × (x < length c.args.prices.now.prices) × (y < length c.args.prices.now.prices))
        ⊎ ((c.loop-block.block * 32 ≤ x) × (x < c.min.result) × (y < length c.args.prices.now.prices))
    split x y below from to (inl less) = inl (less, from, to)
    split x y below from to (inr more) =
        let past : x + 1 ≤ min c.count-count.result (c.loop-block.block * 32 + 32) =
        le-min (omega (arith, from, c.count-count.ensures.value)) (omega (arith, below)) in
        inr (more, omega (arith, past, c.min.ensures), to)
