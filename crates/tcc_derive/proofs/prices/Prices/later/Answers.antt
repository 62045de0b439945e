use Rattle.std.proofs.Common.{arith}
use Rattle.tcc_derive.proofs.prices.Prices.later.Goals as goal

pub overflow_add-result : goal.overflow_add-result
overflow_add-result c =
    let below = rw (← c.self.view_is) at c.requires in
    omega (arith, c.self.invariant.0.few, below)
