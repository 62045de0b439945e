use Rattle.std.proofs.Common.{◌<◌, length, arith}
use Rattle.tcc_derive.proofs.prices.Prices.by_class.Goals as goal

pub returns : goal.returns
returns c =
    let below = rw (← c.self.view_is) at c.requires in
    let rows = c.self.inside.by_class.items in
    let inside : c.args.u < length rows = omega (arith, below, c.self.invariant.1.long) in
    rw (← c.self.view_is, c.index.ensures) (c.self.invariant.1.each c.args.u c.index.result.now below)
