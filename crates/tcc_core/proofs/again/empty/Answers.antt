use Rattle.std.proofs.Common.{arith}
use Rattle.tcc_core.proofs.Lowering.{emptied}
use Rattle.tcc_core.proofs.again.empty.Goals as goal

pub returns : goal.returns
returns c =
    let inv = c.loop-v.invariant in
    emptied c.args.reached.now c.args.row.now c.loop-v.row inv.long (λ k low. inv.out k (omega (arith, low, c.loop-v-test.false)))
    (λ v within. inv.kept v (omega (arith, within, inv.long))) c.requires.each
