use Rattle.std.proofs.Common.{arith}
use Rattle.tcc_check.proofs.LinksFrom.{none-between, one-between}
use Rattle.tcc_check.proofs.links_from.mark_between.Goals as goal

pub loop-number-init : goal.loop-number-init
loop-number-init c = none-between c.args.first c.args.weights.now c.args.weights.now

pub loop-number-preserved : goal.loop-number-preserved
loop-number-preserved c =
    one-between c.args.first c.args.weights.now c.loop-number.weights c.loop-number.number (omega arith) (omega arith) c.loop-number.invariant
