use Rattle.std.proofs.Common.{get_or, set, ap, arith}
use Rattle.std.proofs.lemmas.List.{take_all}
use Rattle.tcc_derive.proofs.LevelLemmas.{each_first, each_next}
use Rattle.tcc_derive.proofs.level_sweep.lower_each.Goals as goal

pub loop-source-init : goal.loop-source-init
loop-source-init c = each_first c.args.distance c.args.nearest.now

pub loop-source-preserved : goal.loop-source-preserved
loop-source-preserved c =
    let n = c.loop-source.source-index in
    let source = get_or c.args.sources.now n 0 in
    each_next c.args.sources.now n c.args.distance c.args.nearest.now c.loop-source.nearest _ c.loop-source-test.true
    (omega (arith, c.requires n 0 c.loop-source-test.true, c.loop-source.invariant.long))
    (ap (λ v. set c.loop-source.nearest source v) c.min.ensures) c.loop-source.invariant

pub returns : goal.returns
returns c = rw (take_all c.loop-source.source-index c.args.sources.now c.loop-source-test.false) at c.loop-source.invariant
