use Rattle.std.proofs.Common.{◌<◌, inl, arith}
use Rattle.tcc_reads.specs.History.{count}
use Rattle.tcc_judge.specs.declared.least.TheConstants.{NONE}
use Rattle.tcc_judge.proofs.PositionLemmas.{before_at}
use Rattle.tcc_judge.proofs.SingleLemmas.{singles_found, singles_end}
use Rattle.tcc_judge.proofs.singles.first_single.Goals as goal

pub loop-a-init : goal.loop-a-init
loop-a-init c = λ at is. omega (arith, is.0)

pub least_single-requires-clause-onward : goal.least_single-requires-clause-onward
least_single-requires-clause-onward c = λ u v pair.
    before_at (count c.args.graph.now) c.args.order.now c.args.positions.now c.requires.ordered.numbering c.requires.kept.positions_are u v (c.requires.kept.onward u v (inl pair))

pub loop-a-preserved : goal.loop-a-preserved
loop-a-preserved c =
    let few : count c.args.graph.now < NONE = omega (arith, c.count-a-end.ensures.value, c.count-a-end.ensures.few) in
    rw c.first_with-found.ensures
    (singles_found c.args.graph.now c.args.order.now c.args.positions.now c.requires.ordered.numbering c.requires.kept.positions_are c.loop-a.found c.loop-a.a
    c.least_single.result few c.least_single.ensures c.loop-a.invariant)

pub returns : goal.returns
returns c =
    singles_end c.args.graph.now c.args.order.now c.args.positions.now c.requires.ordered.numbering c.requires.kept.positions_are c.loop-a.found c.loop-a.a
    (omega (arith, c.count-a-end.ensures.value, c.loop-a-test.false)) c.loop-a.invariant
