use Rattle.std.proofs.Common.{inr, refl, arith}
use Rattle.tcc_survey.specs.private.Calling.{IsReaderOnLane}
use Rattle.tcc_survey.proofs.CallingLemmas.{later_trans}
use Rattle.tcc_survey.proofs.ManyLemmas.{lanes_more}
use Rattle.tcc_survey.proofs.calling.Calling.with_readers.Goals as goal

pub loop-lane-init : goal.loop-lane-init
loop-lane-init c = record { called = c.requires.one; kept = inr (refl, omega arith); met = λ k l. absurd (omega (arith, l)) }

pub with_reader-best-requires-clause-one : goal.with_reader-best-requires-clause-one
with_reader-best-requires-clause-one c = c.loop-lane.invariant.called

pub loop-lane-preserved : goal.loop-lane-preserved
loop-lane-preserved c =
    let new = c.with_reader-best in
    let was = c.loop-lane.invariant in
    record {
      called = new.ensures.called;
      kept = later_trans new.result c.loop-lane.best c.args.one new.ensures.kept was.kept;
      met = lanes_more c.args.self.now c.requires.calling (IsReaderOnLane c.args.self.now) c.loop-lane.lane c.loop-lane.best was.met new.result new.ensures.kept new.ensures.met;
    }

pub returns-clause-called : goal.returns-clause-called
returns-clause-called c = c.loop-lane.invariant.called

pub returns-clause-kept : goal.returns-clause-kept
returns-clause-kept c = c.loop-lane.invariant.kept

pub returns-clause-met : goal.returns-clause-met
returns-clause-met c = λ lane small. c.loop-lane.invariant.met lane (omega (arith, small, c.loop-lane-test.false))
