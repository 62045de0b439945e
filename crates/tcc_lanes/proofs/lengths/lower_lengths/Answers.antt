use Rattle.std.proofs.Common.{refl, arith}
use Rattle.tcc_lanes.proofs.LengthLemmas.{swept_all, swept_more, swept_none}
use Rattle.tcc_lanes.proofs.Spread.{still_more}
use Rattle.tcc_lanes.proofs.lengths.lower_lengths.Goals as goal

pub loop-v-init : goal.loop-v-init
loop-v-init c = record {
  swept = swept_none c.args.graph.now c.args.level c.args.from c.args.most c.requires.numbered c.args.parent_of.now c.requires.parents c.args.lengths.now _;
  still = record {
    same = λ is k l. absurd (omega (arith, l));
    rest = λ k l. refl;
  };
}

pub loop-v-preserved : goal.loop-v-preserved
loop-v-preserved c = record {
  swept = rw c.least_before-run.ensures
      (swept_more c.args.graph.now c.args.level c.args.from c.args.most c.requires.numbered c.args.parent_of.now c.requires.parents c.args.lengths.now c.loop-v.v
      c.loop-v.run c.loop-v.lengths (omega (arith, c.count-v-end.ensures.value, c.loop-v-test.true)) c.loop-v.invariant.swept c.least_at_sources.result
      c.min-steps.result c.lowered-length.result c.requires.from c.requires.long c.least_at_sources.ensures
      (rw c.least_before-run.ensures at c.min-steps.ensures) c.lowered-length.ensures);
  still = still_more c.args.lengths.now c.loop-v.v c.loop-v.is_new c.loop-v.lengths _ c.is_new_by-is_new.result
      (omega (arith, c.loop-v.invariant.swept.same, c.requires.long, c.count-v-end.ensures.value, c.loop-v-test.true)) c.is_new_by-is_new.ensures
      c.loop-v.invariant.still;
}

pub returns-clause-lowered : goal.returns-clause-lowered
returns-clause-lowered c =
    swept_all c.args.graph.now c.args.level c.args.from c.args.most c.requires.numbered c.args.parent_of.now c.requires.parents c.args.lengths.now c.loop-v.v
    c.loop-v.run c.loop-v.lengths (omega (arith, c.count-v-end.ensures.value, c.loop-v-test.false)) c.loop-v.invariant.swept

pub returns-clause-still : goal.returns-clause-still
returns-clause-still c = λ none v below. c.loop-v.invariant.still.same none v (omega (arith, below, c.count-v-end.ensures.value, c.loop-v-test.false))
