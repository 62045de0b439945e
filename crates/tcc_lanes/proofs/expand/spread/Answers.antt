use Rattle.std.proofs.Common.{refl, arith}
use Rattle.tcc_lanes.proofs.Spread.{spread_more, still_more}
use Rattle.tcc_lanes.proofs.expand.spread.Goals as goal

pub loop-v-init : goal.loop-v-init
loop-v-init c = record {
  spread = record {
    same = c.requires.room;
    behind = λ l. absurd (omega arith);
    each = λ u i l. absurd (omega arith);
  };
  still = record {
    same = λ is k l. absurd (omega (arith, l));
    rest = λ k l. refl;
  };
}

pub loop-v-preserved : goal.loop-v-preserved
loop-v-preserved c = record {
  spread = rw c.before-run.ensures
      (spread_more c.args.graph.now c.requires.numbered c.args.parent_of.now c.requires.parents c.args.marks.now c.loop-v.v c.loop-v.run c.at_sources.result
      c.loop-v.found (omega (arith, c.count-v-end.ensures.value)) c.at_sources.ensures c.loop-v.invariant.spread);
  still = still_more c.args.found.now c.loop-v.v c.loop-v.is_new c.loop-v.found _ c.is_new_by-is_new.result
      (omega (arith, c.loop-v.invariant.spread.same, c.count-v-end.ensures.value, c.loop-v-test.true)) c.is_new_by-is_new.ensures c.loop-v.invariant.still;
}

pub returns-clause-each : goal.returns-clause-each
returns-clause-each c = λ v i below lane. c.loop-v.invariant.spread.each v i (omega (arith, c.count-v-end.ensures.value)) lane

pub returns-clause-still : goal.returns-clause-still
returns-clause-still c = λ none v below. c.loop-v.invariant.still.same none v (omega (arith, below, c.count-v-end.ensures.value, c.loop-v-test.false))
