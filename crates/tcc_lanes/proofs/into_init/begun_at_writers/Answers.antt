use Rattle.std.proofs.Common.{arith}
use Rattle.tcc_lanes.proofs.IntoInit.{begun_all}
use Rattle.tcc_lanes.proofs.into_init.begun_at_writers.Goals as goal

pub returns : goal.returns
returns c =
    begun_all c.args.graph.now c.args.key_lanes.now c.args.end c.loop-v.v c.loop-v.begun.items (omega (arith, c.loop-v-test.false))
    (omega (arith, c.loop-v.auto.v-end, c.requires.some)) c.loop-v.invariant
