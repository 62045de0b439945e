use Rattle.tcc_lanes.proofs.IntoInit.{AreBegunTo}
use Rattle.tcc_lanes.proofs.into_init.begun_at_writers.Given as goal

abbrev pub invariant-loop-v : goal.invariant-loop-v
invariant-loop-v l = AreBegunTo l.graph l.key_lanes l.v l.begun.items
