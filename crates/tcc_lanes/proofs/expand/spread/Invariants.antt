use Rattle.tcc_lanes.proofs.Spread.{IsSpreadTo, IsStillTo}
use Rattle.tcc_lanes.proofs.expand.spread.Given as goal

abbrev pub invariant-loop-v : goal.invariant-loop-v
invariant-loop-v l = record {
  spread : IsSpreadTo l.graph l.marks l.v l.run l.found;
  still : IsStillTo l.initial.found l.v l.is_new l.found;
}
