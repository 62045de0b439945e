use Rattle.tcc_lanes.specs.private.Buckets.{AreQueuedOn}
use Rattle.tcc_lanes.proofs.StretchLemmas.{IsRelaxed}
use Rattle.tcc_lanes.proofs.stretches.PriceRow.relax.Given as goal

abbrev pub invariant-loop-stretch : goal.invariant-loop-stretch
invariant-loop-stretch l = record {
  relaxed : IsRelaxed l.self l.initial.costs l.level l.stretch-items l.stretch-index l.from l.costs;
  queued : AreQueuedOn l.initial.costs l.initial.buckets.items l.costs l.buckets.items;
}
