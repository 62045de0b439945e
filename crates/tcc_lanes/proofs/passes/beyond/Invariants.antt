use Rattle.tcc_lanes.proofs.PassLemmas.{IsGoingBack}
use Rattle.tcc_lanes.proofs.passes.beyond.Given as goal

abbrev pub invariant-loop-place : goal.invariant-loop-place
invariant-loop-place l = IsGoingBack l.order l.prices l.covered l.place l.later l.found.items
