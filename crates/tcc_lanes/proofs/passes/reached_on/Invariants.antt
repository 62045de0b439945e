use Rattle.tcc_lanes.proofs.PassLemmas.{IsReaching}
use Rattle.tcc_lanes.proofs.passes.reached_on.Given as goal

abbrev pub invariant-loop-place : goal.invariant-loop-place
invariant-loop-place l = IsReaching l.order l.lasts l.covered l.place l.here l.reached.items
