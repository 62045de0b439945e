use Rattle.tcc_lanes.specs.private.Passes.{AreNearTo}
use Rattle.tcc_lanes.proofs.nearness.mark_near.Given as goal

abbrev pub invariant-loop-place : goal.invariant-loop-place
invariant-loop-place l = AreNearTo l.graph l.order l.found.prices.items l.found.lasts.items l.covered.items l.most l.place l.marks.items
