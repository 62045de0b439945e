use Rattle.tcc_lanes.specs.private.Passes.{AreCovered}
use Rattle.tcc_lanes.proofs.PassLemmas.{IsFarthest}
use Rattle.tcc_lanes.proofs.passes.covered.Given as goal

abbrev pub invariant-loop-place : goal.invariant-loop-place
invariant-loop-place l = record {
  far : IsFarthest l.order l.lasts l.place l.far;
  covered : AreCovered l.order l.lasts l.place l.covered.items;
}
