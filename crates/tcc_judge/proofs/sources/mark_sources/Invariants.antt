use Rattle.std.proofs.Common.{◌≡◌, length}
use Rattle.tcc_judge.specs.private.Sources.{AreGaps}
use Rattle.tcc_judge.proofs.SourceLemmas.{AreMarkedTo, To}
use Rattle.tcc_judge.proofs.sources.mark_sources.Given as goal

abbrev pub invariant-loop-place : goal.invariant-loop-place
invariant-loop-place l = record {
  gaps : AreGaps l.graph (To l.graph l.block.owners.items l.block.from l.block.clocks l.order l.lasts l.place) l.gaps;
  same : length l.marks ≡ length l.initial.marks;
  marks : AreMarkedTo l.graph l.block.owners.items l.block.from l.block.clocks l.order l.lasts l.initial.marks l.place l.marks;
}
