use Rattle.std.proofs.Common.{◌≡◌, ◌<◌}
use Rattle.tcc_judge.specs.private.Blocks.{IsAt}
use Rattle.tcc_judge.proofs.ContradictedLemmas.{AreNotedFrom}
use Rattle.tcc_judge.proofs.contradicted.note_block.Given as goal

abbrev pub invariant-loop-place : goal.invariant-loop-place
invariant-loop-place l = record {
  some : 0 < l.place;
  same : l.block.from ≡ l.initial.block.from;
  at : IsAt l.graph l.order l.place l.block;
  lasts : AreNotedFrom l.graph l.order l.positions l.initial.block.from l.place l.lasts;
}
