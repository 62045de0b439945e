use Rattle.std.proofs.Common.{◌≡◌}
use Rattle.tcc_judge.specs.private.Least.{IsFoundFirst}
use Rattle.tcc_judge.specs.private.Behind.{IsBrokenFrom}
use Rattle.tcc_judge.specs.private.Blocks.{IsAt}
use Rattle.tcc_judge.proofs.axiom_violation.first_of_block.Given as goal

abbrev pub invariant-loop-place : goal.invariant-loop-place
invariant-loop-place l = record {
  same : l.block.from ≡ l.initial.block.from;
  at : IsAt l.graph l.order l.place l.block;
  found : IsFoundFirst (IsBrokenFrom l.graph l.order l.initial.block.from l.place) l.found;
}
