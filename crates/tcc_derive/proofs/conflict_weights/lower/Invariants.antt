use Rattle.std.proofs.Common.{take}
use Rattle.tcc_derive.specs.private.Lowering.{Lowers}
use Rattle.tcc_derive.proofs.conflict_weights.lower.Given as goal

abbrev pub invariant-loop-read : goal.invariant-loop-read
invariant-loop-read l = Lowers (take l.read-index l.reads) l.steps l.initial.nearest l.nearest
