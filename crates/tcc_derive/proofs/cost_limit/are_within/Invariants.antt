use Rattle.std.proofs.Common.{take}
use Rattle.tcc_derive.specs.Limits.{AreWithin}
use Rattle.tcc_derive.proofs.cost_limit.are_within.Given as goal

abbrev pub invariant-loop-row : goal.invariant-loop-row
invariant-loop-row l = AreWithin l.limit (take l.row-index l.others)
