use Rattle.std.proofs.Common.{◌<◌}
use Rattle.tcc_slices.specs.private.Cutting.{IsCut}
use Rattle.tcc_slices.proofs.cutting.cut.Given as goal

abbrev pub invariant-loop-index : goal.invariant-loop-index
invariant-loop-index g l = (0 < l.index) × IsCut l.snapshot l.graph l.needs l.numbers l.index l.slice
