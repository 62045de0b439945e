use Rattle.std.proofs.Common.{◌≡◌, take}
use Rattle.tcc_slices.specs.private.Cutting.{wanted_by}
use Rattle.tcc_slices.proofs.cutting.Whole.wanted_ops.Given as goal

abbrev pub invariant-loop-one : goal.invariant-loop-one
invariant-loop-one g l = l.wanted.items ≡ wanted_by l.self.snapshot.now l.self.graph.now (take l.one-index l.own) l.number
