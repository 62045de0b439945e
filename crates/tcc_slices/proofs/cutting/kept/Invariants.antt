use Rattle.std.proofs.Common.{◌≡◌, [], take}
use Rattle.tcc_slices.specs.private.Cutting.{is_wanted, kept_behind}
use Rattle.tcc_slices.proofs.cutting.kept.Given as goal

abbrev pub invariant-loop-index : goal.invariant-loop-index
invariant-loop-index l = l.kept.items ≡ kept_behind (is_wanted l.wanted) [] (take l.index l.ops)
