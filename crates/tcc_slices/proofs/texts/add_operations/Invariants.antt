use Rattle.std.proofs.Common.{◌≡◌, ◌++◌, take}
use Rattle.std.specs.Prelude.{flat_map}
use Rattle.tcc_slices.specs.Texts.{op_text}
use Rattle.tcc_slices.proofs.texts.add_operations.Given as goal

abbrev pub invariant-loop-op : goal.invariant-loop-op
invariant-loop-op l = l.text.items ≡ l.initial.text.items ++ flat_map (op_text l.session) (take l.op-index l.ops)
