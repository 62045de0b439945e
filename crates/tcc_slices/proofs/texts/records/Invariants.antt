use Rattle.std.proofs.Common.{◌≡◌, take}
use Rattle.std.specs.Prelude.{flat_map}
use Rattle.std.specs.FinMap.{entries}
use Rattle.tcc_slices.specs.Texts.{session_text}
use Rattle.tcc_slices.proofs.texts.records.Given as goal

abbrev pub invariant-loop-part : goal.invariant-loop-part
invariant-loop-part l = l.text.items ≡ flat_map session_text (take l.part-index (entries l.snapshot))
