use Rattle.tcc_check.specs.private.Readings.{AreReadingsTo}
use Rattle.tcc_check.proofs.readings.readings_of.Given as goal

abbrev pub invariant-loop-key_index : goal.invariant-loop-key_index
invariant-loop-key_index l = AreReadingsTo l.key_index l.graph l.readings.items
