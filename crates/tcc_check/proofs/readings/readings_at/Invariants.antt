use Rattle.tcc_check.proofs.ByKey.{ArePaired}
use Rattle.tcc_check.proofs.readings.readings_at.Given as goal

abbrev pub invariant-loop-index : goal.invariant-loop-index
invariant-loop-index l = ArePaired l.index l.sources l.readers l.readings.items
