use Rattle.tcc_check.specs.private.Weights.{IsLowered}
use Rattle.tcc_check.proofs.ByKey.{SeenPair}
use Rattle.tcc_check.proofs.readings.lower_pairs.Given as goal

abbrev pub invariant-loop-index : goal.invariant-loop-index
invariant-loop-index l = IsLowered (SeenPair l.index l.sources l.readers l.row l.start) l.initial.weights l.weights
