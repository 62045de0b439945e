use Rattle.tcc_check.specs.private.Weights.{IsLowered}
use Rattle.tcc_check.proofs.ByKey.{SeenKey}
use Rattle.tcc_check.proofs.links_from.lower_keys.Given as goal

abbrev pub invariant-loop-key_index : goal.invariant-loop-key_index
invariant-loop-key_index l = IsLowered (SeenKey l.key_index-index l.graph l.written l.row l.start) l.initial.weights l.weights
