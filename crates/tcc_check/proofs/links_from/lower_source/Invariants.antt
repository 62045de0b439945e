use Rattle.tcc_check.specs.private.Weights.{IsLowered}
use Rattle.tcc_check.proofs.LinksFrom.{SeenReader}
use Rattle.tcc_check.proofs.links_from.lower_source.Given as goal

abbrev pub invariant-loop-reader : goal.invariant-loop-reader
invariant-loop-reader l = IsLowered (SeenReader l.reader-index l.source l.readers l.row) l.initial.weights l.weights
