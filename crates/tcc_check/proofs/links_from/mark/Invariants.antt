use Rattle.tcc_check.specs.private.Weights.{IsLowered}
use Rattle.tcc_check.proofs.LinksFrom.{SeenMark}
use Rattle.tcc_check.proofs.links_from.mark.Given as goal

abbrev pub invariant-loop-reader : goal.invariant-loop-reader
invariant-loop-reader l = IsLowered (SeenMark l.reader-index l.readers) l.initial.weights l.weights
