use Rattle.tcc_check.specs.private.Weights.{IsLowered}
use Rattle.tcc_check.proofs.LinksFrom.{SeenSource}
use Rattle.tcc_check.proofs.links_from.lower_sources.Given as goal

abbrev pub invariant-loop-source : goal.invariant-loop-source
invariant-loop-source l = IsLowered (SeenSource l.source l.graph l.row) l.initial.weights l.weights
