use Rattle.tcc_check.proofs.LinksFrom.{AreLightTo}
use Rattle.tcc_check.proofs.links_from.light_ends.Given as goal

abbrev pub invariant-loop-end : goal.invariant-loop-end
invariant-loop-end l = AreLightTo l.end l.weights l.least l.ends.items
