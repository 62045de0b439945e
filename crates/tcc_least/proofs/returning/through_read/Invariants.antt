use Rattle.tcc_graph.specs.Keys.{key_at}
use Rattle.tcc_least.specs.private.Places.{IsAsGood}
use Rattle.tcc_least.proofs.ReturnLemmas.{AreThroughRead}
use Rattle.tcc_least.proofs.returning.through_read.Given as goal

abbrev pub invariant-loop-other : goal.invariant-loop-other
invariant-loop-other l =
    IsAsGood l.graph l.initial.least l.least
    × AreThroughRead l.graph l.reader l.other-items l.read.1 (key_at l.graph l.read.0) l.other-index l.least
