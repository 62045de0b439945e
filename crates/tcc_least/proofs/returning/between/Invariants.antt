use Rattle.tcc_least.specs.private.Places.{IsAsGood}
use Rattle.tcc_least.proofs.ReturnLemmas.{AreBetween}
use Rattle.tcc_least.proofs.returning.between.Given as goal

abbrev pub invariant-loop-read : goal.invariant-loop-read
invariant-loop-read l = IsAsGood l.graph l.initial.least l.least × AreBetween l.graph l.reader l.read-items l.read-index l.least
