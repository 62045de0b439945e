use Rattle.tcc_least.specs.private.Places.{IsSound}
use Rattle.tcc_least.proofs.ReturnLemmas.{ArePastInitial}
use Rattle.tcc_least.proofs.returning.initial.Given as goal

abbrev pub invariant-loop-read : goal.invariant-loop-read
invariant-loop-read l = IsSound l.graph l.least × ArePastInitial l.graph l.read-items l.read-index l.least
