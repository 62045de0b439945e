use Rattle.tcc_least.proofs.ReturnLemmas.{AreInitial}
use Rattle.tcc_least.proofs.returning.is_source.Given as goal

abbrev pub invariant-loop-reader : goal.invariant-loop-reader
invariant-loop-reader l = AreInitial l.reader-items l.reader-index
