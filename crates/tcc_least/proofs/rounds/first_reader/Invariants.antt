use Rattle.tcc_least.proofs.RoundLemmas.{NoneBack}
use Rattle.tcc_least.proofs.rounds.first_reader.Given as goal

abbrev pub invariant-loop-reader : goal.invariant-loop-reader
invariant-loop-reader l = NoneBack l.graph l.below l.source l.reader-items l.reader-index
