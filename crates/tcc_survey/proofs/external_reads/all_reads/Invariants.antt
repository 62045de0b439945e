use Rattle.tcc_survey.specs.private.Listed.{AreReadsUpTo}
use Rattle.tcc_survey.proofs.external_reads.all_reads.Given as goal

abbrev pub invariant-loop-reader : goal.invariant-loop-reader
invariant-loop-reader l = AreReadsUpTo l.graph l.reader 0 l.all.items
