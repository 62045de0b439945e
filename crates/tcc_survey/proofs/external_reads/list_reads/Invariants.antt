use Rattle.tcc_survey.specs.private.Listed.{AreReadsUpTo}
use Rattle.tcc_survey.proofs.external_reads.list_reads.Given as goal

abbrev pub invariant-loop-index : goal.invariant-loop-index
invariant-loop-index l = AreReadsUpTo l.graph l.reader l.index l.all.items
