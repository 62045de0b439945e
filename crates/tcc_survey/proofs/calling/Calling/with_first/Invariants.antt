use Rattle.tcc_survey.proofs.ManyLemmas.{ArePassed}
use Rattle.tcc_survey.proofs.calling.Calling.with_first.Given as goal

abbrev pub invariant-loop-index : goal.invariant-loop-index
invariant-loop-index l = ArePassed l.self l.among l.lane l.index
