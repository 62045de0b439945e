use Rattle.tcc_survey.specs.private.Calling.{AreChosen}
use Rattle.tcc_survey.proofs.calling.chosen_reads.Given as goal

abbrev pub invariant-loop-index : goal.invariant-loop-index
invariant-loop-index l = AreChosen l.reads l.found l.index l.chosen.items
