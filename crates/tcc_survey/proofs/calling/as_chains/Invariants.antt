use Rattle.std.proofs.Common.{◌≡◌, map, take}
use Rattle.tcc_survey.specs.declared.usual_name.UsualName.TheVariants.{CausalChain}
use Rattle.tcc_survey.specs.private.Called.{as_called}
use Rattle.tcc_survey.proofs.calling.as_chains.Given as goal

abbrev pub invariant-loop-writer : goal.invariant-loop-writer
invariant-loop-writer l = l.called.items ≡ map (as_called CausalChain) (take l.writer-index l.found)
