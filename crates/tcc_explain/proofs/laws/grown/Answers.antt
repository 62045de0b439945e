use Rattle.tcc_explain.proofs.GrownAnswer.{nested, steps}
use Rattle.tcc_explain.proofs.laws.grown.Goals as goal

pub returns-clause-nested : goal.returns-clause-nested
returns-clause-nested c = λ small large level a n grows. nested small large level a grows n

pub returns-clause-steps : goal.returns-clause-steps
returns-clause-steps c = λ small large level a b grows. steps small large level a grows b
