use Rattle.tcc_cert.specs.CycleRules.{ends_at}
use Rattle.tcc_judge.proofs.Certified.{right_cycle}
use Rattle.tcc_judge.proofs.laws.accepted_cycle.Goals as goal

pub returns : goal.returns
returns c = λ h k good. ((ends_at 0 k.links, right_cycle h k good), good.costs)
