use Rattle.tcc_cert.specs.CycleRules.{ends_at}
use Rattle.tcc_judge.proofs.Certified.{least_cycle}
use Rattle.tcc_judge.proofs.laws.accepted_least.Goals as goal

pub returns : goal.returns
returns c = λ h k runs good least. (ends_at 0 k.links, least_cycle h k good runs least)
