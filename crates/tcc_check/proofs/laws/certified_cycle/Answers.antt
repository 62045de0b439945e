use Rattle.tcc_check.proofs.CertifiedCycle.{least_cycle}
use Rattle.tcc_check.proofs.laws.certified_cycle.Goals as goal

pub returns : goal.returns
returns c = least_cycle
