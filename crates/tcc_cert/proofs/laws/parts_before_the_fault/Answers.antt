use Rattle.tcc_cert.proofs.PartFacts.{parts-fault}
use Rattle.tcc_cert.proofs.laws.parts_before_the_fault.Goals as goal

pub returns : goal.returns
returns c = parts-fault
