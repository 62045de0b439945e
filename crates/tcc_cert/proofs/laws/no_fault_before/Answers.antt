-- The line at which the parts end is that of the first fault.
use Rattle.tcc_cert.proofs.PartFacts.{first-fault}
use Rattle.tcc_cert.proofs.laws.no_fault_before.Goals as goal

pub returns : goal.returns
returns c bytes answered first is read = first-fault bytes answered first is read
