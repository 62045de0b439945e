use Rattle.tcc_cert.proofs.PartFacts.{parts-read}
use Rattle.tcc_cert.proofs.laws.parts_of_what_is_read.Goals as goal

pub returns : goal.returns
returns c = parts-read
