-- Line by line, what was written is read.
use Rattle.tcc_cert.proofs.ClaimsBack.{text-back}
use Rattle.tcc_cert.proofs.laws.text_is_read.Goals as goal

pub returns : goal.returns
returns c = text-back
