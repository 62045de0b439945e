-- Line by line, what was read was written.
use Rattle.tcc_cert.proofs.OneClaim.{one-text}
use Rattle.tcc_cert.proofs.laws.read_text_is_one.Goals as goal

pub returns : goal.returns
returns c = one-text
