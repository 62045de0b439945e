-- By the lemma on the definitions.
use Rattle.tcc_cert.proofs.LargeBack.{large-back}
use Rattle.tcc_cert.proofs.laws.large_text_is_read.Goals as goal

pub returns : goal.returns
returns c certificate has = large-back certificate has
