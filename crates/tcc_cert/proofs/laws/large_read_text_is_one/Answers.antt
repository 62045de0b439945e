-- By the lemma on the definitions.
use Rattle.tcc_cert.proofs.LargeOne.{large-one}
use Rattle.tcc_cert.proofs.laws.large_read_text_is_one.Goals as goal

pub returns : goal.returns
returns c bytes certificate is = large-one bytes certificate is
