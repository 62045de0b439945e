use Rattle.tcc_explain.proofs.CertifiedAnswer.{certified}
use Rattle.tcc_explain.proofs.laws.certified.Goals as goal

pub returns : goal.returns
returns c = certified
