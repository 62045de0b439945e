use Rattle.tcc_run.proofs.Closing.{own}
use Rattle.tcc_run.proofs.laws.own_certificate.Goals as goal

pub returns : goal.returns
returns c = λ s level a checked is says. own s level a checked (c.certified.ensures s level a is) says
