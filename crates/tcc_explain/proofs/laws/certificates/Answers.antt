use Rattle.tcc_explain.proofs.CertifiedCycle as cycle
use Rattle.tcc_explain.proofs.CertifiedOrder as order
use Rattle.tcc_explain.proofs.Numbered.{numbered}
use Rattle.tcc_explain.proofs.laws.certificates.Goals as goal

pub returns : goal.returns
returns c = record { cycle = cycle.certified; order = order.certified; numbered = numbered }
