use Rattle.std.proofs.Common.{refl}
use Rattle.tcc_cert.proofs.GivenFacts.{begun}
use Rattle.tcc_cert.proofs.cycle_writer.CycleWriter.behind.Goals as goal

pub returns-clause-begun : goal.returns-clause-begun
returns-clause-begun g c = λ before count k sent. begun g.W.Write.contents before count k _ _ _ sent refl refl refl
