use Rattle.tcc_reads.specs.Sources.{history}
use Rattle.tcc_run.proofs.Explains as first
use Rattle.tcc_run.proofs.laws.explained.Goals as goal

pub returns : goal.returns
returns c = λ s level a is. first.explained s level a is (c.certified.ensures s level a is.1) (c.certified-2.ensures (history s))
