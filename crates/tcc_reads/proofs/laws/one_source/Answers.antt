use Rattle.tcc_reads.proofs.OneSource.{one_source}
use Rattle.tcc_reads.proofs.laws.one_source.Goals as goal

pub returns : goal.returns
returns c = one_source
