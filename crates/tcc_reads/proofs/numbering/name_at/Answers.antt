use Rattle.tcc_reads.proofs.Counting.{named_at}
use Rattle.tcc_reads.proofs.numbering.name_at.Goals as goal

pub returns : goal.returns
returns g c = named_at c.args.snapshot.now c.args.session c.unwrap.result.now c.requires (rw c.unwrap.ensures at c.name.ensures)
