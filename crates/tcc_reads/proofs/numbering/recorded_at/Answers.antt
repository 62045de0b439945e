use Rattle.std.proofs.Common.{sym, ◌∙◌}
use Rattle.tcc_txn.specs.Snapshots.{finished_at}
use Rattle.tcc_reads.proofs.Counting.{item_at}
use Rattle.tcc_reads.proofs.numbering.recorded_at.Goals as goal

pub returns : goal.returns
returns g c =
    item_at (finished_at c.args.snapshot.now c.args.session) c.args.before c.unwrap.result c.requires (sym c.recorded.ensures ∙ c.unwrap.ensures)
