use Rattle.std.proofs.Common.{ap, sym, ◌∙◌}
use Rattle.tcc_txn.specs.Transactions.{txn_fault}
use Rattle.tcc_rows.proofs.WritesFacts.{made, no_none, writes-lawful}
use Rattle.tcc_rows.proofs.rows.draft.Draft.finish_writes.Goals as goal

pub unwrap-requires : goal.unwrap-requires
unwrap-requires c =
    made _ _ _ c.new.result c.new.ensures (λ e is none. no_none (sym none ∙ is.0)) (ap txn_fault c.keep_writes.ensures ∙ writes-lawful c.self.inside.ops.items c.self.invariant)
