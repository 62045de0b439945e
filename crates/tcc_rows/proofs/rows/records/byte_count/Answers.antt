use Rattle.tcc_rows.proofs.FieldBytes.{none-marked}
use Rattle.tcc_rows.proofs.rows.records.byte_count.Goals as goal

pub returns-clause-unmarked : goal.returns-clause-unmarked
returns-clause-unmarked c = none-marked _ (λ k. (c.type_inv.bytes k).fits)
