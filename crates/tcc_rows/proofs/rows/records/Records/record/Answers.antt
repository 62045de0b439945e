use Rattle.tcc_rows.proofs.FieldBytes.{none-cut}
use Rattle.tcc_rows.proofs.rows.records.Records.record.Goals as goal

pub returns-clause-whole : goal.returns-clause-whole
returns-clause-whole g c = none-cut _ 0 _ _ (rw c.as_slice.ensures at c.byte_count-bytes.ensures.unmarked)
