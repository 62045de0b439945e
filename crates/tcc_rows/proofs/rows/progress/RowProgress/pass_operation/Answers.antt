use Rattle.tcc_rows.proofs.LineFacts.{four-fields}
use Rattle.tcc_rows.proofs.rows.progress.RowProgress.pass_operation.Goals as goal

pub returns-clause-passed : goal.returns-clause-passed
returns-clause-passed c limits past is =
    let fields = four-fields _ _ _ _ _ c.requires c.field.ensures c.field-2.ensures c.field-3.ensures c.field-4.ensures in
    rw fields at (c.pass_fields.ensures.passed limits past is)
