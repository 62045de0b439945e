use Rattle.tcc_rows.proofs.LineFacts.{field-there}
use Rattle.tcc_rows.proofs.rows.line.field.Goals as goal

pub unwrap-requires : goal.unwrap-requires
unwrap-requires c = field-there _ _ _ _ c.requires c.get.ensures.value
