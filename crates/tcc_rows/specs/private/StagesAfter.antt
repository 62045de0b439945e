-- How far a reader of rows has come, by what it gave last.
use Rattle.std.specs.Prelude.{Option, None, Some}
use Rattle.tcc_rows.specs.declared.rows.Item.{Item}
use Rattle.tcc_rows.specs.declared.rows.RowsStage.{RowsStage}
use Rattle.tcc_rows.specs.declared.rows.RowsStage.TheVariants as stage
use Rattle.tcc_rows.specs.Ahead.{stage_after}

abbrev pub stage_after_line : Option Item → RowsStage
stage_after_line None = stage.Reading
stage_after_line (Some given) = stage_after given
