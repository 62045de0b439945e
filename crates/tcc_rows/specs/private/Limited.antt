-- Whether a reader has reached its end.
use Rattle.std.specs.Prelude.{Bool, true, false}
use Rattle.tcc_rows.specs.declared.rows.limited.Limited.{Limited}
use Rattle.tcc_rows.specs.declared.rows.limited.BytesStage.TheVariants.{Going, Ended, Over}
use Rattle.tcc_rows.specs.declared.rows.limited.BytesStage.{BytesStage}

abbrev pub is_end : BytesStage → Bool
is_end Going = false
is_end Ended = true
is_end Over = false

-- the inner reader has said that it has no more bytes
abbrev pub met_end : {R : Type 0} → Limited R → Bool
met_end s = is_end s.stage
