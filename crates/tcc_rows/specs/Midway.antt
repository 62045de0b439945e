-- A reader of rows between two records. What it represents is what the calls of `Rows` say in terms of `IsAhead`.
use Rattle.std.specs.Prelude.{ℕ, ◌+◌, ◌^◌, ◌<◌, ◌≡◌, List, length, Option}
use Rattle.tcc_rows.specs.Answers.{Answers, answers_after_within}
use Rattle.tcc_rows.specs.Lines.{Record}
use Rattle.tcc_rows.specs.RecordsLeft.{HasLeft}
use Rattle.tcc_rows.specs.SessionStates.{IsAfter}
use Rattle.tcc_txn.specs.declared.limits.Limits.{Limits}
use Rattle.tcc_rows.specs.declared.rows.Rows.{Rows}
use Rattle.tcc_rows.specs.Line.{Line}
use Rattle.tcc_rows.specs.declared.rows.records.RecordsStage.TheVariants as records_stage

-- these are the answers to the records that are left, after the lawful lines so far
pub record IsMidway {R : Type 0} (limits : Limits) (remaining : R → Option (List ℕ)) (rows : Rows R) (ahead : Answers) : Type 0 where
  pub past : List Line
  pub left : List Record
  pub records : HasLeft remaining rows.records left
  pub progress : IsAfter limits past rows.progress
  pub counted : rows.records.count ≡ length past
  pub going : rows.records.stage ≡ records_stage.Going
  pub fits : length past + length left + 1 < 2 ^ 64
  pub answers : ahead ≡ answers_after_within limits past left
