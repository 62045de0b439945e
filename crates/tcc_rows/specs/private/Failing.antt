-- Where the reading of records fails, between two of them.
use Rattle.std.specs.Prelude.{ℕ, ◌+◌, ◌≡◌, List, ◌++◌, length}
use Rattle.tcc_rows.specs.Answers.{Answers, answers_after_within}
use Rattle.tcc_rows.specs.Lines.{Record}
use Rattle.tcc_rows.specs.Line.{Line}
use Rattle.tcc_txn.specs.declared.limits.Limits.{Limits}

pub record FailsIn (limits : Limits) (all : List Record) (ahead : Answers) (row : ℕ) : Type 0 where
  pub first : List Record
  pub left : List Record
  pub past : List Line
  pub whole : all ≡ first ++ left
  pub long : length past ≡ length first
  pub answers : ahead ≡ answers_after_within limits past left
  pub here : row ≡ length first + 1
