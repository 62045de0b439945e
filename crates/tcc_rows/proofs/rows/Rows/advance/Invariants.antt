use Rattle.std.proofs.Common.{◌≡◌, ◌-◌, ◌^◌, List}
use Rattle.tcc_rows.specs.Midway.{IsMidway}
use Rattle.tcc_rows.specs.Answers.{Answers}
use Rattle.tcc_rows.specs.Lines.{Record}
use Rattle.tcc_rows.specs.Reached.{StandsIn}
use Rattle.tcc_txn.specs.declared.limits.Limits.{Limits}
use Rattle.tcc_rows.specs.declared.rows.RowsStage.TheVariants as stage
use Rattle.tcc_rows.proofs.rows.Rows.advance.Given as goal

abbrev pub invariant-records : goal.invariant-records
invariant-records g l =
    record {
      stage : l.self.stage ≡ stage.Reading;
      reading : (limits : Limits) (ahead : Answers) → IsMidway limits g.R.Read.remaining l.initial.self ahead → IsMidway limits g.R.Read.remaining l.self ahead;
      stands : (all : List Record) → StandsIn g.R.Read.remaining l.initial.self.records all → StandsIn g.R.Read.remaining l.self.records all;
    }

abbrev pub decreases-records : goal.decreases-records
decreases-records g l = 2 ^ 64 - l.self.records.count
