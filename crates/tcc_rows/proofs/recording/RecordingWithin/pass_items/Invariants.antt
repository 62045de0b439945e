-- the items so far were passed, and the snapshot has what they finish
use Rattle.std.proofs.Common.{◌≡◌, ◌<◌, List, true, Some, None}
use Rattle.std.specs.Prelude.{IfSome}
use Rattle.tcc_rows.specs.Ahead.{fault_met, has_ended}
use Rattle.tcc_rows.specs.Answers.{Answers}
use Rattle.tcc_rows.specs.Lines.{Record}
use Rattle.tcc_txn.specs.Nested.{IsNested}
use Rattle.tcc_rows.specs.Reached.{IsWithin}
use Rattle.tcc_rows.specs.Recordings.{IsRecording}
use Rattle.tcc_rows.specs.declared.rows.Item.{Item}
use Rattle.tcc_rows.specs.declared.rows.RowsStage.TheVariants as stage
use Rattle.tcc_rows.proofs.RecordingSteps.{HasPassed}
use Rattle.tcc_rows.proofs.recording.RecordingWithin.pass_items.Given as goal

abbrev pub invariant-items : goal.invariant-items
invariant-items g l =
    record {
      way : (taken : List Item) (ahead : Answers) → IsRecording g.B.Bounds.limits g.R.Read.remaining l.initial.self taken ahead → HasPassed g.B.Bounds.limits g.R.Read.remaining l.self taken ahead;
      continues : IsNested l.initial.self.snapshot l.self.snapshot;
      within : (all : List Record) → IsWithin g.R.Read.remaining l.initial.self.rows all → IsWithin g.R.Read.remaining l.self.rows all;
      stopped : IfSome (fault_met l.initial.self.rows) (λ fault. fault_met l.self.rows ≡ Some fault);
      going : fault_met l.initial.self.rows ≡ None → fault_met l.self.rows ≡ None;
      ended : has_ended l.initial.self.rows ≡ true → has_ended l.self.rows ≡ true;
      reading : 0 < l._turn → l.self.rows.stage ≡ stage.Reading;
    }
