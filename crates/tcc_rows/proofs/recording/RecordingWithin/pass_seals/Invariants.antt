-- the items so far were taken, and the others are ahead
use Rattle.std.proofs.Common.{◌≡◌, ℕ, List, [], None}
use Rattle.tcc_rows.specs.Ahead.{fault_met}
use Rattle.tcc_rows.specs.Answers.{answers_within}
use Rattle.tcc_rows.specs.Lines.{Record}
use Rattle.tcc_rows.specs.Reached.{IsWithin}
use Rattle.tcc_rows.specs.Recordings.{IsRecording}
use Rattle.tcc_rows.proofs.RecordingSteps.{HasTaken}
use Rattle.tcc_rows.proofs.recording.RecordingWithin.pass_seals.Given as goal

abbrev pub invariant-seals : goal.invariant-seals
invariant-seals g l =
    record {
      way : (text : List ℕ) → IsRecording g.B.Bounds.limits g.R.Read.remaining l.initial.self [] (answers_within g.B.Bounds.limits text) → HasTaken g.B.Bounds.limits g.R.Read.remaining l.self (answers_within g.B.Bounds.limits text);
      within : (all : List Record) → IsWithin g.R.Read.remaining l.initial.self.rows all → IsWithin g.R.Read.remaining l.self.rows all;
      going : fault_met l.initial.self.rows ≡ None → fault_met l.self.rows ≡ None;
    }
