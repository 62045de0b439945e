-- the snapshots at the seals so far were answered, the other items are ahead, and what was said last has its tables, where a
-- certificate is wanted
use Rattle.std.proofs.Common.{◌≡◌, ℕ, List, [], None}
use Rattle.std.specs.Prelude.{IfSome}
use Rattle.tcc_rows.specs.Ahead.{fault_met}
use Rattle.tcc_rows.specs.Lines.{Record}
use Rattle.tcc_rows.specs.Reached.{IsWithin}
use Rattle.tcc_rows.specs.Recordings.{IsRecording}
use Rattle.tcc_rows.specs.Answers.{answers_within}
use Rattle.tcc_print.proofs.Courses.{HasAnswered}
use Rattle.tcc_run.specs.private.Stages.{IsCertifiable, course}
use Rattle.tcc_run.proofs.running.answer_all.Given as goal

abbrev pub invariant-checkpoints : goal.invariant-checkpoints
invariant-checkpoints g l = record {
  way : (text : List ℕ) → IsRecording g.B.Bounds.limits g.R.Read.remaining l.initial.recording [] (answers_within g.B.Bounds.limits text)
      → HasAnswered g.R.Read.remaining (course g.B.Bounds.limits l.run.options.now) text l.recording (g.W.Write.contents l.initial.out) (g.W.Write.contents l.out) l.last;
  within : (records : List Record) → IsWithin g.R.Read.remaining l.initial.recording.rows records → IsWithin g.R.Read.remaining l.recording.rows records;
  certifiable : IfSome l.last (λ last. IsCertifiable l.is_certified last.outcome);
  going : fault_met l.initial.recording.rows ≡ None → fault_met l.recording.rows ≡ None;
}
