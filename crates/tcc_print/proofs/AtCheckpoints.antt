-- What a run has answered after one more checkpoint of its recording.
use Rattle.std.proofs.Common.{◌≡◌, ℕ, List, Option, Some, Result, Ok, Err, refl, subst, MatchResult}
use Rattle.std.specs.Prelude.{IsErrAnd}
use Rattle.tcc_rows.specs.Answers.{Answers}
use Rattle.tcc_rows.specs.Items.{finished_in}
use Rattle.tcc_rows.specs.Recordings.{IsRecording, TakesCheckpoint}
use Rattle.tcc_rows.specs.declared.recording.Checkpoint.{Checkpoint}
use Rattle.tcc_rows.specs.declared.recording.Checkpoint.TheVariants as checkpoint
use Rattle.tcc_rows.specs.declared.recording.RecordingWithin.{RecordingWithin}
use Rattle.tcc_rows.specs.declared.rows.Item.{Item}
use Rattle.tcc_txn.specs.Snapshots.{Sessions}
use Rattle.tcc_print.specs.declared.previous.PreviousAnswer.{PreviousAnswer}
use Rattle.tcc_print.specs.Saying.{Course, SaysAt}
use Rattle.tcc_print.specs.private.Courses.{AllAnswered, EndsEarly}
use Rattle.tcc_print.proofs.Courses.{HasAnswered, ended_by, ends-seal, says-end, says-seal}

module _ {R B O : Type 0} {remaining : R → Option (List ℕ)} {course : Course O} {text : List ℕ} {old : RecordingWithin R B} {before now : Option (List ℕ)}
    {answered : Option (PreviousAnswer O)} (way : HasAnswered remaining course text old before now answered) (new : RecordingWithin R B) (m : Checkpoint)
    (takes : (taken : List Item) (ahead : Answers) → IsRecording course.limits remaining old taken ahead
    → TakesCheckpoint course.limits remaining taken ahead (Ok m) new)
    (s : Sessions) (finished : (taken : List Item) (ahead : Answers) → IsRecording course.limits remaining new taken ahead → s ≡ finished_in taken)
    (after : Option (List ℕ)) where
  -- what was said at a seal is what was said last from then on
  pub goes-on : m ≡ checkpoint.Seal → (last : PreviousAnswer O) → SaysAt course m s answered now after (Ok last)
      → HasAnswered remaining course text new before after (Some last)
  goes-on is last says =
      says-seal remaining course text old new before now answered way m takes s finished is last after
      (subst (λ (n : Checkpoint). SaysAt course n s answered now after (Ok last)) is says)

  -- at the end all is answered
  pub has-ended : m ≡ checkpoint.End → (last : PreviousAnswer O) → SaysAt course m s answered now after (Ok last) → AllAnswered course text before after last
  has-ended is last says =
      let said : SaysAt course checkpoint.End s answered now after (Ok last) =
      subst (λ (n : Checkpoint). SaysAt course n s answered now after (Ok last)) is says in
      says-end remaining course text old new before now answered way m takes s finished is after (Ok last) said.0 said.1

  -- or the run ended at that checkpoint
  pub ends-there : (r : Result (PreviousAnswer O) ℕ) (why : ℕ) → IsErrAnd r (λ code. code ≡ why) → SaysAt course m s answered now after (Err why)
      → MatchResult r (AllAnswered course text before after) (EndsEarly course text before after)
  ends-there r why gives = by m refl
    where
      by : (n : Checkpoint) → m ≡ n → SaysAt course n s answered now after (Err why)
          → MatchResult r (AllAnswered course text before after) (EndsEarly course text before after)
      by checkpoint.Seal is says = ends-seal remaining course text old new before now answered way m takes s finished is r why after gives says
      by checkpoint.End is says =
          ended_by (AllAnswered course text before after) (EndsEarly course text before after) r why gives
          (says-end remaining course text old new before now answered way m takes s finished is after (Err why) says.0 says.1)
