-- All that the records finish is surveyed, or the run stops by their fault.
use Rattle.std.proofs.Common.{subst}
use Rattle.tcc_survey_run.specs.Noting.{NotesSnapshot}
use Rattle.tcc_survey_run.specs.private.Saying.{SaysSurvey}
use Rattle.tcc_survey_run.proofs.RunNotes.{noted_answer, noted_stop}
use Rattle.tcc_survey_run.proofs.Runs.{stopped, surveyed}
use Rattle.tcc_survey_run.proofs.running.run_recording.Goals as goal

pub returns-in-Ok-clause-run : goal.returns-in-Ok-clause-run
returns-in-Ok-clause-run g c bytes recording within fresh =
    surveyed c.args.options.now bytes g.B.Bounds.limits _ _ _ c.answer_checkpoint.result c.requires.limits
    (c.in-Ok.ensures.recorded bytes recording within fresh)
    (subst (λ s. SaysSurvey c.args.options.now s (g.W.Write.contents c.args.out.now) (g.W.Write.contents c.answer_checkpoint.new.out) c.answer_checkpoint.result) c.snapshot.ensures.value c.answer_checkpoint.ensures.said)

pub returns-in-Ok-clause-noted : goal.returns-in-Ok-clause-noted
returns-in-Ok-clause-noted g c bytes recording within fresh =
    noted_answer c.args.options.now bytes g.B.Bounds.limits _ _ _ _ _ c.answer_checkpoint.result c.requires.limits
    (c.in-Ok.ensures.recorded bytes recording within fresh)
    (subst (λ s. SaysSurvey c.args.options.now s (g.W.Write.contents c.args.out.now) (g.W.Write.contents c.answer_checkpoint.new.out) c.answer_checkpoint.result) c.snapshot.ensures.value c.answer_checkpoint.ensures.said)
    (subst (λ s. NotesSnapshot s c.answer_checkpoint.result (g.N.Write.contents c.args.notes.now) (g.N.Write.contents c.answer_checkpoint.new.notes)) c.snapshot.ensures.value c.answer_checkpoint.ensures.noted)

pub returns-in-Err-clause-run : goal.returns-in-Err-clause-run
returns-in-Err-clause-run g c bytes recording within fresh =
    stopped c.args.options.now bytes g.B.Bounds.limits c.in-Err.fault _ _ c.stop.result c.requires.limits
    (c.in-Err.ensures.recorded bytes recording within fresh) c.stop.ensures.printed

pub returns-in-Err-clause-noted : goal.returns-in-Err-clause-noted
returns-in-Err-clause-noted g c bytes recording within fresh =
    noted_stop c.args.options.now bytes g.B.Bounds.limits c.in-Err.fault _ _ _ _ _ c.stop.result c.requires.limits
    (c.in-Err.ensures.recorded bytes recording within fresh)
    (λ is. c.in-Err.ensures.faulty fresh is bytes recording within) c.stop.ensures.noted c.stop.ensures.printed
