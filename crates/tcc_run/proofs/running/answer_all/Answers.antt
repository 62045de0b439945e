-- The result of each checkpoint of the recording.
use Rattle.tcc_print.proofs.AtCheckpoints.{ends-there, goes-on, has-ended}
use Rattle.tcc_print.proofs.Courses.{ends-fault, finished-end, none-answered, wants_memory}
use Rattle.tcc_rows.specs.Answers.{records_within}
use Rattle.tcc_run.specs.private.Stages.{course}
use Rattle.tcc_run.proofs.running.answer_all.Goals as goal

pub checkpoints-init : goal.checkpoints-init
checkpoints-init g c = record {
  way = λ text recording. none-answered g.R.Read.remaining (course g.B.Bounds.limits c.args.run.now.options.now) text c.args.recording.now
      (g.W.Write.contents c.args.out.now) recording;
  within = λ records within. within;
  certifiable = tt;
  going = λ none. none;
}

pub checkpoints-preserved : goal.checkpoints-preserved
checkpoints-preserved g c = record {
  way = λ text recording. goes-on (c.checkpoints.invariant.way text recording) c.read_on.new.recording c.in-Ok.checkpoint c.in-Ok.ensures.checkpoint
      c.snapshot.result.now c.snapshot.ensures.finished _ c.in-Seal.is c.in_ok-said-in-Ok.said c.in_ok-said-in-Ok.ensures.said;
  within = λ records within. c.in-Ok.ensures.within records (c.checkpoints.invariant.within records within);
  certifiable = c.in_ok-said-in-Ok.ensures.certifiable;
  going = λ none. c.in-Ok.ensures.goes_on;
}

pub returns-in_err-said-in-Ok-clause-answers : goal.returns-in_err-said-in-Ok-clause-answers
returns-in_err-said-in-Ok-clause-answers g c text recording within fresh =
    ends-there (c.checkpoints.invariant.way text recording) c.read_on.new.recording c.in-Ok.checkpoint c.in-Ok.ensures.checkpoint
    c.snapshot.result.now c.snapshot.ensures.finished _ c.from_residual.result c.in_err-said-in-Ok.field-0.0 c.from_residual.ensures.1
    c.in_err-said-in-Ok.ensures.said

pub returns-in-End-clause-answers : goal.returns-in-End-clause-answers
returns-in-End-clause-answers g c text recording within fresh =
    has-ended (c.checkpoints.invariant.way text recording) c.read_on.new.recording c.in-Ok.checkpoint c.in-Ok.ensures.checkpoint
    c.snapshot.result.now c.snapshot.ensures.finished _ c.in-End.is c.in_ok-said-in-Ok.said c.in_ok-said-in-Ok.ensures.said

pub returns-in-End-clause-finished : goal.returns-in-End-clause-finished
returns-in-End-clause-finished g c text recording =
    finished-end g.R.Read.remaining (course g.B.Bounds.limits c.args.run.now.options.now) text
    c.checkpoints.recording c.read_on.new.recording _ _ c.checkpoints.last (c.checkpoints.invariant.way text recording)
    c.in-Ok.checkpoint c.in-Ok.ensures.checkpoint c.snapshot.result.now c.snapshot.ensures.finished c.in-End.is

pub returns-in-Err-clause-answers : goal.returns-in-Err-clause-answers
returns-in-Err-clause-answers g c text recording within fresh =
    ends-fault g.R.Read.remaining (course g.B.Bounds.limits c.args.run.now.options.now) text
    c.checkpoints.recording c.read_on.new.recording _ _ c.checkpoints.last (c.checkpoints.invariant.way text recording)
    c.in-Err.fault _ c.stop.result c.in-Err.ensures.checkpoint (c.checkpoints.invariant.within (records_within g.B.Bounds.limits text) within)
    (c.in-Err.ensures.failed (c.checkpoints.invariant.going fresh)) c.stop.ensures.printed

pub returns-clause-answers : goal.returns-clause-answers
returns-clause-answers g c text recording within fresh =
    wants_memory g.R.Read.remaining (course g.B.Bounds.limits c.args.run.now.options.now) text
    c.checkpoints.recording c.checkpoints.recording _ _ c.checkpoints.last (c.checkpoints.invariant.way text recording) _
    c.print_endless.result c.print_endless.ensures
