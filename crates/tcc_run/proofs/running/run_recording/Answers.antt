-- All was answered, and the files of what was said last come after; or the run ended before.
use Rattle.std.proofs.Common.{◌∙◌}
use Rattle.tcc_run.proofs.Runs.{concluded, early}
use Rattle.tcc_run.proofs.running.run_recording.Goals as goal

pub returns-in-Ok : goal.returns-in-Ok
returns-in-Ok g c bytes recording within fresh =
    concluded g.B.Bounds.limits c.args.run.now.options.now bytes _ _ _ _ _ _ c.in-Ok.last _ c.conclude.result c.into_outcome.ensures
    (c.snapshot.ensures.value ∙ c.in-Ok.ensures.finished bytes recording)
    (c.in-Ok.ensures.answers bytes recording within fresh) c.conclude.ensures

pub returns-in-Err : goal.returns-in-Err
returns-in-Err g c bytes recording within fresh =
    early g.B.Bounds.limits c.args.run.now.options.now bytes _ _ _ c.in-Err.code (c.in-Err.ensures.answers bytes recording within fresh)
