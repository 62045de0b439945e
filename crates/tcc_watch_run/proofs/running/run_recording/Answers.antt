-- All was answered, or the run ended before.
use Rattle.tcc_watch_run.specs.private.Stages.{is_quiet}
use Rattle.tcc_watch_run.proofs.Runs.{concluded, early}
use Rattle.tcc_watch_run.proofs.running.run_recording.Goals as goal

pub returns-in-Ok : goal.returns-in-Ok
returns-in-Ok g c bytes recording within fresh =
    concluded (is_quiet c.args.answerer.now) c.args.run.now.options.now bytes _ _ c.in-Ok.last c.code.result (c.in-Ok.ensures bytes recording within fresh) c.code.ensures

pub returns-in-Err : goal.returns-in-Err
returns-in-Err g c bytes recording within fresh =
    early (is_quiet c.args.answerer.now) c.args.run.now.options.now bytes _ _ c.in-Err.code (c.in-Err.ensures bytes recording within fresh)
