use Rattle.tcc_watch_run.proofs.Watched.{as_explained}
use Rattle.tcc_watch_run.proofs.told.explained.Goals as goal

pub returns : goal.returns
returns g c =
    as_explained c.args.run.now.options.now c.args.snapshot.now c.in_ok-text.field-0 c.args.has_told c.in_ok-text.ensures
