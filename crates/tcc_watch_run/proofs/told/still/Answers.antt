use Rattle.std.proofs.Common.{inr, refl}
use Rattle.tcc_print.specs.declared.status.Status.TheVariants.{Anomaly}
use Rattle.tcc_watch_run.proofs.Watched.{anomaly_apart, still_by}
use Rattle.tcc_watch_run.proofs.told.still.Goals as goal

pub returns : goal.returns
returns c = (
  still_by c.args.options.now c.args.snapshot.now c.in_ok-still_line.field-0.items Anomaly c.args.committed
      c.sessions.result c.requires c.sessions.ensures.value c.in_ok-still_line.ensures refl,
  refl,
  inr (anomaly_apart, c.new.ensures.items),
)
