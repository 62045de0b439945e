use Rattle.std.proofs.Common.{◌+◌, inr, refl}
use Rattle.tcc_watch_run.proofs.Watched.{consistent_by, order_apart}
use Rattle.tcc_watch_run.proofs.told.consistent.Goals as goal

pub returns : goal.returns
returns c = (
  consistent_by c.args.options.now c.args.snapshot.now c.in_ok-consistent_line.field-0.items c.consistent_status.result c.args.committed
      c.sessions.result c.requires c.sessions.ensures.value c.in_ok-consistent_line.ensures c.consistent_status.ensures,
  refl,
  inr (order_apart c.args.options.now.required (c.args.committed + 1) c.consistent_status.result c.consistent_status.ensures, c.new.ensures.items),
)
