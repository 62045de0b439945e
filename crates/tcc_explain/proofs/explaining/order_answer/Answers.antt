use Rattle.std.proofs.Common.{length, ap, refl}
use Rattle.tcc_graph.specs.Levels.{judged}
use Rattle.tcc_explain.proofs.explaining.order_answer.Goals as goal

pub returns : goal.returns
returns c = rw (c.new.ensures, c.new-order.ensures) (
  ((c.order_or_cycle.ensures (judged c.args.graph.now c.args.level)).0 (c.args.order.items, c.requires.order.commit), c.requires.order),
  refl,
  ap length c.sessions.ensures.value,
  c.requires.labels,
  c.in_ok-clocks.ensures,
)
