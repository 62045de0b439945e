use Rattle.std.proofs.Common.{◌≤◌, arith}
use Rattle.tcc_core.proofs.Filing.{next_found}
use Rattle.tcc_core.proofs.queue.Queue.nearest.Goals.{then-cap-self, else-cap-self}
use Rattle.tcc_core.proofs.queue.Queue.nearest.Goals as goal

pub returns-in-Some-clause-some : goal.returns-in-Some-clause-some
returns-in-Some-clause-some c =
    let last : (c.if-cap-self.last ≤ c.self.inside.most) × (c.if-cap-self.last ≤ c.args.cap) = elim c.if-cap-self.branch [
      | then-cap-self w ↦ (omega (arith, w.last-is, w.if-cap-self.true), omega (arith, w.last-is))
      | else-cap-self w ↦ (omega (arith, w.last-is), omega (arith, w.last-is, w.if-cap-self.false))
    ] in
    rw (← c.self.view_is)
    (next_found c.self.invariant.0 c.loop-cost.cost c.in-Some.v c.loop-cost.auto.cost (omega (arith, c.loop-cost-test.true, last.0))
    (omega (arith, c.loop-cost-test.true, last.1)) c.in-Some.ensures.some (rw (← c.self.view_is) at c.loop-cost.invariant))
