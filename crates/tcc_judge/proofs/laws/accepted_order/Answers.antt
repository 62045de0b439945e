use Rattle.std.proofs.Common.{arith}
use Rattle.tcc_judge.proofs.Ordered.{accepted_order}
use Rattle.tcc_judge.proofs.laws.accepted_order.Goals as goal

pub returns : goal.returns
returns c =
    accepted_order c.args.graph.now c.sessions.ensures.numbered (omega (arith, c.count.ensures.value, c.count.ensures.some))
    (λ n some l. rw c.sessions.ensures.value at (c.sessions.ensures.owners n some l))
