use Rattle.std.proofs.Common.{arith}
use Rattle.tcc_judge.proofs.Followed.{own_order}
use Rattle.tcc_judge.proofs.laws.own_order.Goals as goal

pub returns : goal.returns
returns c =
    own_order c.args.graph.now c.sessions.ensures.numbered (omega (arith, c.count.ensures.value, c.count.ensures.some))
    (λ n some l. rw c.sessions.ensures.value at (c.sessions.ensures.owners n some l))
