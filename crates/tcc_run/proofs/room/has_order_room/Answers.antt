-- There is always room for an order: a history keeps the large limits.
use Rattle.std.proofs.Common.{ap, length, arith}
use Rattle.tcc_run.proofs.ClaimTexts.{order_room}
use Rattle.tcc_run.proofs.room.has_order_room.Goals as goal

pub returns : goal.returns
returns c = λ level order commit.
    order_room c.args.graph.now level order (omega (arith, c.count.ensures.value, c.count.ensures.some))
    (λ rest long. c.order_has_text.ensures level c.args.graph.now rest (omega (arith, c.count.ensures.value, c.count.ensures.some))
    (omega (arith, c.count.ensures.value, c.count.ensures.few)) (omega (arith, ap length c.sessions.ensures.value, c.sessions.ensures.few))
    (λ n some l. rw c.sessions.ensures.value at (c.sessions.ensures.owners n some l)) long) commit
