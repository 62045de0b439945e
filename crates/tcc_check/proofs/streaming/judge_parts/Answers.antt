-- The claim, and then what comes after it.
use Rattle.std.proofs.Common.{ap, ◌∙◌}
use Rattle.tcc_cert.specs.Parts.{parts_read, with_clocks}
use Rattle.tcc_check.specs.Streams.{IsJudged}
use Rattle.tcc_check.proofs.JudgedFacts.{cycle-behind, fault-behind, faulted, order-behind, stream-fault}
use Rattle.tcc_check.proofs.streaming.judge_parts.Goals as goal

pub returns-in_err-head : goal.returns-in_err-head
returns-in_err-head g c bytes is =
    faulted (IsJudged c.args.graph.now bytes) _ c.from_residual.result c.from_residual.ensures.1
    (stream-fault bytes _ (c.in_err-head.ensures.parts (parts_read bytes) is))

pub returns-in_err-clocks-in-Order : goal.returns-in_err-clocks-in-Order
returns-in_err-clocks-in-Order g c bytes is =
    let taken = rw c.in-Order.is at (c.in_ok-head.ensures.parts (parts_read bytes) is) in
    faulted (IsJudged c.args.graph.now bytes) _ c.from_residual-in_err-clocks-in-Order.result c.from_residual-in_err-clocks-in-Order.ensures.1
    (fault-behind bytes _ taken.0 _ taken.1 (c.in_err-clocks-in-Order.ensures taken.0 taken.2))

pub returns-in_ok-verdict-in-Order : goal.returns-in_ok-verdict-in-Order
returns-in_ok-verdict-in-Order g c bytes is =
    let taken = rw c.in-Order.is at (c.in_ok-head.ensures.parts (parts_read bytes) is) in
    let said = c.in_ok-clocks-in-Order.ensures taken.0 taken.2 in
    order-behind c.args.graph.now bytes c.in-Order.head taken.0 c.with_clocks.result c.in_ok-verdict-in-Order.verdict taken.1 said.0
    (λ clocks come. c.with_clocks.ensures ∙ ap (with_clocks c.in-Order.head) (said.1 clocks come)) (rw c.deref.ensures.value at c.in_ok-verdict-in-Order.ensures)

pub returns-in-Cycle : goal.returns-in-Cycle
returns-in-Cycle g c bytes is =
    let taken = rw c.in-Cycle.is at (c.in_ok-head.ensures.parts (parts_read bytes) is) in
    cycle-behind c.args.graph.now bytes c.in-Cycle.head taken.0 c.judge_cycle.result taken.1 (rw c.deref-in-Cycle.ensures.value at (c.judge_cycle.ensures taken.0 taken.2))
