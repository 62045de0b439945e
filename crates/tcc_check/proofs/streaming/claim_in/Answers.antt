-- The claim, and then the end.
use Rattle.tcc_cert.specs.Parts.{parts_read}
use Rattle.tcc_check.specs.Streams.{IsClaimed}
use Rattle.tcc_check.proofs.JudgedFacts.{cycle-told, faulted, order-told, stream-fault}
use Rattle.tcc_check.proofs.streaming.claim_in.Goals as goal

pub returns-in_err-_head : goal.returns-in_err-_head
returns-in_err-_head g c bytes is = faulted (IsClaimed bytes) _ c.from_residual.result c.from_residual.ensures.1 (stream-fault bytes _ (c.in_err-_head.ensures.parts (parts_read bytes) is))

pub returns-in-Order : goal.returns-in-Order
returns-in-Order g c bytes is =
    let taken = rw c.in-Order.is at (c.in_ok-_head.ensures.parts (parts_read bytes) is) in
    order-told bytes _ taken.0 c.ended.result taken.1 (c.ended.ensures taken.0 taken.2)

pub returns-in-Cycle : goal.returns-in-Cycle
returns-in-Cycle g c bytes is =
    let taken = rw c.in-Cycle.is at (c.in_ok-_head.ensures.parts (parts_read bytes) is) in
    cycle-told bytes c.in-Cycle.head taken.0 c.ended-in-Cycle.result taken.1 (c.ended-in-Cycle.ensures taken.0 taken.2)
