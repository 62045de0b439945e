-- The claim was read, and then its links and tables.
use Rattle.std.proofs.Common.{refl}
use Rattle.std.proofs.lemmas.Result.{err_from_is_err_and}
use Rattle.tcc_cert.specs.Parts.{parts_read}
use Rattle.tcc_cert.proofs.CollectFacts.{behind-end, cycle-read, order-read, read-faults}
use Rattle.tcc_cert.proofs.reading.whole.Goals as goal

pub returns-in_err-head : goal.returns-in_err-head
returns-in_err-head g c bytes ahead =
    let p = err_from_is_err_and c.from_residual.result c.from_residual.ensures.1 in
    let taken = c.in_err-head.ensures.parts (parts_read bytes) ahead in
    rw (p.1, p.2) (read-faults bytes (parts_read bytes) _ _ c.next.ensures.counted refl refl taken.0)

pub returns-in_err-tables-in-Order : goal.returns-in_err-tables-in-Order
returns-in_err-tables-in-Order g c bytes ahead =
    let p = err_from_is_err_and c.from_residual-in_err-tables-in-Order.result c.from_residual-in_err-tables-in-Order.ensures.1 in
    let taken = rw c.in-Order.is at (c.in_ok-head.ensures.parts (parts_read bytes) ahead) in
    rw (p.1, p.2) (behind-end bytes _ taken.0 _ taken.1 (c.in_err-tables-in-Order.ensures taken.0 taken.2))

pub returns-in_ok-tables-in-Order : goal.returns-in_ok-tables-in-Order
returns-in_ok-tables-in-Order g c bytes ahead =
    let taken = rw c.in-Order.is at (c.in_ok-head.ensures.parts (parts_read bytes) ahead) in
    rw (c.with_clocks.ensures, c.new.ensures)
    (order-read bytes c.in-Order.head taken.0 c.in_ok-tables-in-Order.tables taken.1 (c.in_ok-tables-in-Order.ensures taken.0 taken.2))

pub returns-in_ok-tables-in-Cycle : goal.returns-in_ok-tables-in-Cycle
returns-in_ok-tables-in-Cycle g c bytes ahead =
    let taken = rw c.in-Cycle.is at (c.in_ok-head.ensures.parts (parts_read bytes) ahead) in
    rw (c.with_tables.ensures, c.new-links.ensures, c.new-near.ensures, c.new-far.ensures)
    (cycle-read bytes c.in-Cycle.head taken.0 c.in_ok-tables-in-Cycle.tables taken.1 (c.in_ok-tables-in-Cycle.ensures taken.0 taken.2))

pub returns-in_err-tables-in-Cycle : goal.returns-in_err-tables-in-Cycle
returns-in_err-tables-in-Cycle g c bytes ahead =
    let p = err_from_is_err_and c.from_residual-in_err-tables-in-Cycle.result c.from_residual-in_err-tables-in-Cycle.ensures.1 in
    let taken = rw c.in-Cycle.is at (c.in_ok-head.ensures.parts (parts_read bytes) ahead) in
    rw (p.1, p.2) (behind-end bytes _ taken.0 _ taken.1 (c.in_err-tables-in-Cycle.ensures taken.0 taken.2))
