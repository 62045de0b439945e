use Rattle.std.proofs.Common.{arith, sym, ◌∙◌}
use Rattle.std.specs.List.{Contains}
use Rattle.tcc_check.proofs.Placed.{unplaced, missing, all_placed, found_unplaced, no_unplaced}
use Rattle.tcc_check.proofs.positions.positions_of.Goals as goal

pub returns-then-contains : goal.returns-then-contains
returns-then-contains c =
    let some : Contains c.loop-position.positions.items unplaced =
    rw (← c.deref.ensures.value) (found_unplaced c.deref.result.now (sym c.contains.ensures.value ∙ c.if-contains.true)) in
    missing c.loop-position.position c.args.order.now c.loop-position.positions.items c.loop-position-test.false (omega arith) c.loop-position.invariant some

pub returns : goal.returns
returns c =
    let none : Contains c.loop-position.positions.items unplaced → ⊥ =
    rw (← c.deref.ensures.value) (no_unplaced c.deref.result.now (sym c.contains.ensures.value ∙ c.if-contains.false)) in
    all_placed c.loop-position.position c.args.order.now c.loop-position.positions.items (omega arith) c.loop-position.invariant none
