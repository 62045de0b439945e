use Rattle.std.proofs.Common.{ℕ, List, sym, ◌∙◌}
use Rattle.tcc_txn.specs.declared.op.Op.{Op}
use Rattle.tcc_slices.proofs.Keeping.{visible_other_more, visible_put_more, visible_read_more}
use Rattle.tcc_watch.proofs.operations.visible_write.Goals as goal
use Rattle.tcc_watch.proofs.operations.visible_write.Goals.{in-Put+then-eq, in-Put+else-eq, in_default}

pub loop-op-preserved : goal.loop-op-preserved
loop-op-preserved c =
    let x : List ℕ = c.args.key.now in
    let ops : List Op = c.args.ops.now in
    let i : ℕ = c.loop-op.op-index in
    let op : Op = c.op-item.result in
    elim c.match-op.branch [
      | in-Put+then-eq w ↦ w.visible-is ∙ visible_put_more x ops i op c.loop-op-test.true c.op-item.is w.in-Put.written w.in-Put.value w.in-Put.is (sym w.eq.ensures ∙ w.if-eq.true)
      | in-Put+else-eq w ↦ w.visible-is ∙ c.loop-op.invariant ∙ visible_other_more x ops i op c.loop-op-test.true c.op-item.is w.in-Put.written w.in-Put.value w.in-Put.is (sym w.eq.ensures ∙ w.if-eq.false)
      | in_default w ↦ w.visible-is ∙ c.loop-op.invariant ∙ visible_read_more x ops i op c.loop-op-test.true c.op-item.is w.in_default.not-Put
    ]
