use Rattle.std.proofs.Common.{◌≡◌, ◌-◌, get_or, length, sym, subst, ◌∙◌}
use Rattle.tcc_txn.specs.declared.op.Op.{Op}
use Rattle.tcc_reads.proofs.OwnWrites.{finds, passes_other, passes_read}
use Rattle.tcc_reads.proofs.judging.latest_write.Goals.{then-indices-at+in_default, else-indices-at}
use Rattle.tcc_reads.proofs.judging.latest_write.Goals as goal

pub returns-in-Put : goal.returns-in-Put
returns-in-Put c =
    let left = c.loop-left.left in
    let ops = c.args.ops.now in
    let at = subst (λ (op : Op). op ≡ get_or ops (length ops - 1 - left) op) c.in-Put.is c.index-ops-at.is in
    sym (c.loop-left.invariant
    ∙ finds c.args.keys.now c.are_sorted.ensures ops c.args.indices.now c.requires.indices c.args.index left 0 c.requires.index c.loop-left-test.true
    c.in-Put.key c.in-Put.value at c.if-indices-at.true)

pub loop-left-preserved : goal.loop-left-preserved
loop-left-preserved c =
    let left = c.loop-left.left in
    let ops = c.args.ops.now in
    elim c.if-indices-at.branch [
      | then-indices-at+in_default w ↦ (
          let at = subst (λ (op : Op). op ≡ get_or ops (length ops - 1 - left) op) w.in_default.is w.index-ops-at.is in
          c.loop-left.invariant
          ∙ passes_read c.args.keys.now c.are_sorted.ensures ops c.args.indices.now c.requires.indices c.args.index left 0 c.requires.index
          c.loop-left-test.true w.in_default.field-0 w.in_default.field-1 at)
      | else-indices-at w ↦ (
          c.loop-left.invariant
          ∙ passes_other c.args.keys.now c.are_sorted.ensures ops c.args.indices.now c.requires.indices c.args.index left 0 c.requires.index
          c.loop-left-test.true w.if-indices-at.false)
    ]
