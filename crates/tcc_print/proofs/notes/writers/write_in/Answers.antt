use Rattle.std.proofs.Common.{◌≡◌, ◌∙◌, ◌≤◌, ◌+◌, Some, [], length, find, sym, ap, arith}
use Rattle.std.specs.Prelude.{slice_get}
use Rattle.tcc_txn.specs.Transactions.{Transaction}
use Rattle.tcc_reads.specs.Faults.{puts}
use Rattle.tcc_reads.specs.Sites.{at, sites_from}
use Rattle.tcc_print.proofs.FirstWrites.{find-all, find-more, op-here, op-none}
use Rattle.tcc_print.proofs.notes.writers.write_in.Goals as goal

pub returns-then-writes : goal.returns-then-writes
returns-then-writes c = λ stand is.
    let here : slice_get c.args.txn.now.ops c.loop-index.index ≡ Some c.in_ok-op.field-0 = sym c.op.ensures ∙ c.in_ok-op.was in
    let found =
    op-here c.args.key c.args.value stand [] c.args.txn.now.ops c.loop-index.index c.in_ok-op.field-0 c.loop-index.invariant here
    (sym c.if-writes.ensures) in
    let place : c.loop-index.index + 1 ≡ at found.0 = (let there = found.3 in omega (arith, there)) in
    (found.0, ap (λ (t : Transaction). find (λ site. puts c.args.key c.args.value site.op) (sites_from stand [] t.ops)) is ∙ found.1, found.2, place)

pub loop-index-preserved : goal.loop-index-preserved
loop-index-preserved c =
    let here : slice_get c.args.txn.now.ops c.loop-index.index ≡ Some c.in_ok-op.field-0 = sym c.op.ensures ∙ c.in_ok-op.was in
    find-more (puts c.args.key c.args.value) c.args.txn.now.ops c.loop-index.index c.in_ok-op.field-0 c.loop-index.invariant here
    (sym c.if-writes.ensures)

pub returns : goal.returns
returns c = λ stand is.
    let past : length c.args.txn.now.ops ≤ c.loop-index.index = omega (arith, c.loop-index-test.false, c.len-index-end.ensures.value) in
    ap (λ (t : Transaction). find (λ site. puts c.args.key c.args.value site.op) (sites_from stand [] t.ops)) is
    ∙ op-none c.args.key c.args.value stand [] c.args.txn.now.ops
    (find-all (puts c.args.key c.args.value) c.args.txn.now.ops c.loop-index.index c.loop-index.invariant past)
