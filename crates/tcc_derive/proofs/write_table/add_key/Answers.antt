use Rattle.std.proofs.Common.{get_or, set, ap, arith}
use Rattle.tcc_derive.proofs.BucketLemmas.{puts_first, puts_next}
use Rattle.tcc_derive.proofs.write_table.add_key.Goals as goal

pub loop-writer-init : goal.loop-writer-init
loop-writer-init c = puts_first c.args.written.now c.args.key_index

pub loop-writer-preserved : goal.loop-writer-preserved
loop-writer-preserved c =
    let n = c.loop-writer.writer-index in
    let writer = get_or c.args.writers.now n 0 in
    puts_next c.args.written.now c.loop-writer.written _ c.args.writers.now n c.args.key_index c.index-written-writer.result c.loop-writer-test.true
    (omega (arith, c.requires n 0 c.loop-writer-test.true, c.loop-writer.invariant.long))
    (ap (λ held. set c.loop-writer.written writer held) c.in_ok-push.ensures.ok) c.loop-writer.invariant
