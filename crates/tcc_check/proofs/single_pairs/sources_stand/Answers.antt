-- One source after the other.
use Rattle.std.proofs.Common.{ℕ, get_or, arith}
use Rattle.tcc_check.specs.private.SinglePairs.{DoesWriterStand}
use Rattle.tcc_check.proofs.OnePair.{sources_stand_by}
use Rattle.tcc_check.proofs.Sessions.{next_more}
use Rattle.tcc_check.proofs.single_pairs.sources_stand.Goals as goal

pub loop-key-init : goal.loop-key-init
loop-key-init c = λ j d l. absurd (omega arith)

pub loop-key-preserved : goal.loop-key-preserved
loop-key-preserved c =
    let stands : ℕ → Type 0 = DoesWriterStand c.args.graph.now c.args.positions.now c.in_ok-sources.sources.items in
    let here : stands (get_or c.reads_at-key-items.result.now c.loop-key._key-index (0, 0)).1 =
    rw (← c.deref.ensures.value) (c.writer_stands.ensures c.if-not-writer_stands.false) in
    next_more (λ (r : ℕ × ℕ). stands r.1) c.reads_at-key-items.result.now c.loop-key._key-index (0, 0) c.loop-key-test.true c.loop-key.invariant here

pub returns : goal.returns
returns c = λ t.
    sources_stand_by c.args.graph.now c.args.c c.reads_at-key-items.result.now c.args.positions.now c.in_ok-sources.sources.items
    c.reads_at-key-items.ensures.value (λ k d l. (c.reads_at-key-items.ensures.within k d l).0) c.in_ok-sources.ensures.low
    (λ j l. c.loop-key.invariant j (0, 0) (omega (arith, l, c.loop-key-test.false)))
