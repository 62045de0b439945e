-- One read after the other.
use Rattle.std.proofs.Common.{ℕ, arith}
use Rattle.tcc_graph.specs.Keys.{key_at}
use Rattle.tcc_graph.specs.declared.level.Level.TheVariants.{Causal}
use Rattle.tcc_check.specs.private.Latest.{IsReadKept}
use Rattle.tcc_check.proofs.Sessions.{next_more, by_keys}
use Rattle.tcc_check.proofs.latest.are_reads_kept.Goals as goal

pub loop-key-init : goal.loop-key-init
loop-key-init c = λ k d l. absurd (omega arith)

pub loop-key-preserved : goal.loop-key-preserved
loop-key-preserved c =
    let h = c.args.graph.now in
    next_more (λ (r : ℕ × ℕ). IsReadKept h Causal c.args.positions.now c.args.clocks.now (key_at h r.0) r.1 c.args.c) c.reads_at-key-items.result.now
    c.loop-key.key-index (0, 0) c.loop-key-test.true c.loop-key.invariant (c.is_read_kept.ensures c.if-not-is_read_kept.false)

pub returns : goal.returns
returns c = λ t.
    by_keys c.args.graph.now c.args.c (λ x a. IsReadKept c.args.graph.now Causal c.args.positions.now c.args.clocks.now x a c.args.c)
    c.reads_at-key-items.result.now c.reads_at-key-items.ensures.value (λ k d l. c.loop-key.invariant k d (omega (arith, l, c.loop-key-test.false)))
