use Rattle.std.proofs.Common.{ℕ, get_or, refl, arith}
use Rattle.std.proofs.lemmas.Bool.{false≢true, iff_false}
use Rattle.std.proofs.lemmas.List.{get_or_default}
use Rattle.tcc_graph.specs.Keys.{key_at}
use Rattle.tcc_check.specs.private.Positions.{IsKept}
use Rattle.tcc_check.proofs.Sessions.{next_more, by_keys, read_at}
use Rattle.tcc_check.proofs.order.keeps_sources.Goals as goal

pub loop-key-init : goal.loop-key-init
loop-key-init c = λ k d l. absurd (omega arith)

pub returns-then-not-is_kept : goal.returns-then-not-is_kept
returns-then-not-is_kept c =
    let h = c.args.graph.now in
    let reads = c.reads_at-key-items.result.now in
    let read : ℕ × ℕ = get_or reads c.loop-key._key-index (0, 0) in
    let is =
    read_at h c.args.c reads c.loop-key._key-index read c.reads_at-key-items.ensures.value c.reads_at-key-items.ensures.within c.requires.c
    c.loop-key-test.true (get_or_default reads c.loop-key._key-index (0, 0) read c.loop-key-test.true) in
    (λ e. absurd (false≢true e), λ all. absurd (iff_false c.is_kept.ensures c.if-not-is_kept.true (all read.1 (key_at h read.0) is)))

pub loop-key-preserved : goal.loop-key-preserved
loop-key-preserved c =
    next_more (λ (r : ℕ × ℕ). IsKept c.args.graph.now c.args.claim.now.level c.args.positions.now c.args.claim.now.clocks r.1 c.args.c) c.reads_at-key-items.result.now
    c.loop-key._key-index (0, 0) c.loop-key-test.true c.loop-key.invariant (c.is_kept.ensures.0 c.if-not-is_kept.false)

pub returns : goal.returns
returns c =
    let all =
    by_keys c.args.graph.now c.args.c (λ x b. IsKept c.args.graph.now c.args.claim.now.level c.args.positions.now c.args.claim.now.clocks b c.args.c)
    c.reads_at-key-items.result.now c.reads_at-key-items.ensures.value (λ k d l. c.loop-key.invariant k d (omega (arith, l, c.loop-key-test.false))) in
    (λ e b x p. all x b p, λ every. refl)
