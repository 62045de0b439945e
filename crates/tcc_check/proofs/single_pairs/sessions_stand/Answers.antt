-- One read after the other.
use Rattle.std.proofs.Common.{◌<◌, ℕ, List, get_or, arith, subst, sym}
use Rattle.std.specs.Prelude.{All}
use Rattle.std.specs.List.Sorted.{IsNonDecreasing}
use Rattle.tcc_reads.specs.History.{count}
use Rattle.tcc_graph.specs.Keys.{key_at, writers}
use Rattle.tcc_graph.proofs.WriterLemmas.{writers_below}
use Rattle.tcc_check.specs.private.SinglePairs.{DoesSessionStand}
use Rattle.tcc_check.proofs.OnePair.{sessions_stand_by}
use Rattle.tcc_check.proofs.Sessions.{next_more, writers_rise}
use Rattle.tcc_check.proofs.single_pairs.sessions_stand.Goals as goal

pub loop-key-init : goal.loop-key-init
loop-key-init c = λ j d l. absurd (omega arith)

pub session_stands-requires-clause-writers : goal.session_stands-requires-clause-writers
session_stands-requires-clause-writers c =
    let h = c.args.graph.now in
    let x = key_at h (get_or c.reads_at-key-items.result.now c.loop-key.key-index (0, 0)).0 in
    record {
      rising = subst IsNonDecreasing (sym c.writers_at.ensures) (writers_rise h x);
      below = subst (λ (bs : List ℕ). All (λ b. b < count h) bs) (sym c.writers_at.ensures) (writers_below h x);
    }

pub loop-key-preserved : goal.loop-key-preserved
loop-key-preserved c =
    let h = c.args.graph.now in
    let stands : ℕ × ℕ → Type 0 = λ r. DoesSessionStand h c.args.positions.now (writers h (key_at h r.0)) r.1 c.args.c in
    let here : stands (get_or c.reads_at-key-items.result.now c.loop-key.key-index (0, 0)) =
    rw (← c.writers_at.ensures) (c.session_stands.ensures c.if-not-session_stands.false) in
    next_more stands c.reads_at-key-items.result.now c.loop-key.key-index (0, 0) c.loop-key-test.true c.loop-key.invariant here

pub returns : goal.returns
returns c = λ t.
    sessions_stand_by c.args.graph.now c.args.c c.reads_at-key-items.result.now c.args.positions.now c.reads_at-key-items.ensures.value
    (λ j d l. c.loop-key.invariant j d (omega (arith, l, c.loop-key-test.false)))
