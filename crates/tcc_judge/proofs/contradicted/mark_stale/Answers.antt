use Rattle.std.proofs.Common.{◌<◌, ℕ, true, length, get_or, sym, ◌∙◌, arith}
use Rattle.std.proofs.lemmas.Bool.{false≢true}
use Rattle.std.proofs.lemmas.List.{length-set}
use Rattle.tcc_judge.proofs.ReadingLemmas.{reading_at}
use Rattle.tcc_judge.proofs.ContradictedLemmas.{stale_all, stale_more, stale_same}
use Rattle.tcc_judge.proofs.contradicted.mark_stale.Goals.{then-is_contradicted, else-is_contradicted}
use Rattle.tcc_judge.proofs.contradicted.mark_stale.Goals as goal

pub is_contradicted-requires-clause-key : goal.is_contradicted-requires-clause-key
is_contradicted-requires-clause-key c =
    let reading = reading_at c.args.graph.now 0 c.readings_at.result.0.now c.readings_at.result.1.now c.readings_at.ensures c.loop-index.index c.loop-index-test.true in
    omega (arith, reading.key, c.requires.wide.next.long)

pub is_contradicted-requires-clause-reader : goal.is_contradicted-requires-clause-reader
is_contradicted-requires-clause-reader c =
    let reading = reading_at c.args.graph.now 0 c.readings_at.result.0.now c.readings_at.result.1.now c.readings_at.ensures c.loop-index.index c.loop-index-test.true in
    omega (arith, reading.pair.1, c.requires.wide.clocks.long)

pub is_contradicted-requires-clause-wide : goal.is_contradicted-requires-clause-wide
is_contradicted-requires-clause-wide c =
    let i = c.loop-index.index in
    let reading = reading_at c.args.graph.now 0 c.readings_at.result.0.now c.readings_at.result.1.now c.readings_at.ensures i c.loop-index-test.true in
    c.requires.wide.next.wide (get_or c.readings_at.result.1.now i 0) reading.key ∙ sym (c.requires.wide.clocks.wide (get_or c.readings_at.result.0.now i 0) reading.pair.1)

pub loop-index-preserved : goal.loop-index-preserved
loop-index-preserved c =
    let h = c.args.graph.now in
    let readers = c.readings_at.result.0.now in
    let key_indices = c.readings_at.result.1.now in
    let old = c.args.stale.now in
    let stale = c.loop-index.stale in
    let i = c.loop-index.index in
    let inv = c.loop-index.invariant in
    let reading = reading_at h 0 readers key_indices c.readings_at.ensures i c.loop-index-test.true in
    let key : ℕ = get_or key_indices i 0 in
    let inside : key < length stale = omega (arith, reading.key, inv.same, c.requires.long) in
    elim c.if-is_contradicted.branch [
      | then-is_contradicted w ↦ rw w.stale-is record {
        same = length-set stale key true ∙ inv.same;
        each = λ order at.
            stale_more h order c.args.block.now.from readers key_indices old i stale (inv.each order at) inside
            ((c.is_contradicted.ensures h order 1 at reading.key).0 w.if-is_contradicted.true);
      }
      | else-is_contradicted w ↦ rw w.stale-is record {
        same = inv.same;
        each = λ order at.
            stale_same h order c.args.block.now.from readers key_indices old i stale (inv.each order at)
            (λ is. false≢true (sym w.if-is_contradicted.false
            ∙ (c.is_contradicted.ensures h order 1 at reading.key).1 is));
      }
    ]

pub returns-clause-each : goal.returns-clause-each
returns-clause-each c = λ order at.
    stale_all c.args.graph.now order c.args.block.now.from c.readings_at.result.0.now c.readings_at.result.1.now c.args.stale.now c.readings_at.ensures c.loop-index.index
    c.loop-index.stale (omega arith) c.requires.long (c.loop-index.invariant.each order at)
