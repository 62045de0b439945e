use Rattle.std.proofs.Common.{refl, sym, ◌∙◌, arith}
use Rattle.std.proofs.lemmas.Bool.{false≢true}
use Rattle.tcc_first.proofs.LongLemmas.{fewest_more, fewest_same, fewest_all}
use Rattle.tcc_first.proofs.ReturnLemmas.{reading_at}
use Rattle.tcc_first.proofs.cheapest.fewest_steps.Goals.{then-is_nearer, else-is_nearer}
use Rattle.tcc_first.proofs.cheapest.fewest_steps.Goals as goal

pub bounds-lengths-reader : goal.bounds-lengths-reader
bounds-lengths-reader c =
    let read = reading_at c.args.graph.now c.args.source c.readings_at.result.0.now c.readings_at.result.1.now c.readings_at.ensures c.loop-index.index c.loop-index-test.true in
    omega (arith, read.1.1, c.requires.long)

pub is_nearer-requires-clause-reader : goal.is_nearer-requires-clause-reader
is_nearer-requires-clause-reader c =
    (reading_at c.args.graph.now c.args.source c.readings_at.result.0.now c.readings_at.result.1.now c.readings_at.ensures c.loop-index.index c.loop-index-test.true).1.1

pub is_nearer-requires-clause-key : goal.is_nearer-requires-clause-key
is_nearer-requires-clause-key c =
    (reading_at c.args.graph.now c.args.source c.readings_at.result.0.now c.readings_at.result.1.now c.readings_at.ensures c.loop-index.index c.loop-index-test.true).0

pub is_nearer-requires-clause-read : goal.is_nearer-requires-clause-read
is_nearer-requires-clause-read c =
    (reading_at c.args.graph.now c.args.source c.readings_at.result.0.now c.readings_at.result.1.now c.readings_at.ensures c.loop-index.index c.loop-index-test.true).1

pub loop-index-preserved : goal.loop-index-preserved
loop-index-preserved c =
    let readers = c.readings_at.result.0.now in
    let key_indices = c.readings_at.result.1.now in
    elim c.if-is_nearer.branch [
      | then-is_nearer w ↦ rw w.fewest-is
          (fewest_more c.args.graph.now c.args.lengths.now c.args.from c.args.source readers key_indices c.loop-index.index c.loop-index.fewest _
          c.loop-index.invariant refl (c.is_nearer.ensures.0 w.if-is_nearer.true).0 (c.is_nearer.ensures.0 w.if-is_nearer.true).1
          (c.is_nearer.ensures.0 w.if-is_nearer.true).2)
      | else-is_nearer w ↦ rw w.fewest-is
          (fewest_same c.args.graph.now c.args.lengths.now c.args.from c.args.source readers key_indices c.loop-index.index c.loop-index.fewest _
          c.loop-index.invariant refl (λ is. false≢true (sym w.if-is_nearer.false ∙ c.is_nearer.ensures.1 is)))
    ]

pub returns-clause-none : goal.returns-clause-none
returns-clause-none c =
    fewest_all c.args.graph.now c.args.lengths.now c.args.from c.args.source c.readings_at.result.0.now c.readings_at.result.1.now c.readings_at.ensures
    c.loop-index.index c.loop-index.fewest (omega (arith, c.loop-index-test.false)) c.loop-index.invariant

pub returns-clause-some : goal.returns-clause-some
returns-clause-some c = c.loop-index.invariant.some
