use Rattle.std.proofs.Common.{◌+◌, ℕ, get_or, sym, ◌∙◌, arith}
use Rattle.tcc_graph.specs.Keys.{key_at}
use Rattle.tcc_graph.specs.Tables.{row_of}
use Rattle.tcc_judge.specs.private.Least.{IsLeastOf}
use Rattle.tcc_judge.specs.private.Behind.{IsBehindBy}
use Rattle.tcc_judge.proofs.BlockLemmas.{wide_at}
use Rattle.tcc_judge.proofs.ReadingLemmas.{least_begun, least_next, least_of_all, reading_at, reader_below}
use Rattle.tcc_judge.proofs.BehindLemmas.{behind_by}
use Rattle.tcc_judge.proofs.axiom_violation.least_behind.Goals as goal

pub loop-index-init : goal.loop-index-init
loop-index-init c =
    least_begun c.args.graph.now (get_or c.args.order.now c.args.place 0) c.readings_at.result.0.now c.readings_at.result.1.now
    (IsBehindBy c.args.graph.now c.args.order.now c.args.block.now.from (c.args.place + 1))

pub least_reaching-reaching-requires-clause-key : goal.least_reaching-reaching-requires-clause-key
least_reaching-reaching-requires-clause-key c =
    let reading =
    reading_at c.args.graph.now (get_or c.args.order.now c.args.place 0) c.readings_at.result.0.now c.readings_at.result.1.now c.readings_at.ensures
    c.loop-index.index c.loop-index-test.true in
    omega (arith, reading.key, c.requires.at.next.long)

pub least_reaching-reaching-requires-clause-reader : goal.least_reaching-reaching-requires-clause-reader
least_reaching-reaching-requires-clause-reader c =
    omega (
      arith,
      reader_below c.args.graph.now (get_or c.args.order.now c.args.place 0) c.readings_at.result.0.now c.readings_at.result.1.now
          c.readings_at.ensures c.loop-index.index c.loop-index-test.true,
      c.requires.at.clocks.long,
    )

pub least_reaching-reaching-requires-clause-wide : goal.least_reaching-reaching-requires-clause-wide
least_reaching-reaching-requires-clause-wide c =
    let h = c.args.graph.now in
    let i = c.loop-index.index in
    let wide = wide_at h c.args.order.now (c.args.place + 1) c.args.block.now c.requires.at in
    let reading =
    reading_at h (get_or c.args.order.now c.args.place 0) c.readings_at.result.0.now c.readings_at.result.1.now c.readings_at.ensures i c.loop-index-test.true in
    wide.next.wide (get_or c.readings_at.result.1.now i 0) reading.key ∙ sym (wide.clocks.wide (get_or c.readings_at.result.0.now i 0) reading.pair.1)

pub loop-index-preserved : goal.loop-index-preserved
loop-index-preserved c =
    let h = c.args.graph.now in
    let order = c.args.order.now in
    let block = c.args.block.now in
    let from = block.from in
    let place = c.args.place + 1 in
    let at = c.requires.at in
    let a : ℕ = get_or order c.args.place 0 in
    let readers = c.readings_at.result.0.now in
    let key_indices = c.readings_at.result.1.now in
    let i = c.loop-index.index in
    let reading = reading_at h a readers key_indices c.readings_at.ensures i c.loop-index-test.true in
    let key : ℕ = get_or key_indices i 0 in
    let reader : ℕ = get_or readers i 0 in
    let one : IsLeastOf (IsBehindBy h order from place (key_at h key) reader) c.least_reaching-reaching.result
    = behind_by h at.ready.ordered.numbered order from place (key_at h key) reader (row_of block.next key) (row_of block.clocks reader)
    (at.next.wide key reading.key) at.ready.few (at.clocks.each reader reading.pair.1 reading.pair.1) (λ session narrow. at.next.each key session reading.key narrow)
    c.least_reaching-reaching.result c.least_reaching-reaching.ensures in
    rw c.min-least.ensures (least_next h a readers key_indices (IsBehindBy h order from place) i c.least_reaching-reaching.result c.loop-index.least one c.loop-index.invariant)

pub returns : goal.returns
returns c =
    least_of_all c.args.graph.now (get_or c.args.order.now c.args.place 0) c.readings_at.result.0.now c.readings_at.result.1.now
    (IsBehindBy c.args.graph.now c.args.order.now c.args.block.now.from (c.args.place + 1)) c.readings_at.ensures c.loop-index.index c.loop-index.least (omega arith)
    c.loop-index.invariant
