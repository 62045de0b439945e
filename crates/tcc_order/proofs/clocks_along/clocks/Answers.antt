use Rattle.std.proofs.Common.{◌<◌, ℕ, get_or}
use Rattle.std.proofs.lemmas.List.{take_all}
use Rattle.std.specs.Prelude.{Contains}
use Rattle.tcc_reads.specs.History.{count}
use Rattle.tcc_graph.proofs.Numberings.{below_in}
use Rattle.tcc_clocks.specs.Parents.{parents}
use Rattle.tcc_order.specs.private.Lasts.{AreLastsOf}
use Rattle.tcc_clocks.specs.Clocks.{IsBefore}
use Rattle.tcc_clocks.specs.private.Rows.{IsUpTo}
use Rattle.tcc_order.proofs.LastLemmas.{all_below, all_done, lasts_same, table_clocks}
use Rattle.tcc_clocks.proofs.RowLemmas.{table_more}
use Rattle.tcc_clocks.proofs.UpTo.{up_to_parents}
use Rattle.tcc_order.proofs.clocks_along.clocks.Goals as goal

pub clock_row-requires-clause-inside : goal.clock_row-requires-clause-inside
clock_row-requires-clause-inside c =
    rw (c.deref-in-loop-number.ensures.value, c.in_ok-parents.ensures.found)
    (all_below c.args.graph.now c.numbered.ensures.numbered c.args.order.now c.loop-number.number-index c.loop-number.table.items c.requires
    c.loop-number-test.true c.in_ok-parents.ensures.sources c.loop-number.invariant)

pub clock_row-requires-clause-lasts : goal.clock_row-requires-clause-lasts
clock_row-requires-clause-lasts c =
    rw (c.deref-in-loop-number.ensures.value, c.deref.ensures.value, c.in_ok-parents.ensures.found)
    (all_done c.args.graph.now c.numbered.ensures.numbered c.args.order.now c.loop-number.number-index c.loop-number.table.items c.requires
    c.loop-number-test.true c.in_ok-parents.ensures.sources c.loop-number.invariant)

pub loop-number-preserved : goal.loop-number-preserved
loop-number-preserved c =
    let h = c.args.graph.now in
    let k = c.loop-number.number-index in
    let n : ℕ = get_or c.args.order.now k 0 in
    let low : n < count h = below_in c.requires.numbering k c.loop-number-test.true in
    let row = c.in_ok-row.row in
    let made : AreLastsOf h (IsUpTo h (Contains (parents h n))) row
    = rw (c.deref-in-loop-number.ensures.value, c.in_ok-parents.ensures.found) at c.in_ok-row.ensures in
    table_more h (λ c row. AreLastsOf h (IsBefore h c) row) c.loop-number.table.items c.args.order.now row k c.loop-number-test.true low c.loop-number.invariant
    (lasts_same h (IsUpTo h (Contains (parents h n))) (IsBefore h n) row
    (up_to_parents h c.numbered.ensures.numbered n low c.in_ok-parents.ensures.sources) made)

pub returns : goal.returns
returns c =
    let order = c.args.order.now in
    table_clocks c.args.graph.now c.loop-number.table.items order (λ x l. c.requires.numbering.each x l)
    (rw (take_all c.loop-number.number-index order c.loop-number-test.false) at c.loop-number.invariant)
