use Rattle.std.proofs.Common.{◌<◌, get_or}
use Rattle.std.proofs.lemmas.List.{take_all}
use Rattle.tcc_reads.specs.History.{count}
use Rattle.tcc_graph.proofs.Numberings.{below_in}
use Rattle.tcc_survey.specs.private.Firsts.{IsFirstRow}
use Rattle.tcc_clocks.proofs.RowLemmas.{table_more, table_whole}
use Rattle.tcc_survey.proofs.FirstLemmas.{children_have}
use Rattle.tcc_survey.proofs.reverse_clocks.find_firsts.Goals as goal

pub put_first-requires-clause-firsts : goal.put_first-requires-clause-firsts
put_first-requires-clause-firsts c =
    let block = c.args.block.now in
    rw c.deref.ensures.value
    (children_have block.graph.now (IsFirstRow block.graph.now block.from) c.args.backward.now c.loop-number.number-index c.loop-number.table
    c.find_children.new.found.items c.requires.numbering c.requires.backward c.loop-number-test.true c.in_ok-find_children.ensures
    c.loop-number.invariant.each)

pub loop-number-preserved : goal.loop-number-preserved
loop-number-preserved c =
    let block = c.args.block.now in
    let order = c.args.backward.now in
    let k = c.loop-number.number-index in
    let low : get_or order k 0 < count block.graph.now = below_in c.requires.numbering k c.loop-number-test.true in
    let is = c.in_ok-put_first.ensures in
    rw is.1 (table_more block.graph.now (IsFirstRow block.graph.now block.from) c.loop-number.table order is.0 k c.loop-number-test.true low
    c.loop-number.invariant is.2)

pub returns : goal.returns
returns c =
    let block = c.args.block.now in
    table_whole block.graph.now (IsFirstRow block.graph.now block.from) c.loop-number.table c.args.backward.now (λ x l. c.requires.numbering.each x l)
    (rw (take_all c.loop-number.number-index c.args.backward.now c.loop-number-test.false) at c.loop-number.invariant)
