use Rattle.std.proofs.Common.{◌≡◌, ◌<◌, ℕ, List, get_or, arith}
use Rattle.std.proofs.lemmas.List.{take_all, get_or_read}
use Rattle.std.specs.Prelude.{Contains}
use Rattle.tcc_reads.specs.History.{count}
use Rattle.tcc_graph.proofs.Numberings.{below_in}
use Rattle.tcc_clocks.specs.Parents.{parents}
use Rattle.tcc_clocks.specs.private.Rows.{IsUpTo}
use Rattle.tcc_clocks.specs.Clocks.{IsBefore, AreLatestOf}
use Rattle.tcc_clocks.proofs.LatestLemmas.{all_below, all_done, row_done}
use Rattle.tcc_clocks.proofs.RowLemmas.{table_more, table_whole}
use Rattle.tcc_clocks.proofs.latest.find_clocks.Goals.{After-between-found}
use Rattle.tcc_clocks.proofs.latest.find_clocks.Goals as goal

-- the transactions right before the next one
found : (c : After-between-found) → c.between-found.result.now ≡ parents c.args.graph.now (get_or c.args.order.now c.loop-position.position 0)
found c =
    let spans = c.args.steps.now.spans.items in
    let k = c.loop-position.position in
    let here : c.index.result.now ≡ get_or spans k (0, 0)
    = get_or_read spans k c.index.result.now (omega (arith, c.loop-position-test.true, c.requires.steps.long)) c.index.ensures (0, 0) in
    rw (c.between-found.ensures, c.deref.ensures.value, here) (c.requires.steps.each k c.loop-position-test.true).is

pub put_row-requires-clause-inside : goal.put_row-requires-clause-inside
put_row-requires-clause-inside c =
    rw (found (goal.at.put_row-requires-clause-inside c).After-between-found)
    (all_below c.args.graph.now c.requires.numbered c.args.from c.args.order.now c.loop-position.position c.loop-position.table c.requires.numbering
    c.requires.onward c.loop-position-test.true (c.requires.steps.each c.loop-position.position c.loop-position-test.true).sources c.loop-position.invariant)

pub put_row-requires-clause-rows : goal.put_row-requires-clause-rows
put_row-requires-clause-rows c =
    rw (found (goal.at.put_row-requires-clause-rows c).After-between-found)
    (all_done c.args.graph.now c.requires.numbered c.args.from c.args.order.now c.loop-position.position c.loop-position.table c.requires.numbering
    c.requires.onward c.loop-position-test.true (c.requires.steps.each c.loop-position.position c.loop-position-test.true).sources c.loop-position.invariant)

pub loop-position-preserved : goal.loop-position-preserved
loop-position-preserved c =
    let h = c.args.graph.now in
    let from = c.args.from in
    let order = c.args.order.now in
    let table = c.loop-position.table in
    let k = c.loop-position.position in
    let inv = c.loop-position.invariant in
    let n : ℕ = get_or order k 0 in
    let low : n < count h = below_in c.requires.numbering k c.loop-position-test.true in
    let is = c.in_ok-put_row.ensures in
    let row : List ℕ = is.0 in
    let made : AreLatestOf h (IsUpTo h (Contains (parents h n))) from row = rw (found (goal.at.loop-position-preserved c).After-between-found) at is.2 in
    rw is.1
    (table_more h (λ c row. AreLatestOf h (IsBefore h c) from row) table order row k c.loop-position-test.true low inv
    (row_done h c.requires.numbered from order k table c.requires.numbering c.requires.onward c.loop-position-test.true
    (c.requires.steps.each k c.loop-position-test.true).sources inv row made))

pub returns : goal.returns
returns c =
    let h = c.args.graph.now in
    table_whole h (λ k row. AreLatestOf h (IsBefore h k) c.args.from row) c.loop-position.table c.args.order.now (λ x l. c.requires.numbering.each x l)
    (rw (take_all c.loop-position.position c.args.order.now c.loop-position-test.false) at c.loop-position.invariant)
