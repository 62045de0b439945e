use Rattle.std.proofs.Common.{◌≡◌, ◌∙◌, ℕ, List, length, get_or, refl, arith}
use Rattle.std.specs.Prelude.{Contains}
use Rattle.std.proofs.lemmas.List.{get_or_read, take_all, length-set}
use Rattle.tcc_graph.proofs.Numberings.{below_in}
use Rattle.tcc_reads.specs.History.{count}
use Rattle.tcc_clocks.specs.Parents.{parents}
use Rattle.tcc_clocks.specs.Clocks.{AreLatestOf, IsBefore}
use Rattle.tcc_clocks.specs.private.Rows.{IsUpTo}
use Rattle.tcc_clocks.proofs.Along.{parents_below}
use Rattle.tcc_clocks.proofs.LatestLemmas.{all_below, all_done}
use Rattle.tcc_clocks.proofs.RowLemmas.{table_whole}
use Rattle.tcc_order.specs.private.News.{HasClock}
use Rattle.tcc_order.proofs.BlockStart.{begun_noted, begun_heads, begun_passed, begun_clocks}
use Rattle.tcc_order.proofs.NewsLemmas.{noted_more, noted_reached, heads_more, heads_reached, passed_more, passed_still, passed_all, none_sound}
use Rattle.tcc_order.proofs.Sweeping.{swept, swept_clock, swept_clocks}
use Rattle.tcc_order.proofs.news.add_along.Goals.{After-between-found, In_ok-put_row}
use Rattle.tcc_order.proofs.news.add_along.Goals as goal

-- the transactions right before the next one
found : (c : After-between-found) → c.between-found.result.now ≡ parents c.args.block.now.graph.now (get_or c.args.order.now c.loop-position.position 0)
found c =
    let spans = c.args.steps.now.spans.items in
    let k = c.loop-position.position in
    let here : c.index.result.now ≡ get_or spans k (0, 0)
    = get_or_read spans k c.index.result.now (omega (arith, c.loop-position-test.true, c.requires.steps.long)) c.index.ensures (0, 0) in
    rw (c.between-found.ensures, c.deref.ensures.value, here) (c.requires.steps.each k c.loop-position-test.true).is

pub loop-position-init : goal.loop-position-init
loop-position-init c =
    let h = c.args.block.now.graph.now in
    let owners = c.args.block.now.owners.now in
    let order = c.args.order.now in
    let start = c.args.start in (
      refl,
      refl,
      none_sound h c.args.rows.now c.requires.none,
      begun_noted h owners c.requires.block.owners c.args.block.now.from order start c.requires.within c.requires.begun c.args.last.now,
      begun_passed h owners c.requires.block.owners c.args.block.now.from order start c.requires.within c.requires.begun c.requires.numbering c.requires.onward c.args.table.now
          c.args.rows.now,
      refl,
      begun_heads h owners c.requires.block.owners c.args.block.now.from order start c.requires.within c.requires.begun c.args.block.now.floor c.args.heads.now,
      begun_clocks h owners c.requires.block.owners c.args.block.now.from order start c.requires.within c.requires.begun c.requires.numbering c.requires.onward c.args.table.now
          c.requires.table c.requires.zeros,
    )

pub put_row-requires-clause-inside : goal.put_row-requires-clause-inside
put_row-requires-clause-inside c =
    rw (found (goal.at.put_row-requires-clause-inside c).After-between-found)
    (all_below c.args.block.now.graph.now c.requires.block.numbered c.args.block.now.from c.args.order.now c.loop-position.position c.loop-position.table c.requires.numbering
    c.requires.onward c.loop-position-test.true (c.requires.steps.each c.loop-position.position c.loop-position-test.true).sources c.loop-position.invariant.7)

pub put_row-requires-clause-rows : goal.put_row-requires-clause-rows
put_row-requires-clause-rows c =
    rw (found (goal.at.put_row-requires-clause-rows c).After-between-found)
    (all_done c.args.block.now.graph.now c.requires.block.numbered c.args.block.now.from c.args.order.now c.loop-position.position c.loop-position.table c.requires.numbering
    c.requires.onward c.loop-position-test.true (c.requires.steps.each c.loop-position.position c.loop-position-test.true).sources c.loop-position.invariant.7)

pub put_row-requires-clause-long : goal.put_row-requires-clause-long
put_row-requires-clause-long c = c.loop-position.invariant.7.long

-- the row that was put for the next one, by what is right before it
row_put : (c : In_ok-put_row) → c.between-found.result.now ≡ parents c.args.block.now.graph.now (get_or c.args.order.now c.loop-position.position 0)
    → AreLatestOf c.args.block.now.graph.now (IsUpTo c.args.block.now.graph.now (Contains (parents c.args.block.now.graph.now (get_or c.args.order.now c.loop-position.position 0))))
    c.args.block.now.from c.in_ok-put_row.ensures.0
row_put c here = rw here at c.in_ok-put_row.ensures.2

clock_put : (c : In_ok-put_row) → c.between-found.result.now ≡ parents c.args.block.now.graph.now (get_or c.args.order.now c.loop-position.position 0)
    → HasClock c.args.block.now.graph.now c.args.block.now.from c.put_row.new.table (get_or c.args.order.now c.loop-position.position 0)
clock_put c here =
    let k = c.loop-position.position in
    rw c.in_ok-put_row.ensures.1
    (swept_clock c.args.block.now.graph.now c.requires.block.numbered c.args.block.now.from c.args.order.now k c.loop-position.table c.requires.numbering
    c.requires.onward c.loop-position-test.true (c.requires.steps.each k c.loop-position-test.true).sources c.loop-position.invariant.7
    c.in_ok-put_row.ensures.0 (row_put c here))

table_put : (c : In_ok-put_row) → length c.put_row.new.table ≡ count c.args.block.now.graph.now
table_put c = rw c.in_ok-put_row.ensures.1 (length-set c.loop-position.table _ c.in_ok-put_row.ensures.0 ∙ c.loop-position.invariant.7.long)

pub add_readings-requires-clause-table : goal.add_readings-requires-clause-table
add_readings-requires-clause-table c = table_put (goal.at.add_readings-requires-clause-table c).In_ok-put_row

pub add_readings-requires-clause-clock : goal.add_readings-requires-clause-clock
add_readings-requires-clause-clock c =
    let at = goal.at.add_readings-requires-clause-clock c in
    clock_put at.In_ok-put_row (found at.After-between-found)

pub add_readings-requires-clause-clocks : goal.add_readings-requires-clause-clocks
add_readings-requires-clause-clocks c =
    let at = goal.at.add_readings-requires-clause-clocks c in
    let here = found at.After-between-found in
    let k = c.loop-position.position in
    rw (c.in_ok-put_row.ensures.1, here)
    (swept_clocks c.args.block.now.graph.now c.requires.block.numbered c.args.block.now.from c.args.order.now k c.loop-position.table c.requires.numbering
    c.requires.onward c.loop-position-test.true (c.requires.steps.each k c.loop-position-test.true).sources c.loop-position.invariant.7
    c.in_ok-put_row.ensures.0 (row_put at.In_ok-put_row here))

pub add_readings-requires-clause-found : goal.add_readings-requires-clause-found
add_readings-requires-clause-found c = found (goal.at.add_readings-requires-clause-found c).After-between-found

pub add_readings-requires-clause-inside : goal.add_readings-requires-clause-inside
add_readings-requires-clause-inside c =
    let h = c.args.block.now.graph.now in
    let k = c.loop-position.position in
    rw (found (goal.at.add_readings-requires-clause-inside c).After-between-found)
    (parents_below h c.requires.block.numbered (get_or c.args.order.now k 0) (below_in c.requires.numbering k c.loop-position-test.true)
    (c.requires.steps.each k c.loop-position-test.true).sources)

pub add_readings-requires-clause-noted : goal.add_readings-requires-clause-noted
add_readings-requires-clause-noted c =
    noted_reached c.args.block.now.graph.now c.args.order.now c.requires.numbering c.requires.onward c.args.block.now.from c.loop-position.position c.loop-position.last c.loop-position-test.true
    c.loop-position.invariant.3

pub add_readings-requires-clause-heads : goal.add_readings-requires-clause-heads
add_readings-requires-clause-heads c =
    heads_reached c.args.block.now.graph.now c.args.order.now c.requires.numbering c.requires.onward c.args.block.now.from c.args.block.now.floor c.loop-position.position c.loop-position.heads
    c.loop-position-test.true c.loop-position.invariant.6

pub add_readings-requires-clause-beside : goal.add_readings-requires-clause-beside
add_readings-requires-clause-beside c = omega (arith, c.loop-position.invariant.1, c.loop-position.invariant.5, c.requires.beside)

pub note_writer-requires-clause-beside : goal.note_writer-requires-clause-beside
note_writer-requires-clause-beside c = omega (arith, c.loop-position.invariant.1, c.loop-position.invariant.5, c.requires.beside)

pub note_writer-requires-clause-table : goal.note_writer-requires-clause-table
note_writer-requires-clause-table c = table_put (goal.at.note_writer-requires-clause-table c).In_ok-put_row

pub note_writer-requires-clause-clock : goal.note_writer-requires-clause-clock
note_writer-requires-clause-clock c =
    let at = goal.at.note_writer-requires-clause-clock c in
    clock_put at.In_ok-put_row (found at.After-between-found)

pub loop-position-preserved : goal.loop-position-preserved
loop-position-preserved c =
    let h = c.args.block.now.graph.now in
    let from = c.args.block.now.from in
    let order = c.args.order.now in
    let n = c.loop-position.position in
    let table = c.loop-position.table in
    let inside = c.loop-position-test.true in
    let inv = c.loop-position.invariant in
    let added = c.in_ok-add_readings.ensures in
    let noted = c.note_writer.ensures in
    let is = c.in_ok-put_row.ensures in
    let row : List ℕ = is.0 in
    let at = goal.at.loop-position-preserved c in
    let made = row_put at.In_ok-put_row (found at.After-between-found) in (
      c.add_readings.ensures.same ∙ inv.0,
      noted.same ∙ inv.1,
      added.sound,
      noted_more h from order n c.loop-position.last c.note_writer.new.last inside noted.same noted.rise noted.noted inv.3,
      passed_more h from c.put_row.new.table order c.loop-position.rows c.add_readings.new.rows n added.wider added.told
          (rw is.1 (passed_still h from table row order c.loop-position.rows n c.requires.numbering c.requires.onward inside inv.4)),
      noted.heads ∙ inv.5,
      heads_more h from c.args.block.now.floor order n c.loop-position.last c.loop-position.heads c.note_writer.new.heads inside noted.heads
          (omega (arith, inv.1, inv.5, c.requires.beside)) inv.3 noted.kept noted.own inv.6,
      rw is.1 (swept h c.requires.block.numbered from order n table c.requires.numbering c.requires.onward inside (c.requires.steps.each n inside).sources inv.7 row made),
    )

pub returns-clause-clocks : goal.returns-clause-clocks
returns-clause-clocks c =
    let h = c.args.block.now.graph.now in
    table_whole h (λ k row. AreLatestOf h (IsBefore h k) c.args.block.now.from row) c.loop-position.table c.args.order.now (λ x l. c.requires.numbering.each x l)
    (rw (take_all c.loop-position.position c.args.order.now c.loop-position-test.false) at c.loop-position.invariant.7)

pub returns-clause-news : goal.returns-clause-news
returns-clause-news c =
    let inv = c.loop-position.invariant in
    passed_all c.args.block.now.graph.now c.args.block.now.from c.loop-position.table c.args.order.now c.loop-position.rows c.loop-position.position c.requires.numbering
    c.loop-position-test.false (inv.0 ∙ c.requires.long) inv.2 inv.4
