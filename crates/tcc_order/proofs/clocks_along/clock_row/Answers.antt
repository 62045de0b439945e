use Rattle.std.proofs.Common.{rules, ◌≡◌, ◌<◌, ◌∙◌, ℕ, [], length, get_or, slice_index, refl, sym, arith, take_at}
use Rattle.std.specs.Prelude.{max}
use Rattle.std.proofs.lemmas.List.{get_or_read}
use Rattle.tcc_reads.specs.History.{count}
use Rattle.tcc_graph.specs.Tables.{row_of}
use Rattle.tcc_order.specs.private.Lasts.{raised}
use Rattle.tcc_order.proofs.LastLemmas.{lasts_more}
use Rattle.tcc_order.proofs.clocks_along.clock_row.Goals as goal

pub loop-number-preserved : goal.loop-number-preserved
loop-number-preserved c =
    let h = c.args.graph.now in
    let table = c.args.table.now in
    let numbers = c.args.numbers.now in
    let k = c.loop-number.number-index in
    let p : ℕ = get_or numbers k 0 in
    let old = c.loop-number.row.items in
    let mid = c.raise_each.new.row in
    let new = c.raise_one.new.row in
    let long : c.loop-number.row.len ≡ length old = search rules in
    let value : c.deref_mut.result.now ≡ old = c.deref_mut.ensures.value in
    let same : length mid ≡ length old = rw value at c.raise_each.ensures.same in
    let middle : c.deref_mut-in-loop-number.result.now ≡ mid
    = c.deref_mut-in-loop-number.ensures.value ∙ take_at mid _ c.loop-number.row.len (same ∙ sym long) in
    let last : length new ≡ length mid = rw middle at c.raise_one.ensures.same in
    let below : p < count h = c.requires.inside k 0 c.loop-number-test.true in
    let other : c.as_slice.result.now ≡ row_of table p
    = c.as_slice.ensures ∙ get_or_read table p c.index-table-number.result (omega (arith, below, c.requires.long)) c.index-table-number.is [] in
    let each_mid : (s : ℕ) → s < length old → slice_index mid s ≡ max (slice_index (row_of table p) s) (slice_index old s)
    = rw (value, other) at c.raise_each.ensures.each in
    let each_new : (s : ℕ) → s < length mid → slice_index new s ≡ raised h p s (slice_index mid s) = rw middle at c.raise_one.ensures.each in
    rw (take_at new _ c.loop-number.row.len (last ∙ (same ∙ sym long)))
    (lasts_more h numbers k p old mid new (row_of table p) c.loop-number-test.true refl below c.loop-number.invariant
    (c.requires.lasts k 0 c.loop-number-test.true) same each_mid last each_new)
