use Rattle.std.proofs.Common.{◌≡◌, ◌<◌, ◌∙◌, ℕ, [], length, get_or, replicate, slice_index, refl, arith}
use Rattle.std.specs.Prelude.{Contains}
use Rattle.std.proofs.lemmas.List.{get_or-replicate, length-replicate}
use Rattle.tcc_bits.proofs.Lists.{nothing_in}
use Rattle.tcc_reads.specs.History.{count}
use Rattle.tcc_graph.specs.Tables.{row_of}
use Rattle.tcc_clocks.specs.Clocks.{IsWith}
use Rattle.tcc_clocks.specs.private.Rows.{joined, empty_entry, with_own}
use Rattle.tcc_clocks.specs.declared.latest.TheConstants.{WIDE}
use Rattle.tcc_clocks.proofs.RowLemmas.{entries_more, entries_none}
use Rattle.tcc_clocks.proofs.rows.row_with.Goals as goal

pub loop-number-init : goal.loop-number-init
loop-number-init c =
    let h = c.args.graph.now in
    let side = c.args.side in
    let n : ℕ = c.empty-row.result in
    let empty : n ≡ empty_entry side (count h) = rw c.count.ensures.value at c.empty-row.ensures in
    entries_none side h (IsWith side h (Contains [])) c.args.from (replicate WIDE n) (length-replicate {A = ℕ} WIDE n)
    (λ k l. get_or-replicate {A = ℕ} WIDE k n 0 (omega (arith, l, length-replicate {A = ℕ} WIDE n)) ∙ empty) (λ b w. nothing_in w.0 w.1)

pub loop-number-preserved : goal.loop-number-preserved
loop-number-preserved c =
    let h = c.args.graph.now in
    let side = c.args.side in
    let numbers = c.args.numbers.now in
    let owners = c.args.owners.now in
    let from = c.args.from in
    let k = c.loop-number.number-index in
    let p : ℕ = get_or numbers k 0 in
    let other = row_of c.args.table.now p in
    let old = c.loop-number.row in
    let mid = c.join_each.new.row in
    let new = c.join_own.new.row in
    let below : p < count h = c.requires.inside k 0 c.loop-number-test.true in
    let each_mid : (s : ℕ) → s < length old → slice_index mid s ≡ joined side (slice_index other s) (slice_index old s)
    = rw c.get.ensures at c.join_each.ensures.each in
    let each_new : (s : ℕ) → s < length mid → slice_index new s ≡ with_own side owners from p s (slice_index mid s) = c.join_own.ensures.each in
    entries_more side h c.requires.numbered owners c.requires.owners from numbers k p old mid new other c.loop-number-test.true refl below c.loop-number.invariant
    (c.requires.rows k 0 c.loop-number-test.true) c.join_each.ensures.same each_mid c.join_own.ensures.same each_new
