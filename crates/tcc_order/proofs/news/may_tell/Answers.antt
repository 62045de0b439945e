use Rattle.std.proofs.Common.{rules, ◌≡◌, ◌<◌, ◌≤◌, ◌%◌, ℕ, ap, length, slice_index, arith}
use Rattle.std.specs.Prelude.{min}
use Rattle.tcc_graph.specs.Tables.{row_of}
use Rattle.tcc_clocks.specs.declared.latest.TheConstants.{WIDE}
use Rattle.tcc_order.specs.private.News.{IsKnown}
use Rattle.tcc_order.proofs.NewsLemmas.{told_same, told_past, told_head}
use Rattle.tcc_order.proofs.news.may_tell.Goals as goal

pub returns-then-are_same : goal.returns-then-are_same
returns-then-are_same c = λ f.
    told_same c.args.block.now.graph.now c.requires.block.numbered c.args.block.now.owners.now c.requires.block.owners c.args.block.now.from c.args.block.now.floor c.requires.block.floor c.args.table.now
    c.args.a c.requires.source c.requires.source_clock c.args.c c.requires.clock _ (c.are_same.ensures c.if-are_same.true)

pub returns-then-is_known : goal.returns-then-is_known
returns-then-is_known c = λ f.
    let heads = c.args.heads.now in
    let slot : ℕ = c.args.key_index % length c.args.last.now in
    let known : IsKnown c.args.block.now.owners.now c.args.block.now.from c.args.block.now.floor (row_of c.args.table.now c.args.a) c.args.a (slice_index heads slot)
    = rw c.get-clock.ensures at (c.is_known.ensures c.if-is_known.true) in
    let same : slice_index heads (c.args.key_index % length heads) ≡ slice_index heads slot
    = ap (λ (n : ℕ). slice_index heads (c.args.key_index % n)) c.requires.beside in
    told_head c.args.block.now.graph.now c.requires.block.numbered c.args.block.now.owners.now c.requires.block.owners c.args.block.now.from c.args.block.now.floor c.requires.block.floor c.args.table.now
    c.args.a c.requires.source c.requires.source_clock c.args.c c.args.key_index (slice_index heads slot) c.requires.key heads c.requires.heads same known

pub returns : goal.returns
returns c = λ f.
    let last = c.args.last.now in
    let slot : ℕ = c.args.key_index % length last in
    let wide : length (row_of last slot) ≡ WIDE = search rules in
    let less : (k : ℕ) → k < WIDE → min (slice_index (row_of c.args.table.now c.args.c) k) (slice_index (row_of last slot) k) ≤ slice_index c.known_by-known.result k
    = λ k l. rw c.get-reader.ensures at (c.is_past.ensures f k (omega (arith, l, wide))) in
    told_past c.args.block.now.graph.now c.requires.block.numbered c.args.block.now.owners.now c.requires.block.owners c.args.block.now.from c.args.block.now.floor c.requires.block.floor c.args.table.now
    c.args.a c.requires.source c.requires.source_clock c.args.c c.requires.clock c.args.key_index c.requires.key last c.requires.noted c.known_by-known.result
    c.known_by-known.ensures.each less
