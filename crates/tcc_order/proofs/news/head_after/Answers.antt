use Rattle.std.proofs.Common.{◌<◌, ◌≤◌, ℕ, slice_index, arith}
use Rattle.std.specs.Prelude.{min}
use Rattle.tcc_graph.specs.Tables.{row_of}
use Rattle.tcc_clocks.specs.declared.latest.TheConstants.{WIDE}
use Rattle.tcc_order.specs.private.News.{IsKnown}
use Rattle.tcc_order.proofs.NewsLemmas.{head_led, head_past}
use Rattle.tcc_order.proofs.news.head_after.Goals as goal

pub returns-then-is_known-clause-kept : goal.returns-then-is_known-clause-kept
returns-then-is_known-clause-kept c =
    let known : IsKnown c.args.block.now.owners.now c.args.block.now.from c.args.block.now.floor (row_of c.args.table.now c.args.c) c.args.c c.args.head
    = rw c.get-clock.ensures at (c.is_known.ensures c.if-is_known.true) in
    head_led c.args.block.now.graph.now c.requires.block.numbered c.args.block.now.owners.now c.requires.block.owners c.args.block.now.from c.args.block.now.floor c.requires.block.floor c.args.table.now
    c.args.c c.requires.below c.requires.clock c.args.row.now c.args.head c.requires.above known

pub returns-else-is_past-clause-kept : goal.returns-else-is_past-clause-kept
returns-else-is_past-clause-kept c =
    let less : (k : ℕ) → k < WIDE → min (slice_index c.args.row.now k) (slice_index c.args.row.now k) ≤ slice_index c.known_by-known.result k
    = λ k l. c.is_past.ensures c.if-is_past.false k (omega (arith, l, c.requires.wide)) in
    head_past c.args.block.now.graph.now c.requires.block.numbered c.args.block.now.owners.now c.requires.block.owners c.args.block.now.from c.args.block.now.floor c.requires.block.floor c.args.table.now
    c.args.c c.requires.below c.requires.clock c.args.row.now c.args.head c.known_by-known.result c.requires.above c.known_by-known.ensures.each less
