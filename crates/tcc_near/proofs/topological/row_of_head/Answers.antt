use Rattle.std.proofs.Common.{rules, ◌∙◌, slice_index, sym}
use Rattle.std.specs.List.{All}
use Rattle.tcc_reads.specs.History.{count}
use Rattle.tcc_near.specs.private.Backwards.{IsThere}
use Rattle.tcc_near.proofs.LeastFrom.{others_of}
use Rattle.tcc_near.proofs.topological.row_of_head.Goals as goal

pub row_over-requires-clause-same : goal.row_over-requires-clause-same
row_over-requires-clause-same c = c.requires.known.long ∙ sym c.requires.run.long

pub row_over-requires-clause-there : goal.row_over-requires-clause-there
row_over-requires-clause-there c =
    let there : All (IsThere c.args.rows.now (count c.args.pairs.now.history)) c.readers-readers.result.now = search rules in
    rw c.requires.run.long there

pub returns-then-are_there : goal.returns-then-are_there
returns-then-are_there c =
    let pairs = c.args.pairs.now in
    let h = pairs.history in
    let u = c.args.head in
    c.row_over.ensures h u c.requires.pairs.few c.requires.known c.requires.run
    (others_of h u (slice_index pairs.ends u) c.readers-readers.result.now (c.requires.pairs.ended.each u c.requires.below) c.readers-readers.ensures)

pub lengths_from-requires-clause-bound : goal.lengths_from-requires-clause-bound
lengths_from-requires-clause-bound c = rw c.as_slice.ensures (c.in_ok-bound.ensures c.args.pairs.now.history c.requires.run)
