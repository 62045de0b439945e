use Rattle.std.proofs.Common.{◌≡◌, ◌<◌, ◌∙◌, [], length, arith}
use Rattle.std.proofs.lemmas.List.{get_or_read}
use Rattle.tcc_near.specs.private.Breadth.{ArePairs, marks_of}
use Rattle.tcc_near.proofs.adjacency.Pairs.readers.Goals as goal

pub returns : goal.returns
returns c =
    let rows = c.self.inside.readers.items in
    let u = c.args.from in
    let pairs : ArePairs (record { history = c.self.inside.graph.now; ends = c.self.inside.ends.items; readers = rows }) =
    rw (← c.self.view_is) at c.requires.pairs in
    let below = rw (← c.self.view_is) at c.requires.below in
    let inside : u < length rows = omega (arith, below, pairs.others.long) in
    let row : c.as_slice.result.now ≡ marks_of rows u = c.as_slice.ensures ∙ get_or_read rows u c.index.result.now inside c.index.ensures [] in
    rw (← c.self.view_is, row) (pairs.others.each u below)
