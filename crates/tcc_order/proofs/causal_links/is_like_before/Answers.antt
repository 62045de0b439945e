use Rattle.std.proofs.Common.{◌<◌, [], length, arith}
use Rattle.tcc_graph.specs.Tables.{row_of}
use Rattle.tcc_order.specs.private.ByKey.{AreAlike}
use Rattle.tcc_order.proofs.ByKey.{like_before}
use Rattle.tcc_order.proofs.causal_links.is_like_before.Goals as goal

pub are_alike-requires-clause-readers : goal.are_alike-requires-clause-readers
are_alike-requires-clause-readers c =
    let inside : c.args.a < length c.args.readings.now = omega (arith, c.requires.below, c.requires.long) in
    rw c.row-from_a.ensures (c.requires.readers c.args.a [] inside)

pub are_alike-requires-clause-others : goal.are_alike-requires-clause-others
are_alike-requires-clause-others c =
    let before = c.before_in_session-before.result in
    let inside : before < length c.args.readings.now = omega (arith, c.before_in_session-before.ensures.low, c.requires.below, c.requires.long) in
    rw c.row-from_before.ensures (c.requires.readers before [] inside)

pub row-from_before-requires : goal.row-from_before-requires
row-from_before-requires c = omega (arith, c.before_in_session-before.ensures.low, c.requires.below, c.requires.long)

pub returns : goal.returns
returns c = λ t.
    let readings = c.args.readings.now in
    let a = c.args.a in
    let before = c.before_in_session-before.result in
    let alike : AreAlike c.args.table.now (row_of readings a) (row_of readings before) = rw (c.row-from_a.ensures, c.row-from_before.ensures) at (c.are_alike.ensures t) in
    like_before c.args.owners.now c.args.table.now readings a before (omega arith) c.before_in_session-before.ensures.own alike
