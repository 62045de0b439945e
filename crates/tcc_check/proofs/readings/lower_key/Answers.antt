-- In groups, or one after the other.
use Rattle.std.proofs.Common.{◌<◌}
use Rattle.tcc_reads.specs.History.{count}
use Rattle.tcc_check.specs.private.Readings.{AreReadingsAt}
use Rattle.tcc_check.proofs.ByKey.{groups-there, pairs-there, readers-below, sources-below}
use Rattle.tcc_check.proofs.LinksFrom.{firsts-by, seconds-by}
use Rattle.tcc_check.proofs.readings.lower_key.Goals as goal

pub returns-in-Some : goal.returns-in-Some
returns-in-Some c =
    let are : AreReadingsAt c.args.graph.now c.args.key_index c.in-Some.readings = rw c.in-Some.is at c.requires.readings in
    groups-there c.args.graph.now c.args.row.now c.args.start c.args.key_index c.in-Some.readings c.args.weights.now c.lower_readings.new.weights are
    c.lower_readings.ensures

pub lower_readings-requires-clause-sources : goal.lower_readings-requires-clause-sources
lower_readings-requires-clause-sources c =
    let are : AreReadingsAt c.args.graph.now c.args.key_index c.in-Some.readings = rw c.in-Some.is at c.requires.readings in
    sources-below c.args.graph.now c.args.key_index c.in-Some.readings are _ c.requires.weights

pub lower_readings-requires-clause-readers : goal.lower_readings-requires-clause-readers
lower_readings-requires-clause-readers c =
    let are : AreReadingsAt c.args.graph.now c.args.key_index c.in-Some.readings = rw c.in-Some.is at c.requires.readings in
    readers-below c.args.graph.now c.args.key_index c.in-Some.readings are _ c.requires.row

pub returns-in-None : goal.returns-in-None
returns-in-None c =
    pairs-there c.args.graph.now c.args.row.now c.args.start c.args.key_index c.readings_of.result.0.now c.readings_of.result.1.now c.args.weights.now
    c.lower_pairs.new.weights c.readings_of.ensures.long (λ a b w. (c.readings_of.ensures.each a b).0 w) (λ a b w. (c.readings_of.ensures.each a b).1 w)
    c.lower_pairs.ensures

pub lower_pairs-requires-clause-sources : goal.lower_pairs-requires-clause-sources
lower_pairs-requires-clause-sources c =
    rw c.requires.weights (firsts-by 0 (λ k. k < count c.args.graph.now) c.readings_of.result.0.now c.readings_of.result.1.now c.readings_of.ensures.long
    (λ a b w. ((c.readings_of.ensures.each a b).0 w).0))

pub lower_pairs-requires-clause-readers : goal.lower_pairs-requires-clause-readers
lower_pairs-requires-clause-readers c =
    rw c.requires.row (seconds-by (λ k. k < count c.args.graph.now) c.readings_of.result.0.now c.readings_of.result.1.now c.readings_of.ensures.long
    (λ a b w. ((c.readings_of.ensures.each a b).0 w).1))
