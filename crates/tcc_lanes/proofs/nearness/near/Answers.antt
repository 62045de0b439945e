use Rattle.std.proofs.Common.{get_or, arith}
use Rattle.tcc_reads.specs.History.{count}
use Rattle.tcc_graph.specs.Levels.{judged}
use Rattle.tcc_lanes.proofs.ClosingLemmas.{offered_lasts, offered_prices}
use Rattle.tcc_lanes.proofs.NearnessLemmas.{closings_are, near_all}
use Rattle.tcc_lanes.proofs.nearness.near.Goals as goal

pub find_closings-requires-clause-positions : goal.find_closings-requires-clause-positions
find_closings-requires-clause-positions c = c.requires.places.long

pub mark_near-requires-clause-numbering : goal.mark_near-requires-clause-numbering
mark_near-requires-clause-numbering c = c.requires.places.numbering

pub mark_near-requires-clause-prices : goal.mark_near-requires-clause-prices
mark_near-requires-clause-prices c =
    offered_prices _ (λ v. get_or c.args.positions.now v 0) (count c.args.graph.now) c.in_ok-found.found.prices.items c.in_ok-found.found.lasts.items c.in_ok-found.ensures

pub mark_near-requires-clause-lasts : goal.mark_near-requires-clause-lasts
mark_near-requires-clause-lasts c =
    offered_lasts _ (λ v. get_or c.args.positions.now v 0) (count c.args.graph.now) c.in_ok-found.found.prices.items c.in_ok-found.found.lasts.items c.in_ok-found.ensures

pub returns : goal.returns
returns c =
    let j = judged c.args.graph.now c.args.level in
    let order = c.args.order.now in
    let positions = c.args.positions.now in
    let found = c.in_ok-found.found in
    let told = c.in_ok-marks.ensures in
    near_all j order positions c.requires.places c.args.most found.prices.items found.lasts.items
    (closings_are j order positions c.requires.places c.args.most found.prices.items found.lasts.items c.args.sources.now c.args.targets.now c.requires.ends
    c.in_ok-found.ensures) told.0 told.1 (omega (arith, c.ranges.most.fits)) c.in_ok-marks.marks.items told.2
