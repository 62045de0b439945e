use Rattle.tcc_lanes.proofs.PriceRows.{one_row_more}
use Rattle.tcc_lanes.proofs.price_rows.push_rows.Goals as goal

pub loop-lane-preserved : goal.loop-lane-preserved
loop-lane-preserved c = λ h pairs.
    let members = c.args.members.now in
    let table = c.args.prices.now.table.items in
    let starts = c.args.starts.now in
    rw c.in_ok-push.ensures.items
    (one_row_more h members table starts c.args.rows.now.items c.loop-lane.lane c.loop-lane.rows.items c.in_ok-price_row.field-0 (c.loop-lane.invariant h pairs)
    (c.in_ok-price_row.ensures h starts c.loop-lane-test.true pairs c.requires.marked))
