use Rattle.std.proofs.Common.{ℕ, get_or, if◌then◌else◌, arith}
use Rattle.std.proofs.lemmas.List.{length_push}
use Rattle.tcc_graph.specs.Relations.{causal_pair}
use Rattle.tcc_lanes.specs.private.Pricing.{cell}
use Rattle.tcc_lanes.proofs.PriceRows.{one_price_more}
use Rattle.tcc_lanes.proofs.price_rows.price_row.Goals as goal

pub loop-column-preserved : goal.loop-column-preserved
loop-column-preserved c =
    let members = c.args.members.now in
    let table = c.args.prices.now.table.items in
    let lane = c.args.lane in
    let k = c.loop-column.column in
    let row = c.loop-column.row in
    let to : ℕ = get_or members k 0 in
    rw c.in_ok-push.ensures (record {
      long = omega (arith, length_push row c.link_price.result, c.loop-column.invariant.long);
      each = λ h starts m pairs marked v l.
          one_price_more (λ u. if causal_pair h (get_or starts lane 0) (get_or members u 0) then 1 else get_or table (cell u lane) 0) row k c.link_price.result
          c.loop-column.invariant.long (c.loop-column.invariant.each h starts m pairs marked)
          (c.link_price.ensures (causal_pair h (get_or starts lane 0) to)
          (pairs.each to lane (omega (arith, c.requires.members k 0 c.loop-column-test.true, pairs.long)) m)
          (marked.blank k lane c.loop-column-test.true m)) v l;
    })
