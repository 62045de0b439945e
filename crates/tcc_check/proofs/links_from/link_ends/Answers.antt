-- Of the weights, lowered, the light ones are those asked for.
use Rattle.std.proofs.Common.{◌≡◌, ◌∙◌, length, ap, arith, rules}
use Rattle.tcc_reads.specs.History.{count}
use Rattle.tcc_txn.proofs.Lists.{whole}
use Rattle.tcc_check.specs.private.Weights.{IsLeastRow, IsLowered}
use Rattle.tcc_check.specs.private.WeightsFrom.{ContradictsBy, ReadWeighs, WeighsFrom}
use Rattle.tcc_check.proofs.Bounds.{lowered_row}
use Rattle.tcc_check.proofs.LinksFrom.{ends-light}
use Rattle.tcc_check.proofs.links_from.link_ends.Goals as goal

pub light_ends-requires : goal.light_ends-requires
light_ends-requires c =
    let old = c.in_ok-weights.weights.items in
    let new = c.lower_contradicted.new.weights in
    let lowered : IsLowered (ContradictsBy c.args.graph.now c.args.row.now c.args.start) old new =
    rw (← c.deref_mut.ensures.value) c.lower_contradicted.ensures in
    let same : c.deref.result.now ≡ new = c.deref.ensures.value ∙ whole new old c.in_ok-weights.weights.len lowered.long (search rules) in
    omega (arith, ap length same, lowered.long, c.in_ok-weights.ensures.long, c.requires.few)

pub returns : goal.returns
returns c =
    let h = c.args.graph.now in
    let start = c.args.start in
    let row = c.args.row.now in
    let old = c.in_ok-weights.weights.items in
    let new = c.lower_contradicted.new.weights in
    let lowered : IsLowered (ContradictsBy h row start) old new = rw (← c.deref_mut.ensures.value) c.lower_contradicted.ensures in
    let same : c.deref.result.now ≡ new = c.deref.ensures.value ∙ whole new old c.in_ok-weights.weights.len lowered.long (search rules) in
    let least : IsLeastRow (WeighsFrom h row start) new =
    lowered_row (ReadWeighs h start) (ContradictsBy h row start) old new c.in_ok-weights.ensures.least lowered in
    ends-light c.deref.result.now c.args.least (count h) (WeighsFrom h row start) c.in_ok-ends.ends
    (ap length same ∙ lowered.long ∙ c.in_ok-weights.ensures.long) c.ranges.least.fits (rw same least) c.in_ok-ends.ensures
