use Rattle.std.proofs.Common.{◌≡◌, ◌<◌, length, get_or, arith}
use Rattle.std.proofs.lemmas.Bool.{ltb-true, lt-ltb}
use Rattle.std.proofs.lemmas.List.{get_or_read}
use Rattle.tcc_lanes.proofs.SettledCosts.{returned, returns as returning}
use Rattle.tcc_lanes.proofs.bucket_dijkstra.has_return.Goals as goal

pub returns : goal.returns
returns c = λ j members are ascending.
    let rows = c.args.rows.now in
    let costs = c.in_ok-costs.costs.items in
    let inside : c.args.start < length members = omega (arith, c.requires.start, are.long) in
    let (level, far, w) = c.in_ok-costs.ensures.reached j members are in
    let is : c.index.result.now ≡ get_or costs c.args.start 0
    = get_or_read costs c.args.start c.index.result.now (omega (arith, c.requires.start, c.in_ok-costs.ensures.same)) c.index.ensures 0 in (
      (λ low. returning j members c.args.most rows are c.args.start inside ascending level costs far w (omega (arith, c.ranges.most.fits))
          (omega (arith, ltb-true c.index.result.now c.args.most low, is))),
      (λ has. lt-ltb c.index.result.now c.args.most
          (omega (arith, returned j members c.args.most rows are c.args.start inside ascending level costs far w has, is))),
    )
