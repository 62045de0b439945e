use Rattle.std.proofs.Common.{◌≡◌, ◌<◌, ℕ, length, get_or, subst, sym, arith}
use Rattle.std.specs.Prelude.{min}
use Rattle.std.proofs.lemmas.List.{get_or_read}
use Rattle.tcc_lanes.specs.private.Pricing.{IsLeastReturn}
use Rattle.tcc_lanes.proofs.SettledCosts.{least_return as least}
use Rattle.tcc_lanes.proofs.bucket_dijkstra.least_return.Goals as goal

pub returns-clause-each : goal.returns-clause-each
returns-clause-each c = λ j members are ascending.
    let rows = c.args.rows.now in
    let costs = c.in_ok-costs.costs.items in
    let inside : c.args.start < length members = omega (arith, c.requires.start, are.long) in
    let (level, far, w) = c.in_ok-costs.ensures.reached j members are in
    let is : c.index.result.now ≡ get_or costs c.args.start 0
    = get_or_read costs c.args.start c.index.result.now (omega (arith, c.requires.start, c.in_ok-costs.ensures.same)) c.index.ensures 0 in
    rw c.min.ensures (subst (λ (z : ℕ). IsLeastReturn j members c.args.most c.args.start (min z c.args.most)) (sym is)
    (least j members c.args.most rows are c.args.start inside ascending level costs far w (omega (arith, c.ranges.most.fits))))
