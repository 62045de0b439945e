use Rattle.std.proofs.Common.{arith}
use Rattle.std.proofs.lemmas.List.Elements.{Contains-push}
use Rattle.tcc_graph.specs.Levels.{Judged}
use Rattle.tcc_derive.specs.Prices.{IsPricesOf}
use Rattle.tcc_core.specs.Shares.{IsCycleCost}
use Rattle.tcc_steal.proofs.Floor.{floor_below}
use Rattle.tcc_steal.proofs.Seats.{offered}
use Rattle.tcc_steal.proofs.branch_and_bound.offer_seed.Goals as goal

pub offer-requires-clause-cost : goal.offer-requires-clause-cost
offer-requires-clause-cost c =
    let (t, judged, seat, costs) = c.requires in
    let (j, priced) = judged in
    let cycle : IsCycleCost j c.in-Some.cost = rw c.in-Some.is at (costs j priced) in
    (omega (arith, seat.floor, floor_below j t priced c.in-Some.cost cycle), omega arith)

pub returns-in-Some : goal.returns-in-Some
returns-in-Some c = record {
  seat = λ t cycles is.
      (let cycle = λ (j : Judged) (priced : IsPricesOf j t). rw c.in-Some.is at (cycles j priced) in
      (offered is c.in-Some.cost cycle (omega arith) c.offer.ensures.seat c.offer.ensures.least (omega arith)).0);
  seed = rw (c.in-Some.is, c.offer.ensures.seat) (Contains-push c.args.seat.now.known.offers c.in-Some.cost);
}
