use Rattle.std.proofs.Common.{rules, ◌≡◌, ◌<◌, arith}
use Rattle.std.specs.Prelude.{IfSome}
use Rattle.tcc_graph.specs.Levels.{Judged}
use Rattle.tcc_derive.specs.Prices.{IsPricesOf}
use Rattle.tcc_core.specs.Shares.{IsCycleCost}
use Rattle.tcc_steal.specs.Findings.{HasJudged}
use Rattle.tcc_steal.specs.private.Floors.{least_cost}
use Rattle.tcc_steal.proofs.Floor.{floor_small}
use Rattle.tcc_steal.proofs.Seats.{new_seat}
use Rattle.tcc_steal.proofs.Settling.{closed_by, word_fits, found_at}
use Rattle.tcc_steal.proofs.branch_and_bound.search_by.Goals as goal

pub new-requires : goal.new-requires
new-requires g c =
    let floor : g.floor ≡ least_cost c.args.prices.now = search rules in
    omega (arith, floor, floor_small c.args.prices.now)

pub offer_seed-requires : goal.offer_seed-requires
offer_seed-requires g c =
    let judged : HasJudged c.args.prices.now = search rules in
    let floor : g.floor ≡ least_cost c.args.prices.now = search rules in
    let seed : (j : Judged) → IsPricesOf j c.args.prices.now → IfSome c.args.seed (IsCycleCost j) = search rules in
    let t = c.args.prices.now in
    (t, judged, rw (c.in_ok-bound.ensures, floor) (new_seat t c.in_ok-bound.bound), seed)

pub shares_of_crew-requires-clause-seat : goal.shares_of_crew-requires-clause-seat
shares_of_crew-requires-clause-seat g c = λ κs lives.
    let floor : g.floor ≡ least_cost c.args.prices.now = search rules in
    let seed : (j : Judged) → IsPricesOf j c.args.prices.now → IfSome c.args.seed (IsCycleCost j) = search rules in
    let t = c.args.prices.now in
    c.offer_seed.ensures.seat t seed (rw (c.in_ok-bound.ensures, floor) (new_seat t c.in_ok-bound.bound))

pub gather-requires-clause-seat : goal.gather-requires-clause-seat
gather-requires-clause-seat g c =
    let floor : g.floor ≡ least_cost c.args.prices.now = search rules in
    let seed : (j : Judged) → IsPricesOf j c.args.prices.now → IfSome c.args.seed (IsCycleCost j) = search rules in
    let t = c.args.prices.now in
    rw c.shares_of_crew.ensures.seat (c.offer_seed.ensures.seat t seed (rw (c.in_ok-bound.ensures, floor) (new_seat t c.in_ok-bound.bound)))

pub gather-requires-clause-shares : goal.gather-requires-clause-shares
gather-requires-clause-shares g c = (c.args.workers, c.in_ok-shares.ensures.shares)

pub cost_in-least-requires : goal.cost_in-least-requires
cost_in-least-requires g c =
    let judged : HasJudged c.args.prices.now = search rules in
    let some : 0 < c.args.workers = search rules in
    let ens = c.in_ok-searches.ensures in
    let searches = ens.all c.args.workers some (c.in_ok-slots.ensures.kept c.args.workers c.in_ok-shares.ensures.shares) in
    word_fits (closed_by judged.1 ens.worker.seat searches ens.long c.close.ensures.least c.close.ensures.floor (omega arith))

pub returns : goal.returns
returns g c = λ j priced.
    let some : 0 < c.args.workers = search rules in
    let ens = c.in_ok-searches.ensures in
    let told = c.in_ok-found.ensures in
    let searches = ens.all c.args.workers some (c.in_ok-slots.ensures.kept c.args.workers c.in_ok-shares.ensures.shares) in
    found_at (closed_by priced ens.worker.seat searches ens.long c.close.ensures.least c.close.ensures.floor (omega arith)) c.cost_in-least.ensures
    (record { least_is = told.least; first = told.first; rows = told.rows; starts = told.starts })
