use Rattle.std.proofs.Common.{◌≤◌, ◌+◌, length, refl, sym, ◌∙◌, ap, arith}
use Rattle.tcc_txn.specs.declared.limits.TheConstants.{MAX_COUNT}
use Rattle.tcc_graph.specs.Levels.{Judged}
use Rattle.tcc_derive.specs.Prices.{IsPricesOf}
use Rattle.tcc_bound.specs.Seated.{Seated}
use Rattle.tcc_core.specs.declared.settled.Settled.TheVariants as settled
use Rattle.tcc_steal.proofs.Floor.{floor_below}
use Rattle.tcc_steal.proofs.Rows.{IsOn, IsStep, on_more, on_never_over, returned_cost, ended_returned, ended_cut}
use Rattle.tcc_steal.proofs.Seats.{looked, offered, knows_join}
use Rattle.tcc_steal.proofs.bounded_search.run.Goals.{then-settled-eq0, else-settled-eq0}
use Rattle.tcc_steal.proofs.bounded_search.run.Goals as goal

pub loop-settled-init : goal.loop-settled-init
loop-settled-init c =
    let look = c.look-cap.ensures in
    let (seat, more) = looked c.requires.seat look.seat look.least (omega arith) in (
      refl,
      refl,
      sym (ap (λ (s : Seated). s.known.sight) look.seat),
      seat,
      more,
      λ j priced. record { search_of = c.requires.opening.search_of j priced; outside = c.requires.opening.outside; many = omega arith },
    )

pub offer-requires-clause-cost : goal.offer-requires-clause-cost
offer-requires-clause-cost c =
    let (j, priced) = c.requires.prices in
    let s = c.args.search.now.start in
    let is = (c.loop-settled.invariant.5 j priced).search_of in
    let step : IsStep j s c.loop-settled.cap c.loop-settled.search c.settle.new.self (settled.Returned c.in-Returned.cost) =
    record { search_of = c.settle.ensures.search j s priced is; settles = c.in-Returned.ensures.settled j s priced is } in
    let low = floor_below j c.args.prices.now priced c.in-Returned.cost (returned_cost step) in
    (omega (arith, low, c.loop-settled.invariant.3.floor), omega arith)

pub returns-in-Returned : goal.returns-in-Returned
returns-in-Returned c =
    let s = c.args.search.now.start in
    let (start, long, sight, seat, more, on) = c.loop-settled.invariant in
    let step : (j : Judged) → IsPricesOf j c.args.prices.now
    → IsStep j s c.loop-settled.cap c.loop-settled.search c.settle.new.self (settled.Returned c.in-Returned.cost) = λ j priced.
    let is = (on j priced).search_of in
    record { search_of = c.settle.ensures.search j s priced is; settles = c.in-Returned.ensures.settled j s priced is } in
    let costs = λ (j : Judged) (priced : IsPricesOf j c.args.prices.now). returned_cost (step j priced) in
    let (taken, knows, within) = offered seat c.in-Returned.cost costs (omega arith) c.offer.ensures.seat c.offer.ensures.least (omega arith) in
    record {
      start = c.settle.ensures.start ∙ start;
      long = c.settle.ensures.long ∙ long;
      seat = taken;
      knows = knows_join more knows;
      ended = λ j priced. ended_returned (step j priced) within;
    }

pub returns-in-Cut-clause-ended : goal.returns-in-Cut-clause-ended
returns-in-Cut-clause-ended c = λ j priced.
    let s = c.args.search.now.start in
    let on = c.loop-settled.invariant.5 j priced in
    let step : IsStep j s c.loop-settled.cap c.loop-settled.search c.settle.new.self (settled.Cut c.in-Cut.field-0) =
    record { search_of = c.settle.ensures.search j s priced on.search_of; settles = c.in-Cut.ensures.settled j s priced on.search_of } in
    ended_cut c.loop-settled.invariant.2 on step

pub loop-settled-preserved : goal.loop-settled-preserved
loop-settled-preserved c =
    let t = c.args.prices.now in
    let s = c.args.search.now.start in
    let (start, long, sight, seat, more, on) = c.loop-settled.invariant in
    let next : (j : Judged) → IsPricesOf j t → IsOn j s (c.loop-settled.settled + 1) c.settle.new.self = λ j priced.
    let is = (on j priced).search_of in
    let step : IsStep j s c.loop-settled.cap c.loop-settled.search c.settle.new.self settled.More =
    record { search_of = c.settle.ensures.search j s priced is; settles = c.in-More.ensures.settled j s priced is } in
    on_more (on j priced) step in
    elim c.if-settled-eq0.branch [
      | then-settled-eq0 w ↦
          let look = w.look-cap-then-settled-eq0.ensures in
          let (looking, knows) = looked seat look.seat look.least (omega arith) in
          rw (w.cap-is, w.seat-is) (
            c.settle.ensures.start ∙ start,
            c.settle.ensures.long ∙ long,
            sym (ap (λ (x : Seated). x.known.sight) look.seat),
            looking,
            knows_join more knows,
            next,
          )
      | else-settled-eq0 w ↦
          rw (w.cap-is, w.seat-is) (c.settle.ensures.start ∙ start, c.settle.ensures.long ∙ long, sight, seat, more, next)
    ]

pub returns-clause-ended : goal.returns-clause-ended
returns-clause-ended c = λ j priced.
    let on = c.loop-settled.invariant.5 j priced in
    let few : length c.loop-settled.search.row ≤ MAX_COUNT = omega (arith, c.loop-settled.invariant.1, c.requires.long, c.requires.few) in
    absurd (on_never_over (omega (arith, c.loop-settled-test.false)) on few)
