use Rattle.std.proofs.Common.{◌<◌, List, ℕ, length, ◌∙◌, ap, subst, sym, arith}
use Rattle.std.specs.Prelude.{reverse}
use Rattle.std.proofs.lemmas.List.{reverse-reverse}
use Rattle.tcc_lanes.specs.Among.{HasCheaperAlong}
use Rattle.tcc_lanes.specs.Picked.{ArePicked}
use Rattle.tcc_lanes.proofs.Circled.{circled, way_first, way_more}
use Rattle.tcc_lanes.proofs.PickLemmas as pick
use Rattle.tcc_lanes.proofs.SettledCosts.{returned}
use Rattle.tcc_lanes.proofs.circling.circle.Goals as goal

pub loop-from-init : goal.loop-from-init
loop-from-init c = rw c.new-circle.ensures.items (record {
  inside = c.requires.start;
  way = λ j are low. way_first j c.args.members.now c.args.start c.in_ok-costs.costs.items;
  picked = λ j n limit are ascending has every lowest.
      let (level, far, w) = c.in_ok-costs.ensures.reached j c.args.members.now are in
      pick.way_none j c.args.members.now n c.args.most limit c.args.rows.now are ascending c.args.start (omega (arith, c.requires.start, c.requires.same))
      (omega (arith, c.ranges.most.fits)) level c.in_ok-costs.costs.items far w has every lowest;
})

pub loop-from-preserved : goal.loop-from-preserved
loop-from-preserved c =
    let members = c.args.members.now in
    let costs = c.in_ok-costs.costs.items in
    let from = c.in-Some.from in
    let to = c.loop-from.to in
    let found = rw c.deref.ensures.value at c.in-Some.ensures in
    let here : from < length members = omega (arith, found.0, c.requires.same) in
    let within : to < length members = omega (arith, c.loop-from.invariant.inside, c.requires.same) in
    rw c.in_ok-push.ensures.items (record {
      inside = found.0;
      way = λ j are low.
          way_more j members c.args.most c.args.rows.now are c.args.start costs (omega (arith, c.ranges.most.fits)) low from to c.loop-from.circle.items here within found.1.sum
          (c.loop-from.invariant.way j are low);
      picked = λ j n limit are ascending has every lowest.
          let (level, far, w) = c.in_ok-costs.ensures.reached j members are in
          pick.way_more j members n c.args.most limit c.args.rows.now are ascending c.args.start (omega (arith, c.requires.start, c.requires.same)) (omega (arith, c.ranges.most.fits))
          level costs far w has every lowest to within c.loop-from.circle.items (c.loop-from.invariant.picked j n limit are ascending has every lowest) from here
          found.1;
    })

pub returns-clause-along : goal.returns-clause-along
returns-clause-along c = λ j are ascending has.
    let members = c.args.members.now in
    let costs = c.in_ok-costs.costs.items in
    let to = c.loop-from.to in
    let inside : c.args.start < length members = omega (arith, c.requires.start, c.requires.same) in
    let (level, far, w) = c.in_ok-costs.ensures.reached j members are in
    let low = returned j members c.args.most c.args.rows.now are c.args.start inside ascending level costs far w has in
    let direct = rw (c.in_default.is, c.deref.ensures.value) at c.before-in-loop-from.ensures in
    subst (λ (all : List ℕ). HasCheaperAlong j all c.args.most)
    (sym (c.reverse.ensures.items ∙ ap reverse c.in_ok-push-2.ensures.items))
    (circled j members c.args.most c.args.rows.now are c.args.start costs (omega (arith, c.ranges.most.fits)) low to c.loop-from.circle.items inside
    (omega (arith, c.loop-from.invariant.inside, c.requires.same)) (omega (arith, direct)) (c.loop-from.invariant.way j are low))

pub returns-clause-picked : goal.returns-clause-picked
returns-clause-picked c = λ j n limit are ascending has every lowest.
    let members = c.args.members.now in
    let costs = c.in_ok-costs.costs.items in
    let to = c.loop-from.to in
    let inside : c.args.start < length members = omega (arith, c.requires.start, c.requires.same) in
    let (level, far, w) = c.in_ok-costs.ensures.reached j members are in
    let direct = rw (c.in_default.is, c.deref.ensures.value) at c.before-in-loop-from.ensures in
    let start : ℕ = Rattle.std.proofs.Common.get_or members c.args.start 0 in
    subst (λ (all : List ℕ). ArePicked j start start n all)
    (sym (ap reverse (c.reverse.ensures.items ∙ ap reverse c.in_ok-push-2.ensures.items) ∙ reverse-reverse _))
    (pick.way_done j members n c.args.most limit c.args.rows.now are ascending c.args.start inside (omega (arith, c.ranges.most.fits)) level costs far w has every lowest to
    (omega (arith, c.loop-from.invariant.inside, c.requires.same)) c.loop-from.circle.items (c.loop-from.invariant.picked j n limit are ascending has every lowest)
    direct)
