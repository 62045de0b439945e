use Rattle.std.proofs.Common.{ℕ, ◌+◌, ◌-◌, ◌≡◌, subst, arith}
use Rattle.std.specs.Prelude.{min}
use Rattle.tcc_graph.specs.Levels.{judged}
use Rattle.tcc_least.specs.Shapes.{NoneBelow}
use Rattle.tcc_least.specs.private.Building.{IsShortCycle}
use Rattle.tcc_least.proofs.Built.{one_at_least, least_at}
use Rattle.tcc_least.proofs.building.least_short.Goals as goal

pub loop-below-init : goal.loop-below-init
loop-below-init c = λ level. one_at_least c.args.graph.now level

pub returns-in-Some-short_cycle : goal.returns-in-Some-short_cycle
returns-in-Some-short_cycle c = λ level.
    let h = c.args.graph.now in
    let below : ℕ = c.loop-below.below in
    let links = c.in_ok-links_at.field-0.items in
    let short : IsShortCycle h (min below 4) links = c.in_ok-links_at.ensures (min below 4) (omega arith) c.in-Some-short_cycle.ensures.place in (
      least_at h level (below - 1) (min below 4) links (omega (arith, c.loop-below.auto.below)) (c.loop-below.invariant level) short,
      omega (arith, short.1, c.loop-below-test.true, c.up_to_four-below-end.ensures),
    )

pub loop-below-preserved : goal.loop-below-preserved
loop-below-preserved c = λ level.
    let below : ℕ = c.loop-below.below in
    let same : min below 4 ≡ below + 1 - 1 = omega (arith, c.loop-below-test.true, c.up_to_four-below-end.ensures) in
    subst (λ (z : ℕ). NoneBelow (judged c.args.graph.now level) z) same (c.in_default-short_cycle.ensures.cycle level)

pub returns : goal.returns
returns c = λ level.
    let h = c.args.graph.now in
    let below : ℕ = c.loop-below.below in
    let links = c.in_ok-links_at-2.field-0.items in
    let short : IsShortCycle h (min c.args.cost 4) links = c.in_ok-links_at-2.ensures (min c.args.cost 4) (omega arith) c.in-Some.ensures.place in (
      least_at h level (below - 1) (min c.args.cost 4) links
          (omega (arith, c.loop-below.auto.below, c.loop-below-test.false, c.up_to_four-below-end.ensures)) (c.loop-below.invariant level) short,
      short.1,
    )
