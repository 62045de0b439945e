use Rattle.std.proofs.Common.{◌≡◌, ℕ, length, subst, arith}
use Rattle.tcc_graph.specs.Levels.{judged}
use Rattle.tcc_lanes.specs.Among.{HasCheaperAmong}
use Rattle.tcc_lanes.specs.private.Pricing.{ArePriceRows}
use Rattle.tcc_lanes.proofs.SettledCosts.{is_table}
use Rattle.tcc_lanes.proofs.cycle_among.cheapest_among.Goals as goal

pub least_around-requires : goal.least_around-requires
least_around-requires c =
    rw (c.deref.ensures.value) (record {
      table = is_table (judged c.args.graph.now c.args.level) c.args.members.now c.args.most c.in_ok-rows.rows.items c.in_ok-rows.ensures;
    })

pub returns-then-least-most : goal.returns-then-least-most
returns-then-least-most c =
    let j = judged c.args.graph.now c.args.level in
    let members = c.args.members.now in
    let are : ArePriceRows j members c.args.most (length members) c.deref.result.now = rw (c.deref.ensures.value) c.in_ok-rows.ensures in
    let is = c.in_ok-least.ensures.each j members are c.requires.ascending in
    (c.if-least-most.true, is.1 c.if-least-most.true, is.0)

pub returns : goal.returns
returns c =
    let j = judged c.args.graph.now c.args.level in
    let members = c.args.members.now in
    let are : ArePriceRows j members c.args.most (length members) c.deref.result.now = rw (c.deref.ensures.value) c.in_ok-rows.ensures in
    let is = c.in_ok-least.ensures.each j members are c.requires.ascending in
    let same : c.in_ok-least.least ≡ c.args.most = omega (arith, c.if-least-most.false, c.in_ok-least.ensures.within) in
    subst (λ (z : ℕ). HasCheaperAmong j members z → ⊥) same is.0
