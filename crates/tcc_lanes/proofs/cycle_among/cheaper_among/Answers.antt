use Rattle.std.proofs.Common.{below_more, get_or, length, sym, ◌∙◌, arith}
use Rattle.std.proofs.lemmas.Bool.{false≢true}
use Rattle.tcc_graph.specs.Levels.{judged}
use Rattle.tcc_lanes.specs.private.Pricing.{ArePriceRows, IsTable}
use Rattle.tcc_lanes.proofs.PickLemmas.{lowest_start}
use Rattle.tcc_lanes.proofs.SettledCosts.{from_start, none_from, is_table}
use Rattle.tcc_lanes.proofs.cycle_among.cheaper_among.Goals.{In_ok-rows}
use Rattle.tcc_lanes.proofs.cycle_among.cheaper_among.Goals as goal

pub has_return-requires-clause-table : goal.has_return-requires-clause-table
has_return-requires-clause-table c =
    rw (c.deref.ensures.value) (is_table (judged c.args.graph.now c.args.level) c.args.members.now c.args.most c.in_ok-rows.rows.items c.in_ok-rows.ensures)

pub has_return-requires-clause-start : goal.has_return-requires-clause-start
has_return-requires-clause-start c =
    let long = c.in_ok-rows.ensures.long in
    rw (c.deref.ensures.value) (omega (arith, long, c.loop-start-test.true))

table : (c : In_ok-rows) → IsTable c.in_ok-rows.rows.items
table c = is_table (judged c.args.graph.now c.args.level) c.args.members.now c.args.most c.in_ok-rows.rows.items c.in_ok-rows.ensures

pub circle-requires-clause-table : goal.circle-requires-clause-table
circle-requires-clause-table c = rw (c.deref-then-branch.ensures.value) (table (goal.at.circle-requires-clause-table c).In_ok-rows)

pub circle-requires-clause-start : goal.circle-requires-clause-start
circle-requires-clause-start c = let long = c.in_ok-rows.ensures.long in rw (c.deref-then-branch.ensures.value) (omega (arith, long, c.loop-start-test.true))

pub circle-requires-clause-same : goal.circle-requires-clause-same
circle-requires-clause-same c = let long = c.in_ok-rows.ensures.long in rw (c.deref-then-branch.ensures.value) (omega (arith, long))

pub returns-then-branch-clause-found : goal.returns-then-branch-clause-found
returns-then-branch-clause-found c =
    let j = judged c.args.graph.now c.args.level in
    let members = c.args.members.now in
    let are : ArePriceRows j members c.args.most (length members) c.deref.result.now = rw (c.deref.ensures.value) c.in_ok-rows.ensures in
    let again : ArePriceRows j members c.args.most (length members) c.deref-then-branch.result.now
    = rw (c.deref-then-branch.ensures.value) c.in_ok-rows.ensures in
    let has = (c.in_ok-has_return.ensures j members are c.requires.ascending).0 c.if-branch.true in (
      from_start j members c.args.most c.in_ok-rows.rows.items c.in_ok-rows.ensures c.loop-start.start c.loop-start-test.true has,
      c.in_ok-circle.ensures.along j again c.requires.ascending has,
    )

pub loop-start-preserved : goal.loop-start-preserved
loop-start-preserved c =
    let j = judged c.args.graph.now c.args.level in
    let members = c.args.members.now in
    let are : ArePriceRows j members c.args.most (length members) c.deref.result.now = rw (c.deref.ensures.value) c.in_ok-rows.ensures in
    below_more _ _ c.loop-start.invariant
    (λ inside has. false≢true (sym c.if-branch.false ∙ (c.in_ok-has_return.ensures j members are c.requires.ascending).1 has))

pub returns-clause-found : goal.returns-clause-found
returns-clause-found c = λ has.
    none_from (judged c.args.graph.now c.args.level) c.args.members.now c.args.most c.in_ok-rows.rows.items c.in_ok-rows.ensures c.loop-start.start
    c.loop-start-test.false c.loop-start.invariant has

pub returns-then-branch-clause-picked : goal.returns-then-branch-clause-picked
returns-then-branch-clause-picked c = λ n limit every.
    let j = judged c.args.graph.now c.args.level in
    let members = c.args.members.now in
    let are : ArePriceRows j members c.args.most (length members) c.deref.result.now = rw (c.deref.ensures.value) c.in_ok-rows.ensures in
    let again : ArePriceRows j members c.args.most (length members) c.deref-then-branch.result.now
    = rw (c.deref-then-branch.ensures.value) c.in_ok-rows.ensures in
    let has = (c.in_ok-has_return.ensures j members are c.requires.ascending).0 c.if-branch.true in
    let lowest = lowest_start j members n c.args.most limit c.requires.ascending c.loop-start.start c.loop-start.invariant every in
    (get_or members c.loop-start.start 0, lowest, c.in_ok-circle.ensures.picked j n limit again c.requires.ascending has every lowest)
