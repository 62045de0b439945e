use Rattle.std.proofs.Common.{◌≤◌, length, arith}
use Rattle.tcc_reads.specs.History.{count}
use Rattle.tcc_graph.specs.Levels.{Judged, judged}
use Rattle.tcc_txn.specs.declared.limits.TheConstants.{MAX_COUNT}
use Rattle.tcc_derive.proofs.PricesLemmas.{prices_of, shaped, others_within, others_priced, have_by_class}
use Rattle.tcc_derive.proofs.edge_weights.derive.Goals as goal

pub returns-clause-prices : goal.returns-clause-prices
returns-clause-prices g c =
    let j : Judged = judged c.args.graph.now c.args.near.now.level in
    rw c.level.ensures
    (prices_of j c.args.near.now c.in_ok-prices.prices.items c.in_ok-ends.ends.items c.in_ok-others.others.items c.cost_limit-limit.result c.requires
    c.in_ok-prices.ensures.rows
    c.in_ok-ends.ensures (rw c.deref.ensures.value at c.in_ok-others.ensures))

pub invariant_of-result : goal.invariant_of-result
invariant_of-result g c =
    let j : Judged = judged c.args.graph.now c.args.near.now.level in
    let rows = c.in_ok-prices.ensures.rows in
    let others = rw c.deref.ensures.value at c.in_ok-others.ensures in
    let few : count c.args.graph.now ≤ MAX_COUNT = omega (arith, c.in_ok-prices.ensures.few, rows.long) in (
      rw c.level.ensures
          (shaped j c.args.near.now c.in_ok-prices.prices.items c.in_ok-ends.ends.items c.in_ok-others.others.items c.cost_limit-limit.result c.requires rows
          c.in_ok-ends.ensures others few),
      rw c.level.ensures
          (have_by_class j c.args.near.now c.in_ok-prices.prices.items c.in_ok-ends.ends.items c.in_ok-others.others.items c.cost_limit-limit.result c.requires
          rows c.in_ok-ends.ensures others c.in_ok-by_class.by_class.items (rw (c.deref-4.ensures.value, c.deref-5.ensures.value) at c.in_ok-by_class.ensures)),
      rw c.deref-6.ensures.value at c.are_within-whole.ensures,
    )

pub cost_limit-limit-requires-clause-within : goal.cost_limit-limit-requires-clause-within
cost_limit-limit-requires-clause-within g c =
    let j : Judged = judged c.args.graph.now c.args.near.now.level in
    rw c.deref-3.ensures.value
    (others_within j c.args.near.now c.in_ok-prices.prices.items c.in_ok-ends.ends.items c.in_ok-others.others.items 0 c.requires c.in_ok-prices.ensures.rows
    c.in_ok-ends.ensures (rw c.deref.ensures.value at c.in_ok-others.ensures) (length c.args.near.now.rows) (omega (arith, c.requires.square.long)))

pub by_class_rows-requires-clause-within : goal.by_class_rows-requires-clause-within
by_class_rows-requires-clause-within g c κs inside =
    let j : Judged = judged c.args.graph.now c.args.near.now.level in
    let rows = c.in_ok-prices.ensures.rows in
    rw c.deref-4.ensures.value
    (others_within j c.args.near.now c.in_ok-prices.prices.items c.in_ok-ends.ends.items c.in_ok-others.others.items c.cost_limit-limit.result c.requires rows
    c.in_ok-ends.ensures (rw c.deref.ensures.value at c.in_ok-others.ensures) (length c.in_ok-others.others.items)
    (omega (arith, (rw c.deref.ensures.value at c.in_ok-others.ensures).long)))

pub returns-clause-limit : goal.returns-clause-limit
returns-clause-limit g c = rw c.deref-2.ensures.value at c.cost_limit-limit.ensures

pub cost_limit-limit-requires-clause-priced : goal.cost_limit-limit-requires-clause-priced
cost_limit-limit-requires-clause-priced g c =
    let j : Judged = judged c.args.graph.now c.args.near.now.level in
    rw (c.deref-2.ensures.value, c.deref-3.ensures.value)
    (others_priced j c.args.near.now c.in_ok-prices.prices.items c.in_ok-ends.ends.items c.in_ok-others.others.items 0 c.requires c.in_ok-prices.ensures.rows
    c.in_ok-ends.ensures (rw c.deref.ensures.value at c.in_ok-others.ensures))
