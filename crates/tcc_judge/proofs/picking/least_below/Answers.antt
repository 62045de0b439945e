use Rattle.std.specs.Prelude.{unwrap_or}
use Rattle.tcc_graph.specs.Levels.{judged}
use Rattle.tcc_lanes.specs.Among.{HasCheaperIntoInit}
use Rattle.tcc_judge.proofs.Leastness.{least_among, least_else, least_limit}
use Rattle.tcc_judge.proofs.picking.least_below.Goals as goal

pub cheapest_into_init-requires : goal.cheapest_into_init-requires
cheapest_into_init-requires c = rw c.deref.ensures.value c.requires.keys

pub cheapest_among-requires-clause-inside : goal.cheapest_among-requires-clause-inside
cheapest_among-requires-clause-inside c = rw c.deref-2.ensures.value c.requires.inside

pub cheapest_among-requires-clause-some : goal.cheapest_among-requires-clause-some
cheapest_among-requires-clause-some c = rw c.deref-2.ensures.value c.requires.aside

pub cheapest_among-requires-clause-ascending : goal.cheapest_among-requires-clause-ascending
cheapest_among-requires-clause-ascending c = rw c.deref-2.ensures.value c.requires.ascend

pub returns-in-Some : goal.returns-in-Some
returns-in-Some c =
    let j = judged c.args.graph.now c.args.level in
    let there = c.args.there.now in
    let (below, none) = least_limit (HasCheaperIntoInit j there.key_indices.items) c.args.most c.in_ok-into.into (rw c.deref.ensures.value at c.in_ok-into.ensures) in
    least_among j c.args.most there.members.items there.key_indices.items c.requires (unwrap_or c.in_ok-into.into c.args.most) below none c.in-Some.cost
    (rw (c.in-Some.is, c.deref-2.ensures.value, c.unwrap_or-limit.ensures) at c.in_ok-cost.ensures)

pub returns-in-None : goal.returns-in-None
returns-in-None c =
    let j = judged c.args.graph.now c.args.level in
    let there = c.args.there.now in
    least_else j c.args.most there.members.items there.key_indices.items c.requires c.in_ok-into.into (rw c.deref.ensures.value at c.in_ok-into.ensures)
    (rw (c.in-None.is, c.deref-2.ensures.value, c.unwrap_or-limit.ensures) at c.in_ok-cost.ensures)
