use Rattle.std.proofs.Common.{◌<◌, inl, inr, subst}
use Rattle.std.specs.List.{All}
use Rattle.tcc_reads.specs.History.{count}
use Rattle.tcc_graph.specs.Levels.{judged}
use Rattle.tcc_judge.proofs.Leastness.{all_of_cost, into_picked, none_cheaper, some_cheaper}
use Rattle.tcc_judge.proofs.PickingLemmas.{begin_inside}
use Rattle.tcc_judge.proofs.picking.circle_below.Goals as goal

pub lowest_into_init-requires : goal.lowest_into_init-requires
lowest_into_init-requires c = rw c.deref.ensures.value c.requires.all.keys

pub cheaper_among-requires-clause-inside : goal.cheaper_among-requires-clause-inside
cheaper_among-requires-clause-inside c = rw c.deref-2.ensures.value c.requires.all.inside

pub cheaper_among-requires-clause-some : goal.cheaper_among-requires-clause-some
cheaper_among-requires-clause-some c = rw c.deref-2.ensures.value c.requires.all.aside

pub cheaper_among-requires-clause-ascending : goal.cheaper_among-requires-clause-ascending
cheaper_among-requires-clause-ascending c = rw c.deref-2.ensures.value c.requires.all.ascend

pub returns-in-Some : goal.returns-in-Some
returns-in-Some c =
    let j = judged c.args.graph.now c.args.level in
    let there = c.args.there.now in
    let lowest = rw (c.in-Some.is, c.deref.ensures.value) at c.in_ok-writer.ensures in (
      (λ none. some_cheaper j c.args.most there.members.items there.key_indices.items c.requires.all (inr (c.in-Some.writer, lowest.0)) none),
      (λ n limit none. rw c.in_ok-around_init.ensures
          (into_picked j c.args.most there.members.items there.key_indices.items c.requires.all c.requires.none n limit none c.in-Some.writer lowest)),
    )

pub returns-in-Some-2 : goal.returns-in-Some-2
returns-in-Some-2 c =
    let j = judged c.args.graph.now c.args.level in
    let there = c.args.there.now in
    let into = rw (c.in_default.is, c.deref.ensures.value) at c.in_ok-writer.ensures in
    let found = rw (c.in-Some-2.is, c.deref-2.ensures.value) at c.in_ok-circle.ensures.found in
    let (v, links, cycle, along, few) = found.1 in (
      (λ none. some_cheaper j c.args.most there.members.items there.key_indices.items c.requires.all (inl found.0) none),
      (λ n limit none. (
        subst (All (λ v. v < count c.args.graph.now)) along (begin_inside j v v links cycle.1),
        (rw c.in-Some-2.is at (c.in_ok-circle.ensures.picked n limit (rw c.deref-2.ensures.value
            (all_of_cost j c.args.most there.members.items there.key_indices.items c.requires.all n limit none into)))),
      )),
    )

pub returns-in-None : goal.returns-in-None
returns-in-None c =
    let j = judged c.args.graph.now c.args.level in
    let there = c.args.there.now in
    let into = rw (c.in_default.is, c.deref.ensures.value) at c.in_ok-writer.ensures in
    let among = rw (c.in-None.is, c.deref-2.ensures.value) at c.in_ok-circle.ensures.found in
    none_cheaper j c.args.most there.members.items there.key_indices.items c.requires.all (elim [ inl is ↦ among is | inr is ↦ into is ])
