use Rattle.std.proofs.Common.{arith}
use Rattle.tcc_graph.specs.Levels.{judged}
use Rattle.tcc_graph.specs.declared.level.Level.TheVariants.{Causal}
use Rattle.tcc_first.proofs.Picking.{under_way, never_stuck, one_more, all_picked, all_paid}
use Rattle.tcc_first.proofs.LastLemmas.{low, none_last, first_last, last_costs, kind_last}
use Rattle.tcc_first.proofs.short.links_from.Goals as goal

pub loop-left-init : goal.loop-left-init
loop-left-init c = (c.requires.start, λ level. rw c.new-picked.ensures.items (under_way (c.requires.first level)))

pub last_start-requires-clause-few : goal.last_start-requires-clause-few
last_start-requires-clause-few c = low (c.requires.first Causal) c.requires.few (c.loop-left.invariant.1 Causal)

pub unreachable-requires : goal.unreachable-requires
unreachable-requires c =
    never_stuck (c.requires.first Causal) (c.loop-left.invariant.1 Causal) c.loop-left-test.true
    (none_last (c.requires.first Causal) c.requires.few (c.loop-left.invariant.1 Causal) c.in_default.ensures)

pub first_link-requires-clause-some : goal.first_link-requires-clause-some
first_link-requires-clause-some c =
    kind_last c.args.graph.now c.args.start c.loop-left.end c.loop-left.left c.in-Some.from c.in-Some.steps c.in-Some.ensures.1

pub overflow_sub-left : goal.overflow_sub-left
overflow_sub-left c =
    (last_costs (judged c.args.graph.now Causal) c.args.start c.loop-left.end c.loop-left.left c.in-Some.from c.in-Some.steps c.in-Some.ensures.1).1

pub loop-left-smaller : goal.loop-left-smaller
loop-left-smaller c =
    let costs = last_costs (judged c.args.graph.now Causal) c.args.start c.loop-left.end c.loop-left.left c.in-Some.from c.in-Some.steps c.in-Some.ensures.1 in
    omega (arith, costs.0, costs.1)

pub loop-left-preserved : goal.loop-left-preserved
loop-left-preserved c =
    let (below, last, lowest) = c.in-Some.ensures in
    let costs = last_costs (judged c.args.graph.now Causal) c.args.start c.loop-left.end c.loop-left.left c.in-Some.from c.in-Some.steps last in (
      below,
      λ level.
          let link = c.in_ok-link.ensures level in
          rw c.in_ok-push.ensures.items
          (one_more (c.requires.first level) (c.loop-left.invariant.1 level)
          (first_last (c.requires.first level) c.requires.few (c.loop-left.invariant.1 level) last lowest link) link.from
          (omega (arith, link.steps, costs.0, costs.1))),
    )

pub returns : goal.returns
returns c = λ level. (
  rw c.reverse.ensures.items (all_picked (c.requires.first level) (rw c.loop-left-test.false at c.loop-left.invariant.1 level)),
  rw c.reverse.ensures.items (all_paid (c.requires.first level) (rw c.loop-left-test.false at c.loop-left.invariant.1 level)),
)
