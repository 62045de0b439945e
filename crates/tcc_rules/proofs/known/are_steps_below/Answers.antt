use Rattle.tcc_reads.specs.History.{count}
use Rattle.tcc_graph.specs.Walks.{IsStepBelow}
use Rattle.tcc_rules.proofs.KnownLemmas.{one_bad, one_good}
use Rattle.tcc_rules.proofs.known.are_steps_below.Goals as goal

pub returns-then-not-are_below : goal.returns-then-not-are_below
returns-then-not-are_below c walk all = one_bad (IsStepBelow (count c.args.graph.now)) walk c.args.step.now c.args.are_below all c.if-not-are_below.true

pub returns : goal.returns
returns c walk all =
    one_good (IsStepBelow (count c.args.graph.now)) walk c.args.step.now c.args.are_below c.is_below.result all c.if-not-are_below.false
    (rw c.count.ensures.value at c.is_below.ensures)
