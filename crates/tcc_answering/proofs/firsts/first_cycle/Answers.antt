use Rattle.std.proofs.Common.{◌≡◌, arith}
use Rattle.tcc_graph.specs.Links.{cost}
use Rattle.tcc_answering.proofs.firsts.first_cycle.Goals.{In_ok-steps}
use Rattle.tcc_answering.proofs.firsts.first_cycle.Goals as goal

steps_are : (c : In_ok-steps) → c.in_ok-steps.steps ≡ cost c.args.links.items
steps_are c = rw c.deref.ensures.value at c.in_ok-steps.ensures.steps

pub returns-then-steps-lt4 : goal.returns-then-steps-lt4
returns-then-steps-lt4 c = c.requires.short (omega (arith, c.if-steps-lt4.true, steps_are (goal.at.returns-then-steps-lt4 c).In_ok-steps))

pub first_links-requires-clause-none : goal.first_links-requires-clause-none
first_links-requires-clause-none c =
    c.requires.none (omega (arith, c.if-steps-lt4.false, steps_are (goal.at.first_links-requires-clause-none c).In_ok-steps))

pub first_links-requires-clause-some : goal.first_links-requires-clause-some
first_links-requires-clause-some c = λ none.
    let (s, cycle) = c.requires.cycle in
    omega (arith, none s c.args.links.items cycle, steps_are (goal.at.first_links-requires-clause-some c).In_ok-steps)
