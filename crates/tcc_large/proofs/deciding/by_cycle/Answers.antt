use Rattle.std.proofs.Common.{List, ◌≡◌, ◌≤◌, arith}
use Rattle.tcc_graph.specs.Levels.{Judged, judged}
use Rattle.tcc_graph.specs.Links.{cost}
use Rattle.tcc_graph.specs.declared.link.Link.{Link}
use Rattle.tcc_least.specs.Shapes.{AreLeast, NoneBelow}
use Rattle.tcc_graph.specs.Routes.{AreCycle}
use Rattle.tcc_large.proofs.Returned.{cycle_closed, least_of_four, not_short}
use Rattle.tcc_large.proofs.deciding.by_cycle.Goals as goal

pub returns-in-Some : goal.returns-in-Some
returns-in-Some c =
    let found = rw c.in-Some.is at (c.in_ok-_start.ensures c.args.at.now.level) in
    ((c.in-Some._start, found.0.least), (λ low. (c.in-Some._start, found.0)))

pub returns-then-branch-le4 : goal.returns-then-branch-le4
returns-then-branch-le4 c =
    let j : Judged = judged c.args.at.now.graph.now c.args.at.now.level in
    let links = c.in_ok-links.links.items in
    let steps : c.in_ok-steps_of.field-0 ≡ cost links = rw c.deref.ensures.value at c.in_ok-steps_of.ensures.steps in
    let none : NoneBelow j 4 = rw c.in_default.is at (c.in_ok-_start.ensures c.args.at.now.level) in
    let cycle : AreCycle j links = c.in_ok-links.ensures.cycle j c.in_ok-any.ensures in
    (least_of_four j links none (omega (arith, steps, c.if-branch-le4.true)) cycle, not_short j links none cycle)

pub returns-else-branch-le4 : goal.returns-else-branch-le4
returns-else-branch-le4 c =
    let steps : c.in_ok-steps_of.field-0 ≡ cost c.in_ok-links.links.items = rw c.deref.ensures.value at c.in_ok-steps_of.ensures.steps in (
      c.in_ok-links.ensures.cycle (judged c.args.at.now.graph.now c.args.at.now.level) c.in_ok-any.ensures,
      omega (arith, steps, c.if-branch-le4.false),
      rw c.in_default.is at (c.in_ok-_start.ensures c.args.at.now.level),
      c.in_ok-links.ensures.simple,
    )

pub simple_cycle-requires : goal.simple_cycle-requires
simple_cycle-requires c =
    let j : Judged = judged c.args.at.now.graph.now c.args.at.now.level in
    rw c.count.ensures.value (cycle_closed j c.in_ok-any.any.items c.in_ok-any.ensures)
