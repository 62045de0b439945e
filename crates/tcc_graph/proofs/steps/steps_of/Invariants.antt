-- the steps so far, and those of the links that are left
use Rattle.std.proofs.Common.{◌≡◌, ◌+◌, drop}
use Rattle.tcc_graph.specs.Links.{cost}
use Rattle.tcc_graph.proofs.steps.steps_of.Given as goal

abbrev pub invariant-loop-link : goal.invariant-loop-link
invariant-loop-link l = l.steps + cost (drop l.link-index l.links) ≡ cost l.links
