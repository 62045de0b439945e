-- What the rules on a claim of a cycle mean.
use Rattle.std.proofs.Common.{List, arith}
use Rattle.tcc_reads.specs.History.{History}
use Rattle.tcc_graph.specs.Levels.{judged}
use Rattle.tcc_graph.specs.Routes.{IsCycle, IsLeastCycle}
use Rattle.tcc_cert.specs.CycleRules.{ends_at}
use Rattle.tcc_cert.specs.declared.large.LinksClaim.{LinksClaim}
use Rattle.tcc_cert.specs.declared.large.Run.{Run}
use Rattle.tcc_rules.specs.Asked.{AllHold}
use Rattle.tcc_rules.proofs.RightLinks.{cycle_of_right}
use Rattle.tcc_judge.specs.Cycles.{IsRightCycle}
use Rattle.tcc_judge.specs.Verdicts.{least_rules}

module _ (h : History) (k : LinksClaim) (good : IsRightCycle h k) where
  pub right_cycle : IsCycle (judged h k.level) (ends_at 0 k.links) k.links
  right_cycle = cycle_of_right (judged h k.level) k.cost k.links good

  pub least_cycle : (runs : List Run) → AllHold (least_rules h k.level k.cost runs) → IsLeastCycle (judged h k.level) (ends_at 0 k.links) k.links
  least_cycle runs (rounds, (returns, (onward, (limits, (none, rest))))) = record {
    cycle = right_cycle;
    least = λ t others cycle. omega (arith, none t others cycle, good.costs);
  }
