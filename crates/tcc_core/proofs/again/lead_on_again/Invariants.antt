use Rattle.std.proofs.Common.{◌≡◌}
use Rattle.tcc_graph.specs.Levels.{Judged}
use Rattle.tcc_derive.specs.Prices.{IsPricesOf}
use Rattle.tcc_core.specs.private.Offers.{IsLower, IsOffered}
use Rattle.tcc_core.proofs.Catching.{IsWayBelow}
use Rattle.tcc_core.proofs.again.lead_on_again.Given as goal

abbrev pub invariant-loop-u : goal.invariant-loop-u
invariant-loop-u l = record {
  floor : l.frontier.floor ≡ l.initial.frontier.floor;
  lower : IsLower l.initial.frontier.floor l.initial.frontier.costs l.frontier.costs;
  offered : (j : Judged) → IsPricesOf j l.prices → IsOffered (IsWayBelow l.prices l.start l.row l.cap l.u) l.initial.frontier.floor l.initial.frontier.costs
      l.frontier.costs;
}
