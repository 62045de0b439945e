use Rattle.std.proofs.Common.{◌<◌, ◌≤◌, ℕ, List, length}
use Rattle.std.specs.Prelude.{AllPairs}
use Rattle.tcc_graph.specs.Levels.{Judged}
use Rattle.tcc_lanes.specs.private.Pricing.{ArePriceRows}
use Rattle.tcc_lanes.proofs.FeedbackLemmas.{IsLeastOf}
use Rattle.tcc_lanes.proofs.cycle_among.least_around.Given as goal

abbrev pub invariant-loop-start : goal.invariant-loop-start
invariant-loop-start l = record {
  within : l.least ≤ l.most;
  each : (j : Judged) (members : List ℕ) → ArePriceRows j members l.most (length members) l.rows → AllPairs (λ u v. u < v) members
      → IsLeastOf j members l.most l.is_start-items l.start l.least;
}
