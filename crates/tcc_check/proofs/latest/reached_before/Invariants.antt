use Rattle.std.proofs.Common.{◌<◌, ◌≢◌, ℕ, get_or}
use Rattle.tcc_graph.specs.declared.level.Level.TheVariants.{Causal}
use Rattle.tcc_cert.specs.OrderRules.{MayReach}
use Rattle.tcc_check.proofs.latest.reached_before.Given as goal

abbrev pub invariant-loop-writer : goal.invariant-loop-writer
invariant-loop-writer l =
    (k : ℕ) (d : ℕ) → k < l.writer-index → get_or l.writers k d ≢ l.source → MayReach l.graph Causal l.clocks (get_or l.writers k d) l.c
    → get_or l.positions (get_or l.writers k d) 0 < get_or l.positions l.source 0
