use Rattle.std.proofs.Common.{ℕ, ◌<◌}
use Rattle.tcc_least.specs.Shapes.{IsRound}
use Rattle.tcc_least.proofs.rounds.first_round.Given as goal

abbrev pub invariant-loop-source : goal.invariant-loop-source
invariant-loop-source l = (a : ℕ) → a < l.source → (c : ℕ) → IsRound l.graph l.below a c → ⊥
