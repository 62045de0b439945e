use Rattle.std.proofs.Common.{◌<◌, ℕ}
use Rattle.tcc_graph.specs.Relations.{IsCausalPair}
use Rattle.tcc_check.specs.private.Positions.{IsKept}
use Rattle.tcc_check.proofs.order.keeps_pairs.Given as goal

abbrev pub invariant-loop-c : goal.invariant-loop-c
invariant-loop-c l = (b c : ℕ) → c < l.c → IsCausalPair l.graph b c → IsKept l.graph l.claim.level l.positions l.claim.clocks b c
