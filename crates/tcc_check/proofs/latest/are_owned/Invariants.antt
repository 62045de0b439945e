use Rattle.std.proofs.Common.{◌<◌, ℕ, length}
use Rattle.tcc_reads.specs.History.{count, owner}
use Rattle.tcc_check.proofs.latest.are_owned.Given as goal

abbrev pub invariant-loop-number : goal.invariant-loop-number
invariant-loop-number l = (n : ℕ) → n < l.number → 0 < n → n < count l.graph → owner l.graph n < length l.graph.sessions
