use Rattle.std.proofs.Common.{◌<◌, ◌≤◌, ℕ, get_or}
use Rattle.tcc_check.proofs.single_pairs.writer_stands.Given as goal

abbrev pub invariant-loop-key : goal.invariant-loop-key
invariant-loop-key l = (j : ℕ) → j < l.key-index → get_or l.positions l.b 0 ≤ get_or l.sources (get_or l.key-items j 0) 0
