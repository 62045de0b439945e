use Rattle.std.proofs.Common.{ℕ, List, Bor, Some}
use Rattle.tcc_full.specs.private.Noting.{IsNoted}
use Rattle.tcc_full.proofs.rows.operation_rows.Given as goal

abbrev pub invariant-loop-row : goal.invariant-loop-row
invariant-loop-row l = IsNoted (λ (s : Bor (List ℕ)). Some s.now) l.text l.reader l.row l.rows
