use Rattle.std.proofs.Common.{◌≡◌, length, replicate}
use Rattle.std.specs.Prelude.{All}
use Rattle.tcc_near.specs.declared.walk_lengths.TheConstants.{NONE}
use Rattle.tcc_near.proofs.topological.blank_rows.Given as goal

abbrev pub invariant-loop-row : goal.invariant-loop-row
invariant-loop-row l = (length l.rows.items ≡ l._row) × All (λ row. row ≡ replicate l.width NONE) l.rows.items
