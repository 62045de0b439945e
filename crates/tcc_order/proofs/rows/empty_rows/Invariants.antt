use Rattle.std.proofs.Common.{◌≡◌, length}
use Rattle.tcc_order.specs.private.CausalLinks.{HasNone}
use Rattle.tcc_order.proofs.rows.empty_rows.Given as goal

abbrev pub invariant-loop-row : goal.invariant-loop-row
invariant-loop-row g l = (length l.rows.items ≡ l._row) × HasNone l.rows.items
