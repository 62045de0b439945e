-- the rows so far
use Rattle.std.proofs.Common.{◌≡◌, take}
use Rattle.tcc_explain.proofs.tables.clock_table.Given as goal

abbrev pub invariant-loop-row : goal.invariant-loop-row
invariant-loop-row l = l.rows.items ≡ take l.row-index l.clocks
