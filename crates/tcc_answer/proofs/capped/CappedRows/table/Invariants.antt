-- the rows so far, capped
use Rattle.std.proofs.Common.{◌≡◌, map, take}
use Rattle.tcc_bits.specs.Packed.{at_most}
use Rattle.tcc_answer.proofs.capped.CappedRows.table.Given as goal

abbrev pub invariant-loop-row : goal.invariant-loop-row
invariant-loop-row l = l.rows.items ≡ map (map (at_most l.self-inside.cap)) (take l.row-index l.self-inside.rows.items)
