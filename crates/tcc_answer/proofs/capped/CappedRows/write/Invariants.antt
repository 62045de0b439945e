-- the rows so far were given, capped
use Rattle.std.proofs.Common.{◌≡◌, ℕ, List, Option, length, map, take}
use Rattle.tcc_txn.specs.declared.limits.TheConstants.{MAX_COUNT}
use Rattle.tcc_bits.specs.Packed.{at_most}
use Rattle.tcc_cert.specs.Begun.{MayTake, with_rows}
use Rattle.tcc_cert.specs.declared.certificate.CycleClaim.{CycleClaim}
use Rattle.tcc_cert.specs.Given.{HasTaken}
use Rattle.tcc_answer.proofs.capped.CappedRows.write.Given as goal

abbrev pub invariant-loop-row : goal.invariant-loop-row
invariant-loop-row g l =
    (l.writer.out.ghost_name ≡ l.initial.writer.out.ghost_name)
    × (length l.buffer ≡ MAX_COUNT)
    × ((before : Option (List ℕ)) (count : ℕ) (k : CycleClaim) → HasTaken g.W.Write.contents before count k l.initial.writer → MayTake l.table k
    → HasTaken g.W.Write.contents before count (with_rows l.table k (take l.row-index (map (map (at_most l.self-inside.cap)) l.row-items))) l.writer)
