-- the rows so far were given
use Rattle.std.proofs.Common.{◌≡◌, ℕ, List, Option, take}
use Rattle.tcc_cert.specs.declared.certificate.CycleClaim.{CycleClaim}
use Rattle.tcc_cert.specs.Begun.{MayTake, with_rows}
use Rattle.tcc_cert.specs.Given.{HasTaken}
use Rattle.tcc_cert.proofs.cycle_writer.CycleWriter.table.Given as goal

abbrev pub invariant-loop-row : goal.invariant-loop-row
invariant-loop-row g l =
    (l.self.out.ghost_name ≡ l.initial.self.out.ghost_name)
    × ((before : Option (List ℕ)) (count : ℕ) (k : CycleClaim) → HasTaken g.W.Write.contents before count k l.initial.self → MayTake l.table k
    → HasTaken g.W.Write.contents before count (with_rows l.table k (take l.row-index l.row-items)) l.self)
