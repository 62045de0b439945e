use Rattle.std.proofs.Common.{◌≡◌, None, take}
use Rattle.std.specs.Prelude.{fold}
use Rattle.tcc_rows.specs.private.Passing.{lower}
use Rattle.tcc_rows.proofs.rows.progress.least_begun.Given as goal

abbrev pub invariant-loop-seat : goal.invariant-loop-seat
invariant-loop-seat l = l.least ≡ fold lower None (take l.seat-index l.sessions)
