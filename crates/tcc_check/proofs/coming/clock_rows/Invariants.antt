-- the rows so far come before those that are still to come
use Rattle.std.proofs.Common.{◌≡◌, false}
use Rattle.tcc_cert.specs.Ahead.{IsAhead, is_new, rows_left}
use Rattle.tcc_cert.specs.Parts.{Parts}
use Rattle.tcc_check.proofs.ClocksBehind.{AreClocksBehind}
use Rattle.tcc_check.proofs.coming.clock_rows.Given as goal

abbrev pub invariant-parts : goal.invariant-parts
invariant-parts g l =
    record {
      begun : is_new l.parts ≡ false;
      rows : (ahead : Parts) → IsAhead g.R.Read.remaining l.initial.parts ahead
          → (rest : Parts) × AreClocksBehind l.clocks.items ahead rest × IsAhead g.R.Read.remaining l.parts rest;
    }

abbrev pub decreases-parts : goal.decreases-parts
decreases-parts g l = rows_left l.parts
