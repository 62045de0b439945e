-- what is left ends as all did
use Rattle.std.proofs.Common.{◌≡◌, false}
use Rattle.tcc_cert.specs.Ahead.{IsAhead, is_new, rows_left}
use Rattle.tcc_cert.specs.Parts.{Parts}
use Rattle.tcc_check.proofs.coming.skip_rest.Given as goal

abbrev pub invariant-parts : goal.invariant-parts
invariant-parts g l =
    record {
      begun : is_new l.parts ≡ false;
      rows : (ahead : Parts) → IsAhead g.R.Read.remaining l.initial.parts ahead
          → (rest : Parts) × (rest.line ≡ ahead.line) × (rest.fault ≡ ahead.fault) × IsAhead g.R.Read.remaining l.parts rest;
    }

abbrev pub decreases-parts : goal.decreases-parts
decreases-parts g l = rows_left l.parts
