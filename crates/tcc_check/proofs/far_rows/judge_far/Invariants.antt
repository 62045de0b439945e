-- the rows so far were judged, and come before those that are still to come
use Rattle.std.proofs.Common.{◌≡◌, ℕ, List}
use Rattle.tcc_reads.specs.History.{count}
use Rattle.tcc_cert.specs.Ahead.{IsAhead}
use Rattle.tcc_cert.specs.Parts.{Parts}
use Rattle.tcc_check.specs.private.Coming.{AreFoundBefore}
use Rattle.tcc_check.specs.private.Judged.{AreLinksOf}
use Rattle.tcc_check.proofs.FarBehind.{AreFarBehind}
use Rattle.tcc_check.proofs.far_rows.judge_far.Given as goal

abbrev pub invariant-loop-start : goal.invariant-loop-start
invariant-loop-start g l =
    (ahead : Parts) → IsAhead g.R.Read.remaining l.initial.parts ahead
    → (rest : Parts) × (rest.line ≡ ahead.line) × (rest.fault ≡ ahead.fault) × IsAhead g.R.Read.remaining l.parts rest
    × ((table : List (List ℕ)) → AreLinksOf l.graph l.least table l.near
    → AreFarBehind l.version l.least (count l.graph) (λ far i faults. AreFoundBefore l.graph l.version l.least table far i faults) l.start l.faults
    ahead rest)
