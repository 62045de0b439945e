use Rattle.tcc_survey.proofs.BesideLemmas.{IsLeastBeside}
use Rattle.tcc_survey.proofs.scanning.Scan.hit_beside.Given as goal

abbrev pub invariant-loop-read : goal.invariant-loop-read
invariant-loop-read l = IsLeastBeside l.self l.read-items l.read-index l.least
