-- The first of two verdicts that is not an acceptance.
use Rattle.std.proofs.Common.{List, ◌++◌}
use Rattle.tcc_rules.specs.declared.verdict.Verdict.{Verdict}
use Rattle.tcc_rules.specs.declared.verdict.Verdict.TheVariants as verdict
use Rattle.tcc_rules.specs.Asked.{Asked, IsVerdictOf}
use Rattle.tcc_check.specs.private.Coming.{first_rejected}
use Rattle.tcc_rules.proofs.Asked.{answer_later, broken_early}

-- the first of two verdicts that is not an acceptance, on the first rules and on the later ones
pub answer_first : {R : Type 0} (rules later : List (Asked R)) (a b : Verdict R) → IsVerdictOf rules a → IsVerdictOf later b → IsVerdictOf (rules ++ later) (first_rejected a b)
answer_first rules later verdict.Accepted b hold said = answer_later rules later b hold said
answer_first rules later (verdict.Rejected rule at) b broken said = broken_early rules later rule at broken
