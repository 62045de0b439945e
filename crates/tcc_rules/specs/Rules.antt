-- The numbers of rules.
use Rattle.std.specs.Prelude.{ℕ}
use Rattle.tcc_rules.specs.declared.verdict.Rule.{Rule}
use Rattle.tcc_rules.specs.declared.verdict.Rule.TheVariants.{Sizes, Links, NearPairs, NearSteps, FarLinks, FarSteps, Returns, Pairs, Axiom}

abbrev pub rule_number : Rule → ℕ
rule_number = elim [ Sizes ↦ 1 | Links ↦ 2 | NearPairs ↦ 3 | NearSteps ↦ 4 | FarLinks ↦ 5 | FarSteps ↦ 6 | Returns ↦ 7 | Pairs ↦ 8 | Axiom ↦ 9 ]
