-- Rules checked of a claim in turn, and the verdict on it: that all hold, or the first that is broken and where it is broken first.
use Rattle.std.specs.Prelude.{ℕ, ◌≡◌, ◌⊎◌, List, [], ◌∷◌}
use Rattle.tcc_graph.specs.Levels.{Judged}
use Rattle.tcc_graph.specs.declared.link.Link.{Link}
use Rattle.tcc_cert.specs.CycleRules.{AreLinksRight, IsLinksFault}
use Rattle.tcc_cert.specs.Rules.{HoldsEverywhere}
use Rattle.tcc_cert.specs.Tables.{IsFirstAt}
use Rattle.tcc_rules.specs.declared.verdict.Verdict.{Verdict}
use Rattle.tcc_rules.specs.declared.verdict.Verdict.TheVariants as verdict

-- a rule for a claim: when it holds, and which position is named where it does not
pub record Asked (R : Type 0) : Type 1 where
  pub rule : R
  pub holds : Type 0
  pub broken : ℕ × ℕ → Type 0

-- a rule that holds or not as a whole; then nothing is named
abbrev pub as_whole : {R : Type 0} → R → Type 0 → Asked R
as_whole rule holds = record { rule = rule; holds = holds; broken = λ at. (at ≡ (0, 0)) × (holds → ⊥) }

-- a rule that is broken at some pairs of numbers: the first of them is named
abbrev pub at_each : {R : Type 0} → R → (ℕ × ℕ → Type 0) → Asked R
at_each rule broken = record { rule = rule; holds = HoldsEverywhere broken; broken = IsFirstAt broken }

-- the rule that links, at least one, are a cycle of this cost; it names the first that is not right, counted from 1, or 0 where each is
-- right
abbrev pub of_links : {R : Type 0} → R → Judged → ℕ → List Link → Asked R
of_links rule j most links = record { rule = rule; holds = AreLinksRight j most links; broken = IsLinksFault j most links }

-- all of them hold
abbrev pub AllHold : {R : Type 0} → List (Asked R) → Type 0
AllHold [] = Unit {0}
AllHold (asked ∷ later) = asked.holds × AllHold later

-- the first broken one of them is this rule, there
abbrev pub IsFirstBroken : {R : Type 0} → List (Asked R) → R → ℕ × ℕ → Type 0
IsFirstBroken [] rule at = ⊥
IsFirstBroken (asked ∷ later) rule at = ((rule ≡ asked.rule) × asked.broken at) ⊎ (asked.holds × IsFirstBroken later rule at)

-- accepted exactly where all of them hold, else the first broken one and its position
abbrev pub IsVerdictOf : {R : Type 0} → List (Asked R) → Verdict R → Type 0
IsVerdictOf rules verdict.Accepted = AllHold rules
IsVerdictOf rules (verdict.Rejected rule at) = IsFirstBroken rules rule at
