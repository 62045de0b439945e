-- Rules checked one after the other, and the same rules stated in another way.
use Rattle.std.proofs.Common.{◌≡◌, ◌↔◌, refl, ℕ, inl, inr, List, [], ◌∷◌, ◌++◌, Result, Ok, Err}
use Rattle.std.specs.Prelude.{IfOk}
use Rattle.tcc_graph.specs.Levels.{Judged}
use Rattle.tcc_graph.specs.declared.link.Link.{Link}
use Rattle.tcc_cert.specs.CycleRules.{AreLinksRight, IsLinksFault}
use Rattle.tcc_rules.specs.declared.verdict.Verdict.{Verdict}
use Rattle.tcc_rules.specs.declared.verdict.Verdict.TheVariants as verdict
use Rattle.tcc_rules.specs.Asked.{AllHold, Asked, IsVerdictOf, IsFirstBroken, at_each}
use Rattle.tcc_rules.proofs.Positions.{first_as, nowhere_as}

-- later rules change nothing where one of the first is broken
pub broken_early : {R : Type 0} (rules later : List (Asked R)) (rule : R) (at : ℕ × ℕ) → IsFirstBroken rules rule at → IsFirstBroken (rules ++ later) rule at
broken_early [] later rule at broken = absurd broken
broken_early (asked ∷ rules) later rule at (inl here) = inl here
broken_early (asked ∷ rules) later rule at (inr behind) = inr (behind.0, broken_early rules later rule at behind.1)

pub answer_early : {R : Type 0} (rules later : List (Asked R)) (answer : Verdict R) → (answer ≡ verdict.Accepted → ⊥) → IsVerdictOf rules answer → IsVerdictOf (rules ++ later) answer
answer_early rules later verdict.Accepted refused said = absurd (refused refl)
answer_early rules later (verdict.Rejected rule at) refused said = broken_early rules later rule at said

-- where the first all hold, the later ones answer
pub answer_later : {R : Type 0} (rules later : List (Asked R)) (answer : Verdict R) → AllHold rules → IsVerdictOf later answer → IsVerdictOf (rules ++ later) answer
answer_later [] later answer hold said = said
answer_later (asked ∷ rules) later verdict.Accepted hold said = (hold.0, answer_later rules later verdict.Accepted hold.1 said)
answer_later (asked ∷ rules) later (verdict.Rejected rule at) hold said = inr (hold.0, answer_later rules later (verdict.Rejected rule at) hold.1 said)

pub ok_later : {R E : Type 0} (rules later : List (Asked R)) (result : Result (Verdict R) E) → AllHold rules → IfOk result (IsVerdictOf later)
    → IfOk result (IsVerdictOf (rules ++ later))
ok_later rules later (Ok answer) hold said = answer_later rules later answer hold said
ok_later rules later (Err e) hold said = said

pub all_hold : {R : Type 0} (rules : List (Asked R)) (answer : Verdict R) → answer ≡ verdict.Accepted → IsVerdictOf rules answer → AllHold rules
all_hold rules verdict.Accepted accepted said = said
all_hold rules (verdict.Rejected rule at) accepted said = absurd cc

-- a rule whose positions are stated in another way, before one that is broken nowhere
pub one_as : {R : Type 0} (a b : R) (P P' Q : ℕ × ℕ → Type 0) → ((at : ℕ × ℕ) → P at ↔ P' at) → ((at : ℕ × ℕ) → Q at → ⊥) → (answer : Verdict R)
    → IsVerdictOf (at_each a P ∷ []) answer → IsVerdictOf (at_each a P' ∷ at_each b Q ∷ []) answer
one_as a b P P' Q p none verdict.Accepted said = (nowhere_as P P' (λ at. (p at).1) said.0, (none, tt))
one_as a b P P' Q p none (verdict.Rejected rule at) (inl here) = inl (here.0, first_as P P' (λ at. (p at).0) (λ at. (p at).1) at here.1)
one_as a b P P' Q p none (verdict.Rejected rule at) (inr behind) = absurd behind.1

-- two rules whose positions are stated in another way
module _ {R : Type 0} (a b : R) (P Q P' Q' : ℕ × ℕ → Type 0) (p : (at : ℕ × ℕ) → P at ↔ P' at) (q : (at : ℕ × ℕ) → Q at ↔ Q' at) where
  pub two_as : (answer : Verdict R) → IsVerdictOf (at_each a P ∷ at_each b Q ∷ []) answer → IsVerdictOf (at_each a P' ∷ at_each b Q' ∷ []) answer
  two_as verdict.Accepted said = (nowhere_as P P' (λ at. (p at).1) said.0, (nowhere_as Q Q' (λ at. (q at).1) said.1.0, tt))
  two_as (verdict.Rejected rule at) (inl here) = inl (here.0, first_as P P' (λ at. (p at).0) (λ at. (p at).1) at here.1)
  two_as (verdict.Rejected rule at) (inr (holds, inl here)) =
      inr (nowhere_as P P' (λ at. (p at).1) holds, inl (here.0, first_as Q Q' (λ at. (q at).0) (λ at. (q at).1) at here.1))
  two_as (verdict.Rejected rule at) (inr (holds, inr none)) = absurd none.1

-- ---- a rule that is broken does not hold

-- of each rule of a list
abbrev pub AreApart : {R : Type 0} → List (Asked R) → Type 0
AreApart [] = Unit {0}
AreApart (asked ∷ later) = ((at : ℕ × ℕ) → asked.broken at → asked.holds → ⊥) × AreApart later

pub links_apart : (j : Judged) (most : ℕ) (links : List Link) (at : ℕ × ℕ) → IsLinksFault j most links at → AreLinksRight j most links → ⊥
links_apart j most links at (inl wrong) right = right.right at.0 wrong.0
links_apart j most links at (inr sum) right = sum.1.1 right

pub not_broken : {R : Type 0} (rules : List (Asked R)) → AreApart rules → AllHold rules → (rule : R) (at : ℕ × ℕ) → IsFirstBroken rules rule at → ⊥
not_broken [] apart all rule at broken = broken
not_broken (asked ∷ later) apart all rule at (inl broken) = apart.0 at broken.1 all.0
not_broken (asked ∷ later) apart all rule at (inr after) = not_broken later apart.1 all.1 rule at after.1

-- where all hold, the verdict says so
pub accepted_by : {R : Type 0} (rules : List (Asked R)) → AreApart rules → AllHold rules → (said : Verdict R) → IsVerdictOf rules said → said ≡ verdict.Accepted
accepted_by rules apart all verdict.Accepted is = refl
accepted_by rules apart all (verdict.Rejected rule at) is = absurd (not_broken rules apart all rule at is)
