use Rattle.std.proofs.Common.{◌≡◌, Bool, true, false, refl, sym, subst, ◌∙◌}
use Rattle.std.proofs.lemmas.Bool.{false≢true}
use Rattle.std.proofs.lemmas.Result.{IfOk-weaker}
use Rattle.tcc_reads.specs.History.{History}
use Rattle.tcc_graph.specs.Levels.{judged}
use Rattle.tcc_answering.specs.Firsts.{IsFirst}
use Rattle.tcc_run.specs.private.Stages.{IsCertifiable}
use Rattle.tcc_run.proofs.Outcomes.{bare_outcome, large_outcome}
use Rattle.tcc_run.proofs.outcome_within.of_answered.Goals as goal

uncertified : (is_certified : Bool) → (is_certified ≡ true → ⊥) → is_certified ≡ false
uncertified true none = absurd (none refl)
uncertified false none = refl

pub returns-then-is_small-clause-outcome : goal.returns-then-is_small-clause-outcome
returns-then-is_small-clause-outcome g c =
    let a = c.args.answered in
    let is = c.requires.answered in
    let first = subst (λ (h : History). IsFirst (judged h c.args.level) a.first) (sym is.1) is.2 in
    IfOk-weaker c.of_small.result _ _
    (λ outcome found. bare_outcome c.args.level c.args.snapshot.now a.graph outcome is.0 (c.is_small.ensures.0 c.if-is_small.true) is.1 found)
    (c.of_small.ensures first)

pub returns-else-is_small-clause-outcome : goal.returns-else-is_small-clause-outcome
returns-else-is_small-clause-outcome g c =
    let a = c.args.answered in
    let is = c.requires.answered in
    let first = subst (λ (h : History). IsFirst (judged h c.args.level) a.first) (sym is.1) is.2 in
    IfOk-weaker c.of_large.result _ _
    (λ outcome found. large_outcome c.args.level c.args.snapshot.now a.graph outcome is.0
    (λ keeps. false≢true (sym c.if-is_small.false ∙ c.is_small.ensures.1 keeps)) is.1 found)
    (c.of_large.ensures first)

-- no certificate is wanted of a small snapshot
pub returns-then-is_small-clause-certifiable : goal.returns-then-is_small-clause-certifiable
returns-then-is_small-clause-certifiable g c =
    let a = c.args.answered in
    let is = c.requires.answered in
    let first = subst (λ (h : History). IsFirst (judged h c.args.level) a.first) (sym is.1) is.2 in
    let none = uncertified c.args.is_certified (c.requires.certified (c.is_small.ensures.0 c.if-is_small.true)) in
    IfOk-weaker c.of_small.result _ _ (λ outcome found. subst (IsCertifiable c.args.is_certified) (sym found.1) none) (c.of_small.ensures first)

pub returns-else-is_small-clause-certifiable : goal.returns-else-is_small-clause-certifiable
returns-else-is_small-clause-certifiable g c =
    let a = c.args.answered in
    let is = c.requires.answered in
    let first = subst (λ (h : History). IsFirst (judged h c.args.level) a.first) (sym is.1) is.2 in
    IfOk-weaker c.of_large.result _ _ (λ outcome found. subst (IsCertifiable c.args.is_certified) (sym found.2) tt) (c.of_large.ensures first)
