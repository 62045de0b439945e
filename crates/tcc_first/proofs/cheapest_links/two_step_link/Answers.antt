use Rattle.std.proofs.Common.{ℕ, ◌≡◌, List, [], ◌∷◌, ◌++◌, sym, ap, subst, ◌∙◌}
use Rattle.tcc_graph.specs.Levels.{judged}
use Rattle.tcc_graph.specs.declared.step.Step.{Step}
use Rattle.tcc_graph.specs.declared.link.Link.TheVariants as link
use Rattle.tcc_first.specs.private.Picks.{IsFirstOfCost}
use Rattle.tcc_first.proofs.CheapestLemmas.{first_two_step}
use Rattle.tcc_first.proofs.cheapest_links.two_step_link.Goals as goal

pub returns : goal.returns
returns c = λ level.
    let h = c.args.graph.now in
    let b : ℕ = c.args.from in
    let a : ℕ = c.args.to in
    let d : ℕ = c.first_contradicted-key.result.1 in
    let x : List ℕ = c.first_contradicted-key.result.0 in
    let s : Step = c.first_step.result in
    let steps : c.push.new.self.items ≡ s ∷ [] = c.in_ok-push.ensures.items ∙ ap (λ (z : List Step). z ++ s ∷ []) c.new-steps.ensures.items in
    let walk : c.new.result ≡ s ∷ [] = c.new.ensures ∙ steps in
    subst (λ (w : List Step). IsFirstOfCost (judged h level) b a 2 (link.Derived b a x d w)) (sym walk)
    (first_two_step (judged h level) b a x d s c.first_contradicted-key.ensures.first c.first_step.ensures)
