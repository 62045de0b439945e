use Rattle.std.proofs.Common.{ℕ, ◌≡◌, List, [], ◌∷◌, ◌++◌, sym, ap, subst, ◌∙◌}
use Rattle.tcc_graph.specs.declared.step.Step.{Step}
use Rattle.tcc_graph.specs.declared.link.Link.TheVariants as link
use Rattle.tcc_least.specs.Shapes.{IsShortLink}
use Rattle.tcc_least.proofs.Built.{overwriting_link}
use Rattle.tcc_least.proofs.building.two_step_link.Goals as goal

pub returns : goal.returns
returns c =
    let h = c.args.graph.now in
    let b : ℕ = c.args.from in
    let a : ℕ = c.args.to in
    let d : ℕ = c.overwritten-reader.result.0 in
    let x : List ℕ = c.overwritten-reader.result.1 in
    let s : Step = c.step.result in
    let steps : c.push.new.self.items ≡ s ∷ [] = c.in_ok-push.ensures.items ∙ ap (λ (z : List Step). z ++ s ∷ []) c.new-steps.ensures.items in
    let walk : c.new.result ≡ s ∷ [] = c.new.ensures ∙ steps in
    subst (λ (w : List Step). IsShortLink h b a 2 (link.Derived b a x d w)) (sym walk)
    (overwriting_link h b a d x s c.requires.2.0 c.overwritten-reader.ensures.read c.overwritten-reader.ensures.writer c.step.ensures.from c.step.ensures.to
    c.step.ensures.step)
