use Rattle.std.proofs.Common.{ℕ, ◌≡◌, sym, subst}
use Rattle.std.specs.Prelude.{IfOk}
use Rattle.tcc_graph.specs.Relations.{IsCausalPair}
use Rattle.tcc_graph.specs.Levels.{judged}
use Rattle.tcc_graph.specs.declared.level.Level.{Level}
use Rattle.tcc_first.specs.private.Ways.{IsTwoStep}
use Rattle.tcc_first.specs.private.Picks.{IsFirstOfCost}
use Rattle.tcc_first.proofs.CheapestLemmas.{two_of}
use Rattle.tcc_first.proofs.cheapest_links.first_link.Goals as goal

pub returns-then-steps-eq1 : goal.returns-then-steps-eq1
returns-then-steps-eq1 c =
    subst (λ (n : ℕ). (level : Level) → IsFirstOfCost (judged c.args.graph.now level) c.args.from c.args.to n c.pair_link.result) (sym c.if-steps-eq1.true)
    c.pair_link.ensures

pub returns-else-steps-eq1 : goal.returns-else-steps-eq1
returns-else-steps-eq1 c =
    let two : c.args.steps ≡ 2
    = two_of c.args.steps (IsCausalPair c.args.graph.now c.args.from c.args.to) (IsTwoStep c.args.graph.now c.args.from c.args.to) c.requires.some
    c.if-steps-eq1.false in
    subst (λ (n : ℕ). IfOk c.two_step_link.result (λ link. (level : Level) → IsFirstOfCost (judged c.args.graph.now level) c.args.from c.args.to n link))
    (sym two) c.two_step_link.ensures
