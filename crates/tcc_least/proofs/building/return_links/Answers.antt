use Rattle.std.proofs.Common.{◌≡◌, List, [], ◌∷◌, ◌++◌, sym, ap, subst, ◌∙◌, arith}
use Rattle.tcc_graph.specs.declared.link.Link.{Link}
use Rattle.tcc_least.specs.private.Building.{IsShortCycle}
use Rattle.tcc_least.proofs.Built.{there_and_back}
use Rattle.tcc_least.proofs.building.return_links.Goals as goal

pub returns : goal.returns
returns c =
    let h = c.args.graph.now in
    let k : Link = c.in_ok-two_step_link.field-0 in
    let l : Link = c.pair_link.result in
    let first : c.push.new.self.items ≡ k ∷ [] = c.in_ok-push.ensures.items ∙ ap (λ (z : List Link). z ++ k ∷ []) c.new-links.ensures.items in
    let all : c.push-2.new.self.items ≡ k ∷ l ∷ [] = c.in_ok-push-2.ensures.items ∙ ap (λ (z : List Link). z ++ l ∷ []) first in
    subst (λ (z : List Link). IsShortCycle h 4 z) (sym all)
    (there_and_back h c.args.from c.args.to 2 1 4 k l c.in_ok-two_step_link.ensures c.pair_link.ensures (omega arith))
