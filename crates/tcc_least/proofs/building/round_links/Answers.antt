use Rattle.std.proofs.Common.{◌≡◌, List, [], ◌∷◌, ◌++◌, sym, ap, subst, ◌∙◌}
use Rattle.std.proofs.lemmas.Bool.{false≢true}
use Rattle.tcc_graph.specs.Relations.{IsCausalPair}
use Rattle.tcc_graph.specs.declared.link.Link.{Link}
use Rattle.tcc_graph.proofs.Pairs.{pair_kinds, pair_from_kinds}
use Rattle.tcc_least.specs.private.Building.{IsShortCycle}
use Rattle.tcc_least.proofs.Built.{round_of_one, round_of_two, round_of_three, there_and_back, third}
use Rattle.tcc_least.proofs.building.round_links.Goals as goal

after : (xs ys : List Link) (k : List Link) (l : Link) → xs ≡ k → ys ≡ xs ++ l ∷ [] → ys ≡ k ++ l ∷ []
after xs ys k l first second = second ∙ ap (λ (z : List Link). z ++ l ∷ []) first

pub returns-then-reader-source : goal.returns-then-reader-source
returns-then-reader-source c = λ n low round.
    let l : Link = c.pair_link.result in
    let all : c.push.new.self.items ≡ l ∷ [] = after c.new-links.result.items c.push.new.self.items [] l c.new-links.ensures.items c.in_ok-push.ensures.items in
    subst (λ (z : List Link). IsShortCycle c.args.graph.now n z) (sym all)
    (round_of_one c.args.graph.now c.args.source c.args.reader n l c.if-reader-source.true round c.pair_link.ensures)

pub pair_link-requires-then-causal-2 : goal.pair_link-requires-then-causal-2
pair_link-requires-then-causal-2 c = pair_kinds c.args.graph.now c.args.reader c.args.source (sym c.causal.ensures ∙ c.if-causal.true)

pub returns-then-causal : goal.returns-then-causal
returns-then-causal c = λ n low round.
    let l : Link = c.pair_link-then-causal.result in
    let m : Link = c.pair_link-then-causal-2.result in
    let first : c.push-then-causal.new.self.items ≡ l ∷ []
    = after c.new-links.result.items c.push-then-causal.new.self.items [] l c.new-links.ensures.items c.in_ok-push-2.ensures.items in
    let all : c.push-then-causal-2.new.self.items ≡ l ∷ m ∷ []
    = after c.push-then-causal.new.self.items c.push-then-causal-2.new.self.items (l ∷ []) m first c.in_ok-push-3.ensures.items in
    subst (λ (z : List Link). IsShortCycle c.args.graph.now n z) (sym all)
    (there_and_back c.args.graph.now c.args.source c.args.reader 1 1 n l m c.pair_link-then-causal.ensures c.pair_link-then-causal-2.ensures
    (round_of_two c.args.graph.now c.args.source c.args.reader n c.if-reader-source.false round))

pub source_of_source-first-requires-clause-there : goal.source_of_source-first-requires-clause-there
source_of_source-first-requires-clause-there c =
    let none : IsCausalPair c.args.graph.now c.args.reader c.args.source → ⊥
    = λ pair. false≢true (sym c.if-causal.false ∙ c.causal.ensures ∙ pair_from_kinds c.args.graph.now c.args.reader c.args.source pair) in
    (third c.args.graph.now c.args.source c.args.reader c.requires.0 c.if-reader-source.false none c.requires.1).1

pub returns : goal.returns
returns c = λ n low round.
    let h = c.args.graph.now in
    let none : IsCausalPair h c.args.reader c.args.source → ⊥
    = λ pair. false≢true (sym c.if-causal.false ∙ c.causal.ensures ∙ pair_from_kinds h c.args.reader c.args.source pair) in
    let back = third h c.args.source c.args.reader n c.if-reader-source.false none round in
    let k : Link = c.pair_link-2.result in
    let l : Link = c.pair_link-3.result in
    let m : Link = c.pair_link-4.result in
    let first : c.push-2.new.self.items ≡ k ∷ []
    = after c.new-links.result.items c.push-2.new.self.items [] k c.new-links.ensures.items c.in_ok-push-4.ensures.items in
    let second : c.push-3.new.self.items ≡ k ∷ l ∷ []
    = after c.push-2.new.self.items c.push-3.new.self.items (k ∷ []) l first c.in_ok-push-5.ensures.items in
    let all : c.push-4.new.self.items ≡ k ∷ l ∷ m ∷ []
    = after c.push-3.new.self.items c.push-4.new.self.items (k ∷ l ∷ []) m second c.in_ok-push-6.ensures.items in
    subst (λ (z : List Link). IsShortCycle h n z) (sym all)
    (round_of_three h c.args.source c.args.reader c.source_of_source-first.result n k l m back.0 c.pair_link-2.ensures c.pair_link-3.ensures
    c.pair_link-4.ensures)
