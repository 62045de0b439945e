use Rattle.std.proofs.Common.{ℕ, ◌≡◌, ◌<◌, List, map, subst, sym, ◌∙◌}
use Rattle.std.proofs.lemmas.Bool.{false≢true}
use Rattle.std.specs.Prelude.{IsTrue, ◌↔◌}
use Rattle.tcc_reads.specs.History.{History, count}
use Rattle.tcc_reads.specs.Sources.{history}
use Rattle.tcc_graph.specs.Levels.{judged}
use Rattle.tcc_graph.specs.Renumbered.{link_by}
use Rattle.tcc_graph.specs.Routes.{AreCycle}
use Rattle.tcc_graph.specs.declared.link.Link.{Link}
use Rattle.tcc_slices.specs.private.Carrying.{Keeps, place}
use Rattle.tcc_slices.proofs.slicing.is_slice.Goals as goal
use Rattle.tcc_slices.proofs.slicing.is_slice.Goals.{After-is_cycle, then-is_cycle, else-is_cycle}

graph_is : (c : After-is_cycle) → c.in-Some.graph ≡ history c.args.slice.now
graph_is c = (rw c.in-Some.is at c.in_ok-graph.ensures).1

-- what is tested is whether the links, in the slice's numbers, are a cycle of the slice
tested : (c : After-is_cycle) → IsTrue c.is_cycle.result
    ↔ AreCycle (judged (history c.args.slice.now) c.args.level) (map (link_by (place c.args.numbers.now)) c.args.links.now)
tested c =
    let own : List Link = map (link_by (place c.args.numbers.now)) c.args.links.now in
    subst (λ (h : History). IsTrue c.is_cycle.result ↔ AreCycle (judged h c.args.level) own) (c.deref.ensures.value ∙ graph_is c)
    (subst (λ (links : List Link). IsTrue c.is_cycle.result ↔ AreCycle (judged c.deref.result.now c.args.level) links)
    (c.deref-2.ensures.value ∙ c.in_ok-own.ensures) c.is_cycle.ensures)

pub returns-clause-cycle : goal.returns-clause-cycle
returns-clause-cycle c = λ is.
    let is_tested = tested (goal.at.returns-clause-cycle c).After-is_cycle in
    elim c.if-is_cycle.branch [
      | then-is_cycle w ↦ is_tested.0 w.if-is_cycle.true
      | else-is_cycle w ↦ let none = w.if-is_cycle.false in let same = w.result-is in absurd cc
    ]

pub returns-clause-passes : goal.returns-clause-passes
returns-clause-passes c = λ passing.
    let after = (goal.at.returns-clause-passes c).After-is_cycle in
    let cycle : IsTrue c.is_cycle.result = (tested after).1 passing.cycle in
    elim c.if-is_cycle.branch [
      | then-is_cycle w ↦
          w.result-is
          ∙ w.is_carried.ensures.kept
          (subst (λ (z : History). (a : ℕ) → a < count z → Keeps c.args.numbers.now z c.args.whole.now a) (sym (graph_is after)) passing.keeps)
      | else-is_cycle w ↦ absurd (false≢true (sym w.if-is_cycle.false ∙ cycle))
    ]
