use Rattle.std.proofs.Common.{rules, ℕ, ◌≡◌, ◌<◌, List, ◌∷◌, ◌++◌, [], slice_index, arith, ap, subst, sym, ◌∙◌}
use Rattle.std.specs.Prelude.{OnOk}
use Rattle.tcc_clocks.specs.Parents.{previous_one, sources}
use Rattle.tcc_clocks.proofs.LatestLemmas.{session_some, session_none}
use Rattle.tcc_clocks.proofs.parents.find_parents.Goals as goal
use Rattle.tcc_clocks.proofs.parents.find_parents.Goals.{then-c-gt0+in_ok-push, else-c-gt0}

pub returns-clause-found : goal.returns-clause-found
returns-clause-found c =
    let h = c.args.graph.now in
    let n = c.args.c in
    let first : c.if-c-gt0.found.items ≡ previous_one h n = elim c.if-c-gt0.branch [
      | then-c-gt0+in_ok-push w ↦ (
          let some : 0 < n = omega (arith, w.if-c-gt0.true) in
          let pushed : w.push.new.self.items ≡ slice_index c.args.parent_of.now n ∷ [] = search rules in
          rw w.found-is (pushed ∙ ap (λ p. p ∷ []) (c.requires.parents.each n some c.requires.below) ∙ sym (session_some h n some))
          )
      | else-c-gt0 w ↦ (
          let none : n ≡ 0 = omega (arith, w.if-c-gt0.false) in
          rw w.found-is (c.clear.ensures.items ∙ sym (session_none h n none))
          )
    ] in
    subst (λ (s : List ℕ). OnOk c.add_sources.result (c.add_sources.new.found.items ≡ s ++ sources h n)) first c.add_sources.ensures.found
