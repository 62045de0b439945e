use Rattle.std.proofs.Common.{rules, ◌≡◌, ◌<◌, ◌∙◌, ℕ, List, sym, ap, subst}
use Rattle.std.specs.List.{All, Contains}
use Rattle.tcc_graph.specs.Keys.{key_at, writers}
use Rattle.tcc_graph.proofs.WriterLemmas.{writers_below}
use Rattle.tcc_clocks.proofs.NeededLemmas.{marked_key}
use Rattle.tcc_clocks.proofs.needed.mark_keys.Goals as goal

pub mark_key-requires-clause-below : goal.mark_key-requires-clause-below
mark_key-requires-clause-below c =
    let h = c.args.graph.now in
    rw c.writers_at.ensures
    (subst (λ (n : ℕ). All (λ b. b < n) (writers h (key_at h c.in-Ok.key_index))) (sym c.requires.owners) (writers_below h (key_at h c.in-Ok.key_index)))

pub loop-index-preserved : goal.loop-index-preserved
loop-index-preserved c =
    let h = c.args.graph.now in
    let n = c.loop-index.index in
    let key : c.in-Ok.key_index ≡ c.loop-index.index = search rules in
    let here : c.writers_at.result.now ≡ writers h (key_at h n)
    = c.writers_at.ensures ∙ ap (λ (k : ℕ). writers h (key_at h k)) key in (
      c.mark_key.ensures.same ∙ c.loop-index.invariant.0,
      marked_key h c.args.owners.now c.args.sources.now n c.loop-index.needed c.mark_key.new.needed c.loop-index.invariant.1 c.mark_key.ensures.kept
          (λ a b source there. c.mark_key.ensures.new a b source (subst (λ (z : List ℕ). Contains z b) (sym here) there)),
    )
