use Rattle.std.proofs.Common.{◌≡◌, ◌++◌, ◌∷◌, [], ℕ, Bool, false, List, replicate, sym, ap, ◌∙◌, arith}
use Rattle.std.proofs.lemmas.Grind.{replicate_next}
use Rattle.tcc_survey.proofs.circle.none_seen.Goals as goal

pub loop-preserved : goal.loop-preserved
loop-preserved c = (
  omega (arith, c.loop-test.true),
  c.in_ok-push.ensures.items ∙ (ap (λ (xs : List Bool). xs ++ false ∷ []) c.loop.invariant.1 ∙ sym (replicate_next c.loop.counter false)),
)

pub returns : goal.returns
returns c =
    let all : c.loop.counter ≡ c.args.count = omega (arith, c.loop.invariant.0, c.loop-test.false) in
    c.loop.invariant.1 ∙ ap (λ (n : ℕ). replicate n false) all
