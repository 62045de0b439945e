use Rattle.std.proofs.Common.{◌∙◌, ◌++◌, ◌∷◌, [], ap, sym}
use Rattle.tcc_steal.proofs.Machining.{range_more}
use Rattle.tcc_steal.proofs.world.numbers.Goals as goal

pub loop-number-preserved : goal.loop-number-preserved
loop-number-preserved c =
    c.in_ok-push.ensures.items ∙ ap (λ xs. xs ++ c.loop-number.number ∷ []) c.loop-number.invariant ∙ sym (range_more c.loop-number.number)
