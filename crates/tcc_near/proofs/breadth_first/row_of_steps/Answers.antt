use Rattle.std.proofs.Common.{◌∙◌, arith}
use Rattle.std.proofs.lemmas.Result.{IfOk-weaker}
use Rattle.tcc_near.proofs.BreadthLemmas.{row_of_steps}
use Rattle.tcc_near.proofs.breadth_first.row_of_steps.Goals as goal

pub returns : goal.returns
returns c =
    let h = c.args.pairs.now.history in
    let marked = c.in_ok-words.ensures.marked in
    IfOk-weaker c.steps_to.result _ _ (λ made is. row_of_steps h c.args.source c.in_ok-words.words.items made marked (is.0 ∙ c.count.ensures)
    (λ b to. is.1 b (omega (arith, to, c.count.ensures)))) (rw c.deref.ensures.value at c.steps_to.ensures)
