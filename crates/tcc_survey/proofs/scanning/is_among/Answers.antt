use Rattle.std.proofs.Common.{get_or, arith}
use Rattle.std.proofs.lemmas.Bool.{eq-eqb, eqb-true, false≢true}
use Rattle.tcc_survey.proofs.BesideLemmas.{at_there, there_at}
use Rattle.tcc_survey.proofs.scanning.is_among.Goals as goal

pub returns-then-index-numbers : goal.returns-then-index-numbers
returns-then-index-numbers c =
    let ws = c.args.numbers.now in
    let b = c.args.b in
    let i = c.count_before-index.result in (
      (λ t. there_at ws b i c.if-index-numbers.true (eqb-true (get_or ws i 0) b t)),
      λ w. eq-eqb (get_or ws i 0) b (at_there ws b i c.requires c.count_before-index.ensures.less c.count_before-index.ensures.others w).1,
    )

pub returns : goal.returns
returns c =
    let ws = c.args.numbers.now in
    let b = c.args.b in
    let i = c.count_before-index.result in (
      (λ t. absurd (false≢true t)),
      λ w. absurd (omega (
        arith,
        c.if-index-numbers.false,
        (at_there ws b i c.requires c.count_before-index.ensures.less c.count_before-index.ensures.others w).0,
      )),
    )
