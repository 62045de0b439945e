use Rattle.std.proofs.Common.{length, sym, ◌∙◌, arith}
use Rattle.std.proofs.lemmas.Bool.{eqb-true, false≢true, not-false}
use Rattle.tcc_survey.proofs.CalledLemmas.{none_closer}
use Rattle.tcc_survey.proofs.session_guarantees.Knowledge.may_be_closer.Goals as goal

pub returns : goal.returns
returns c = λ none.
    let k = c.args.self.now in
    none_closer k c.requires.knowledge c.args.b c.requires.some c.requires.below (λ same. omega (arith, c.if-self-b.false, same))
    (λ seen. false≢true (c.if-has_seen.ensures.1 seen)) c.readings_at.result.0.now c.readings_at.result.1.now c.readings_at.ensures
    (eqb-true (length c.readings_at.result.0.now) 0 (sym c.is_empty.ensures ∙ not-false c.is_empty.result none))
