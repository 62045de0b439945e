-- The judgement is the outcome of the text.
use Rattle.std.proofs.Common.{inl}
use Rattle.std.proofs.lemmas.Option.{IfSome_then}
use Rattle.tcc_verdict.proofs.Judgements.{of_fault, of_judgement}
use Rattle.tcc_verdict.proofs.large.check.SizedGraphChecker.judged.Goals as goal

pub returns-in_err-judgement : goal.returns-in_err-judgement
returns-in_err-judgement g c = IfSome_then (g.R.Read.remaining c.args.reader) c.in_err-judgement.ensures
    (λ text fails s sized. of_fault s text c.in_err-judgement.field-0.0 c.from_residual.result fails c.from_residual.ensures.1)

pub returns : goal.returns
returns g c = IfSome_then (g.R.Read.remaining c.args.reader) c.in_ok-judgement.ensures
    (λ text is s sized. inl (of_judgement s c.args.self.now text c.in_ok-judgement.judgement sized is))
