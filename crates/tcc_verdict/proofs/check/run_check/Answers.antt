-- Success shows the claim, by the law of the checker.
use Rattle.std.proofs.lemmas.Option.{IfSome_then}
use Rattle.tcc_verdict.proofs.Shown.{shown}
use Rattle.tcc_verdict.proofs.check.run_check.Goals as goal

pub returns-clause-shown : goal.returns-clause-shown
returns-clause-shown g c = IfSome_then (g.H.Read.remaining c.args.history) c.run_checker.ensures.run
    (λ records whole. IfSome_then (g.C.Read.remaining c.args.certificate) whole
    (λ text run. shown c.certified.ensures records text _ _ c.run_checker.result run))
