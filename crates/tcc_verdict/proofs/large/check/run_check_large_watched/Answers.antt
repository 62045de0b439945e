-- Success shows the claim, by the laws of the two judges.
use Rattle.std.proofs.lemmas.Option.{IfSome_then}
use Rattle.tcc_verdict.proofs.LargeShown.{shown}
use Rattle.tcc_verdict.proofs.large.check.run_check_large_watched.Goals as goal

pub returns-clause-shown : goal.returns-clause-shown
returns-clause-shown g c = IfSome_then (g.H.Read.remaining c.args.history) c.run_checker.ensures.run
    (λ records whole. IfSome_then (g.C.Read.remaining c.args.certificate) whole
    (λ text run. shown c.certified.ensures c.accepted.ensures records text _ _ c.run_checker.result run))
