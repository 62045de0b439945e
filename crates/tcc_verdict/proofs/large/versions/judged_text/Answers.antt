-- By the first line.
use Rattle.std.proofs.lemmas.Option.{IfSome_then}
use Rattle.std.proofs.lemmas.Result.{err_from_is_err_and}
use Rattle.tcc_verdict.proofs.Faults.{first_fault}
use Rattle.tcc_verdict.proofs.Judgements.{of_large}
use Rattle.tcc_verdict.proofs.large.versions.judged_text.Goals as goal

pub returns-in_err-parts : goal.returns-in_err-parts
returns-in_err-parts g c =
    let p = err_from_is_err_and c.from_residual.result c.from_residual.ensures.1 in
    IfSome_then (g.R.Read.remaining c.args.reader) c.in_err-parts.ensures.version
    (λ bytes none. rw (p.1, p.2) (first_fault bytes _ (c.no_first_line.ensures bytes _ none)))

pub returns-in-Large : goal.returns-in-Large
returns-in-Large g c = IfSome_then (g.R.Read.remaining c.args.reader) (rw c.in-Large.is at c.in_ok-parts.ensures.version)
    (λ bytes is. of_large c.args.graph.now bytes c.judged_large.result is.0 (rw (← c.large.ensures) (c.judged_large.ensures bytes is.1)))
