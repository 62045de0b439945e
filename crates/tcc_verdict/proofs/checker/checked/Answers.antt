-- The outcome for a certificate and the history, or for records without a history, and its notes.
use Rattle.std.proofs.Common.{Err, sym, subst}
use Rattle.std.proofs.lemmas.Option.{IfSome_then}
use Rattle.tcc_txn.specs.declared.limits.Limits.{Limits}
use Rattle.tcc_verdict.specs.private.Stages.{IsMadeOf}
use Rattle.tcc_verdict.proofs.Checked.{of_both, nothing_made_by, for_any, from_two}
use Rattle.tcc_verdict.proofs.NotesLemmas.{run_error_noted, text_noted}
use Rattle.tcc_verdict.proofs.checker.checked.Goals as goal

pub returns-in_err-graph-clause-given : goal.returns-in_err-graph-clause-given
returns-in_err-graph-clause-given g c = IfSome_then (g.H.Read.remaining c.args.history) c.in_err-graph.ensures.made
    (λ records fails. for_any (g.R.Read.remaining c.args.certificate)
    (λ text. nothing_made_by g.C.Checker.check g.C.Checker.is_made records text c.in_err-graph.field-0.0 c.from_residual.result
    (subst (λ (limits : Limits). IsMadeOf limits g.C.Checker.is_made records (Err c.in_err-graph.field-0.0)) (sym g.met.C.Checker.fits.limited) fails)
    c.from_residual.ensures.1))

pub returns-in_err-graph-clause-noted : goal.returns-in_err-graph-clause-noted
returns-in_err-graph-clause-noted g c = IfSome_then (g.H.Read.remaining c.args.history) c.in_err-graph.ensures.noted
    (λ records noted. for_any (g.R.Read.remaining c.args.certificate)
    (λ text. run_error_noted _ _ g.C.Limits.Bounds.limits records c.in_err-graph.field-0.0 c.from_residual.result c.from_residual.ensures.1 noted))

pub returns-clause-given : goal.returns-clause-given
returns-clause-given g c = IfSome_then (g.H.Read.remaining c.args.history) c.in_ok-graph.ensures.made
    (λ records is. IfSome_then (g.R.Read.remaining c.args.certificate) c.judged.ensures
    (λ text may. of_both g.C.Checker.check g.C.Checker.is_made records text c.in_ok-graph.graph c.judged.result (rw g.met.C.Checker.fits.limited is) may))

pub returns-clause-noted : goal.returns-clause-noted
returns-clause-noted g c = from_two (g.H.Read.remaining c.args.history) c.in_ok-graph.ensures.made c.in_ok-graph.ensures.noted
    (λ records is none. IfSome_then (g.R.Read.remaining c.args.certificate) c.judged.ensures
    (λ text may. text_noted _ _ g.C.Limits.Bounds.limits records g.C.Checker.check g.met.C.Checker.fits _ text c.judged.result
    (may _ is.1.1) none))
