-- What was printed is what a run may print, and the notes are those of the outcome for the bytes.
use Rattle.std.proofs.Common.{subst, sym}
use Rattle.std.proofs.lemmas.Option.{IfSome_then}
use Rattle.tcc_txn.specs.declared.limits.Limits.{Limits}
use Rattle.tcc_verdict.specs.Noting.{NotesOutcome}
use Rattle.tcc_verdict.proofs.Checked.{from_two}
use Rattle.tcc_verdict.proofs.Shown.{prints_some, run_of}
use Rattle.tcc_verdict.proofs.checker.run_checker.Goals as goal

pub returns-clause-run : goal.returns-clause-run
returns-clause-run g c = IfSome_then (g.H.Read.remaining c.args.history) c.checked.ensures.given
    (λ records whole. IfSome_then (g.R.Read.remaining c.args.certificate) whole
    (λ text may. run_of g.C.Checker.check g.met.C.Checker.fits.tells _ _ c.checked.result c.print.result records text may c.print.ensures))

pub returns-clause-printed : goal.returns-clause-printed
returns-clause-printed g c = prints_some g.C.Checker.check g.met.C.Checker.fits.tells _ _ c.checked.result c.print.result c.print.ensures

pub returns-clause-noted : goal.returns-clause-noted
returns-clause-noted g c = from_two (g.H.Read.remaining c.args.history) c.checked.ensures.given c.checked.ensures.noted
    (λ records given noted. from_two (g.R.Read.remaining c.args.certificate) given noted
    (λ text may notes. record {
      outcome = c.checked.result;
      lawful = may;
      noted = subst (λ (limits : Limits). NotesOutcome limits records c.checked.result (g.N.Write.contents c.args.notes.now) (g.N.Write.contents c.checked.new.notes))
          (sym g.met.C.Checker.fits.limited) notes;
      printed = c.print.ensures;
    }))
