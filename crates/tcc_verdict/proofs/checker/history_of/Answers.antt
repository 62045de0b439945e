-- What ends the records, or the outcome for the snapshot of all that they finish, and its notes.
use Rattle.std.proofs.Common.{◌∙◌, subst}
use Rattle.std.proofs.lemmas.Option.{IfSome_then}
use Rattle.tcc_print.specs.Notes.{AddsEach}
use Rattle.tcc_verdict.specs.Noting.{snapshot_notes}
use Rattle.tcc_verdict.proofs.Checked.{of_snapshot, unrecorded}
use Rattle.tcc_verdict.proofs.NotesLemmas.{fault_noted, snapshot_noted}
use Rattle.tcc_verdict.proofs.checker.history_of.Goals as goal

pub returns-in_err-recording-clause-made : goal.returns-in_err-recording-clause-made
returns-in_err-recording-clause-made g c = IfSome_then (g.R.Read.remaining c.args.reader) c.in_err-recording.ensures.recorded
    (λ records fails. unrecorded g.C.Limits.Bounds.limits g.C.Checker.is_made records c.in_err-recording.field-0.0 c.from_residual.result fails
    c.from_residual.ensures.1)

pub returns-in_err-recording-clause-noted : goal.returns-in_err-recording-clause-noted
returns-in_err-recording-clause-noted g c = IfSome_then (g.R.Read.remaining c.args.reader) c.in_err-recording.ensures.shown
    (λ records stops. fault_noted _ _ g.C.Limits.Bounds.limits records c.in_err-recording.field-0.0 c.from_residual.result c.from_residual.ensures.1 stops)

pub returns-clause-made : goal.returns-clause-made
returns-clause-made g c = IfSome_then (g.R.Read.remaining c.args.reader) c.in_ok-recording.ensures.recorded
    (λ records is. of_snapshot g.C.Limits.Bounds.limits g.C.Checker.is_made records c.snapshot.result.now c.graph_of.result is.0 (c.snapshot.ensures.value ∙ is.1)
    c.graph_of.ensures.made)

pub returns-clause-noted : goal.returns-clause-noted
returns-clause-noted g c = IfSome_then (g.R.Read.remaining c.args.reader) c.in_ok-recording.ensures.recorded
    (λ records is. snapshot_noted _ _ g.C.Limits.Bounds.limits records g.C.Checker.is_made c.snapshot.result.now c.graph_of.result
    (c.snapshot.ensures.value ∙ is.1) c.graph_of.ensures.made
    (subst (λ before. AddsEach before (g.N.Write.contents c.graph_of.new.notes) (snapshot_notes c.snapshot.result.now c.graph_of.result))
    c.in_ok-recording.ensures.noted c.graph_of.ensures.notes))
