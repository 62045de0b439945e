-- The lines are written one after the other.
use Rattle.std.proofs.Common.{[], ◌∷◌, codes}
use Rattle.std.proofs.lemmas.Grind.{flat_map-append}
use Rattle.tcc_cert.specs.Texts.{line_text, clocks_lines}
use Rattle.tcc_cert.proofs.SentFacts.{failed, failed-early, IsSent-then, Stops-early, Stops-then}
use Rattle.tcc_cert.proofs.writing.order.Goals as goal

pub returns-in_err-line : goal.returns-in_err-line
returns-in_err-line g c =
    failed-early c.from_residual.result _ _ _ _ _ _ c.from_residual.ensures.0 (rw c.as_slice-order.ensures at c.in_err-line.ensures)

pub returns-in_err-number_line : goal.returns-in_err-number_line
returns-in_err-number_line g c =
    failed c.from_residual-in_err-number_line.result _ _ _ _ _ c.from_residual-in_err-number_line.ensures.0
    (Stops-then (rw c.as_slice-order.ensures at c.in_ok-line.ensures)
    (Stops-early _ (rw c.as_slice-order.ensures at c.in_err-number_line.ensures)))

pub returns-in_err-clocks : goal.returns-in_err-clocks
returns-in_err-clocks g c =
    rw (flat_map-append line_text (clocks_lines c.args.claim.now.level c.args.claim.now.clocks) ((codes "end" ∷ []) ∷ []))
    (failed c.from_residual-in_err-clocks.result _ _ _ _ _ c.from_residual-in_err-clocks.ensures.0
    (Stops-then (rw c.as_slice-order.ensures at c.in_ok-line.ensures)
    (Stops-then (rw c.as_slice-order.ensures at c.in_ok-number_line.ensures)
    (Stops-early _ c.in_err-clocks.ensures))))

pub returns : goal.returns
returns g c =
    rw (flat_map-append line_text (clocks_lines c.args.claim.now.level c.args.claim.now.clocks) ((codes "end" ∷ []) ∷ []))
    (IsSent-then c.line-2.result _ _ _ _ _ _ _ _ (rw c.as_slice-order.ensures at c.in_ok-line.ensures)
    (IsSent-then c.line-2.result _ _ _ _ _ _ _ _ (rw c.as_slice-order.ensures at c.in_ok-number_line.ensures)
    (IsSent-then c.line-2.result _ _ _ _ _ _ _ _ c.in_ok-clocks.ensures c.line-2.ensures)))
