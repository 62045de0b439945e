-- The sizes are written, then the links, and then what is claimed of leastness.
use Rattle.std.proofs.Common.{flat_map}
use Rattle.std.proofs.lemmas.Grind.{flat_map-append}
use Rattle.tcc_cert.specs.Texts.{line_text, link_lines}
use Rattle.tcc_cert.specs.LargeTexts.{least_lines}
use Rattle.tcc_cert.proofs.SentFacts.{failed, failed-early, IsSent-then, Stops-early, Stops-then}
use Rattle.tcc_cert.proofs.large_writing.cycle.Goals as goal

pub returns-in_err-cycle_sizes : goal.returns-in_err-cycle_sizes
returns-in_err-cycle_sizes g c =
    failed-early c.from_residual.result _ _ _ _ _ _ c.from_residual.ensures.0 (rw c.as_slice-many.ensures at c.in_err-cycle_sizes.ensures)

pub returns-in_err-link_lines : goal.returns-in_err-link_lines
returns-in_err-link_lines g c =
    rw (flat_map-append line_text (flat_map link_lines c.args.claim.now.links) (least_lines c.args.claim.now.least))
    (failed c.from_residual-in_err-link_lines.result _ _ _ _ _ c.from_residual-in_err-link_lines.ensures.0
    (Stops-then (rw c.as_slice-many.ensures at c.in_ok-cycle_sizes.ensures) (Stops-early _ c.in_err-link_lines.ensures)))

pub returns : goal.returns
returns g c =
    rw (flat_map-append line_text (flat_map link_lines c.args.claim.now.links) (least_lines c.args.claim.now.least))
    (IsSent-then c.least.result _ _ _ _ _ _ _ _ (rw c.as_slice-many.ensures at c.in_ok-cycle_sizes.ensures)
    (IsSent-then c.least.result _ _ _ _ _ _ _ _ c.in_ok-link_lines.ensures c.least.ensures))
