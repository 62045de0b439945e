-- The lines are written one after the other.
use Rattle.std.proofs.Common.{[], ◌∷◌, codes, flat_map}
use Rattle.std.proofs.lemmas.Grind.{flat_map-append}
use Rattle.tcc_cert.specs.Texts.{line_text, link_lines}
use Rattle.tcc_base.proofs.Failing.{on_err}
use Rattle.tcc_cert.proofs.SentFacts.{Appends-part, Sends-then, Stops-early, Stops-then}
use Rattle.tcc_cert.proofs.cycle_writer.write_first_lines.Goals as goal

pub returns-in_err-header_line-clause-part : goal.returns-in_err-header_line-clause-part
returns-in_err-header_line-clause-part g c =
    on_err c.from_residual.result (Appends-part (Stops-early _ (rw c.new-outgoing.ensures at c.in_err-header_line.ensures)))

pub returns-in_err-cycle_sizes-clause-part : goal.returns-in_err-cycle_sizes-clause-part
returns-in_err-cycle_sizes-clause-part g c =
    on_err c.from_residual-in_err-cycle_sizes.result
    (Appends-part (Stops-then (rw c.new-outgoing.ensures at c.in_ok-header_line.ensures)
    (Stops-early _ (rw c.as_slice-many.ensures at c.in_err-cycle_sizes.ensures))))

pub returns-in_err-link_lines-clause-part : goal.returns-in_err-link_lines-clause-part
returns-in_err-link_lines-clause-part g c =
    on_err c.from_residual-in_err-link_lines.result
    (rw (flat_map-append line_text (flat_map link_lines c.args.links.now) ((codes "near" ∷ []) ∷ []))
    (Appends-part (Stops-then (rw c.new-outgoing.ensures at c.in_ok-header_line.ensures)
    (Stops-then (rw c.as_slice-many.ensures at c.in_ok-cycle_sizes.ensures) (Stops-early _ c.in_err-link_lines.ensures)))))

pub returns-in_err-line-clause-part : goal.returns-in_err-line-clause-part
returns-in_err-line-clause-part g c =
    on_err c.from_residual-in_err-line.result
    (rw (flat_map-append line_text (flat_map link_lines c.args.links.now) ((codes "near" ∷ []) ∷ []))
    (Appends-part (Stops-then (rw c.new-outgoing.ensures at c.in_ok-header_line.ensures)
    (Stops-then (rw c.as_slice-many.ensures at c.in_ok-cycle_sizes.ensures) (Stops-then c.in_ok-link_lines.ensures c.in_err-line.ensures)))))

pub returns-clause-whole : goal.returns-clause-whole
returns-clause-whole g c =
    rw (flat_map-append line_text (flat_map link_lines c.args.links.now) ((codes "near" ∷ []) ∷ []))
    (Sends-then (rw c.new-outgoing.ensures at c.in_ok-header_line.ensures)
    (Sends-then (rw c.as_slice-many.ensures at c.in_ok-cycle_sizes.ensures)
    (Sends-then c.in_ok-link_lines.ensures c.in_ok-line.ensures)))
