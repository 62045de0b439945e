-- A link's lines are written after the lines so far.
use Rattle.tcc_cert.specs.Texts.{line_text, lines_text, link_lines}
use Rattle.tcc_cert.proofs.SentFacts.{failed}
use Rattle.tcc_cert.proofs.Items.{Sends-read, Stops-read, Sends-all, flat_map-flat_map}
use Rattle.tcc_cert.proofs.writing.link_lines.Goals as goal

pub returns-in_err-link : goal.returns-in_err-link
returns-in_err-link g c =
    failed c.from_residual.result _ _ _ _ _ c.from_residual.ensures.0
    (rw (flat_map-flat_map line_text link_lines c.args.links.now, ← c.as_slice-one-items.ensures)
    (Stops-read (λ link. lines_text (link_lines link)) c.as_slice-one-items.result.now c.loop-one.one-index c.one-item.result c.loop-one-test.true
    c.one-item.is c.loop-one.invariant c.in_err-link.ensures))

pub loop-one-preserved : goal.loop-one-preserved
loop-one-preserved g c =
    Sends-read (λ link. lines_text (link_lines link)) c.as_slice-one-items.result.now c.loop-one.one-index c.one-item.result c.loop-one-test.true
    c.one-item.is c.loop-one.invariant c.in_ok-link.ensures

pub returns : goal.returns
returns g c =
    rw (flat_map-flat_map line_text link_lines c.args.links.now, ← c.as_slice-one-items.ensures)
    (Sends-all (λ link. lines_text (link_lines link)) c.as_slice-one-items.result.now c.loop-one.one-index c.loop-one-test.false c.loop-one.invariant)
