-- A run's line is written after the lines so far.
use Rattle.tcc_cert.specs.Texts.{line_text}
use Rattle.tcc_cert.specs.LargeTexts.{run_words}
use Rattle.tcc_cert.proofs.SentFacts.{failed}
use Rattle.tcc_cert.proofs.Items.{Sends-item, Stops-item, Sends-all, flat_map-map}
use Rattle.tcc_cert.proofs.large_writing.run_lines.Goals as goal

pub returns-in_err-run_line : goal.returns-in_err-run_line
returns-in_err-run_line g c =
    failed c.from_residual.result _ _ _ _ _ c.from_residual.ensures.0
    (rw (flat_map-map line_text run_words c.args.runs.now)
    (Stops-item (λ run. line_text (run_words run)) c.args.runs.now c.loop-run.run-index _ c.loop-run-test.true
    c.loop-run.invariant c.in_err-run_line.ensures))

pub loop-run-preserved : goal.loop-run-preserved
loop-run-preserved g c =
    Sends-item (λ run. line_text (run_words run)) c.args.runs.now c.loop-run.run-index _ c.loop-run-test.true
    c.loop-run.invariant c.in_ok-run_line.ensures

pub returns : goal.returns
returns g c =
    rw (flat_map-map line_text run_words c.args.runs.now)
    (Sends-all (λ run. line_text (run_words run)) c.args.runs.now c.loop-run.run-index c.loop-run-test.false c.loop-run.invariant)
