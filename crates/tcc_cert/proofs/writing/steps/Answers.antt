-- A step's line is written after the lines so far.
use Rattle.tcc_cert.specs.Texts.{line_text, step_words}
use Rattle.tcc_cert.proofs.SentFacts.{failed}
use Rattle.tcc_cert.proofs.Items.{Sends-read, Stops-read, Sends-all, flat_map-map}
use Rattle.tcc_cert.proofs.writing.steps.Goals as goal

pub returns-in_err-step : goal.returns-in_err-step
returns-in_err-step g c =
    failed c.from_residual.result _ _ _ _ _ c.from_residual.ensures.0
    (rw (flat_map-map line_text step_words c.args.steps.now)
    (Stops-read (λ step. line_text (step_words step)) c.args.steps.now c.loop-one.one-index c.one-item.result c.loop-one-test.true c.one-item.is
    c.loop-one.invariant c.in_err-step.ensures))

pub loop-one-preserved : goal.loop-one-preserved
loop-one-preserved g c =
    Sends-read (λ step. line_text (step_words step)) c.args.steps.now c.loop-one.one-index c.one-item.result c.loop-one-test.true c.one-item.is
    c.loop-one.invariant c.in_ok-step.ensures

pub returns : goal.returns
returns g c =
    rw (flat_map-map line_text step_words c.args.steps.now)
    (Sends-all (λ step. line_text (step_words step)) c.args.steps.now c.loop-one.one-index c.loop-one-test.false c.loop-one.invariant)
