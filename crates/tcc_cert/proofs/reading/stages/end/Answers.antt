-- The line was read, and something comes after it, or nothing.
use Rattle.std.proofs.lemmas.Result.{err_from_is_err_and}
use Rattle.std.proofs.Common.{None, codes, refl}
use Rattle.tcc_cert.specs.declared.ranges.TextFormat.TheVariants.{Small}
use Rattle.tcc_cert.specs.Parts.{ending}
use Rattle.tcc_cert.specs.Reading.{word_line}
use Rattle.tcc_cert.proofs.OnwardFacts.{onward-words}
use Rattle.tcc_cert.proofs.StepFacts.{onward-at}
use Rattle.tcc_cert.proofs.StageFacts.{end-faults}
use Rattle.tcc_cert.proofs.reading.stages.end.Goals as goal

pub returns-in_err-end-clause-step : goal.returns-in_err-end-clause-step
returns-in_err-end-clause-step g c at before =
    let v = c.args.version in
    let mark = c.in_ok-mark.ensures.gives at before in
    let p = err_from_is_err_and c.from_residual-in_err-end.result c.from_residual-in_err-end.ensures.1 in
    rw (p.1, p.2) (end-faults v at mark.0 _ _ c.end.new.self mark.1 (onward-at _ (onward-words (Small v) (word_line (codes "end")) at) mark.1)
    (c.in_err-end.ensures.ends mark.0 mark.2))

pub returns-clause-step : goal.returns-clause-step
returns-clause-step g c at before =
    let mark = c.in_ok-mark.ensures.gives at before in
    rw (mark.1, c.in_ok-end.ensures.ends mark.0 mark.2) (ending mark.0.line None, (refl, refl), refl)
