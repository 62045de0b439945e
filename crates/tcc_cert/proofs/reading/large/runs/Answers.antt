-- The runs were read, and then the last line.
use Rattle.std.proofs.Common.{◌∙◌, arith, codes}
use Rattle.std.proofs.lemmas.Result.{err_from_is_err_and}
use Rattle.tcc_cert.specs.declared.ranges.TextFormat.TheVariants.{Large}
use Rattle.tcc_cert.specs.Reading.{repeated, word_line, words}
use Rattle.tcc_cert.specs.LargeReading.{run_line}
use Rattle.tcc_cert.proofs.LargeOnward.{behind-runs, onward-lines}
use Rattle.tcc_cert.proofs.LinesBack.{then_ok}
use Rattle.tcc_cert.proofs.OnwardFacts.{onward-ok}
use Rattle.tcc_cert.proofs.StepFacts.{first-faults, later-faults, onward-at}
use Rattle.tcc_cert.proofs.reading.large.runs.Goals as goal

pub returns-in_err-runs-clause-gives : goal.returns-in_err-runs-clause-gives
returns-in_err-runs-clause-gives g c at before =
    let p = err_from_is_err_and c.from_residual.result c.from_residual.ensures.1 in
    rw (p.1, p.2) (first-faults (repeated (words Large run_line) c.args.count at) _ _ behind-runs (c.in_err-runs.ensures.gives at before))

pub returns-in_err-mark-clause-gives : goal.returns-in_err-mark-clause-gives
returns-in_err-mark-clause-gives g c at before =
    let p = err_from_is_err_and c.from_residual-in_err-mark.result c.from_residual-in_err-mark.ensures.1 in
    let runs = c.in_ok-runs.ensures.gives at before in
    rw (p.1, p.2) (later-faults (repeated (words Large run_line) c.args.count at) _ _ runs.1 (onward-at _ (onward-lines c.args.count at) runs.1)
    (first-faults (words Large (word_line (codes "end")) runs.0) _ _ (λ end. onward-ok _ end.1 end.1 (omega arith))
    (c.in_err-mark.ensures.gives runs.0 runs.2)))

pub returns-clause-gives : goal.returns-clause-gives
returns-clause-gives g c at before =
    let runs = c.in_ok-runs.ensures.gives at before in
    let mark = c.in_ok-mark.ensures.gives runs.0 runs.2 in
    (mark.0, then_ok _ runs.1 ∙ then_ok _ mark.1, mark.2)
