-- The first line was read, and then the walk.
use Rattle.std.proofs.Common.{List, ◌∙◌, arith}
use Rattle.std.proofs.lemmas.Result.{err_from_is_err_and}
use Rattle.tcc_graph.specs.declared.step.Step.{Step}
use Rattle.tcc_cert.specs.Reading.{Position, step_line, head_line, words, repeated, with_walk, walk_of}
use Rattle.tcc_cert.proofs.LinesBack.{then_ok}
use Rattle.tcc_cert.proofs.OnwardFacts.{onward-words, onward-walk, onward-ok}
use Rattle.tcc_cert.proofs.StepFacts.{first-faults, later-faults, onward-at}
use Rattle.tcc_cert.proofs.reading.links.link.Goals as goal

pub returns-in_err-head-clause-gives : goal.returns-in_err-head-clause-gives
returns-in_err-head-clause-gives g c at before =
    let v = c.args.scale in
    let p = err_from_is_err_and c.from_residual.result c.from_residual.ensures.1 in
    rw (p.1, p.2) (first-faults (words v (head_line v) at) (walk_of v) _ (onward-walk v) (c.in_err-head.ensures.gives at before))

pub returns-in_err-walk-clause-gives : goal.returns-in_err-walk-clause-gives
returns-in_err-walk-clause-gives g c at before =
    let v = c.args.scale in
    let p = err_from_is_err_and c.from_residual-in_err-walk.result c.from_residual-in_err-walk.ensures.1 in
    let head = c.in_ok-head.ensures.gives at before in
    let value = c.in_ok-head.head in
    let onward = λ (walk : List Step × Position). onward-ok (with_walk value.link walk.0) walk.1 walk.1 (omega arith) in
    rw (p.1, p.2) (later-faults (words v (head_line v) at) (walk_of v) _ head.1
    (onward-at (words v (head_line v) at) (onward-words v (head_line v) at) head.1)
    (first-faults (repeated (words v (step_line v)) value.steps head.0) _ _ onward (c.in_err-walk.ensures.gives head.0 head.2)))

pub returns-clause-gives : goal.returns-clause-gives
returns-clause-gives g c at before =
    let head = c.in_ok-head.ensures.gives at before in
    let walk = c.in_ok-walk.ensures.gives head.0 head.2 in
    (walk.0, rw c.with_walk.ensures (then_ok (walk_of c.args.scale) head.1 ∙ then_ok _ walk.1), walk.2)
