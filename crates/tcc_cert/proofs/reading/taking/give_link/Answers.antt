-- The first line was read, and then the walk.
use Rattle.std.proofs.Common.{◌≡◌, List, Ok, ◌∙◌, arith}
use Rattle.std.proofs.lemmas.Result.{err_from_is_err_and}
use Rattle.tcc_graph.specs.declared.step.Step.{Step}
use Rattle.tcc_cert.specs.declared.ranges.TextFormat.TheVariants.{Large}
use Rattle.tcc_cert.specs.Reading.{Position, head_line, link_at, repeated, step_line, walk_of, with_walk, words}
use Rattle.tcc_cert.proofs.LinesBack.{then_ok}
use Rattle.tcc_cert.proofs.OnwardFacts.{onward-link, onward-ok, onward-walk, onward-words}
use Rattle.tcc_cert.proofs.StepFacts.{first-faults, later-faults, onward-at}
use Rattle.tcc_cert.proofs.TakingFacts.{refused-behind}
use Rattle.tcc_cert.proofs.reading.taking.give_link.Goals as goal

pub returns-in_err-steps-clause-gives : goal.returns-in_err-steps-clause-gives
returns-in_err-steps-clause-gives g c at h sizes links before taken =
    let p = err_from_is_err_and c.from_residual.result c.from_residual.ensures.1 in
    rw (p.1, p.2) (first-faults (words Large (head_line Large) at) (walk_of Large) _ (onward-walk Large)
    (c.in_err-steps.ensures.gives at h sizes links before taken))

pub returns-in_err-give_walk-clause-gives : goal.returns-in_err-give_walk-clause-gives
returns-in_err-give_walk-clause-gives g c at h sizes links before taken =
    let p = err_from_is_err_and c.from_residual-in_err-give_walk.result c.from_residual-in_err-give_walk.ensures.1 in
    let begun = c.in_ok-steps.ensures.gives at h sizes links before taken in
    let onward = λ (walk : List Step × Position). onward-ok (with_walk begun.item.link walk.0) walk.1 walk.1 (omega arith) in
    rw (p.1, p.2) (later-faults (words Large (head_line Large) at) (walk_of Large) _ begun.given.1
    (onward-at (words Large (head_line Large) at) (onward-words Large (head_line Large) at) begun.given.1)
    (first-faults (repeated (words Large (step_line Large)) begun.item.steps begun.given.0) _ _ onward
    (rw begun.holds.0 at (c.in_err-give_walk.ensures.gives begun.given.0 h sizes links begun.item.link begun.given.2 begun.holds.1))))

pub returns-in-Ok-clause-gives : goal.returns-in-Ok-clause-gives
returns-in-Ok-clause-gives g c at h sizes links before taken =
    let begun = c.in_ok-steps.ensures.gives at h sizes links before taken in
    let walk = rw begun.holds.0 at (c.in_ok-give_walk.ensures.gives begun.given.0 h sizes links begun.item.link begun.given.2 begun.holds.1) in
    record {
      item = with_walk begun.item.link walk.item;
      holds = c.in-Ok.ensures.link h sizes links begun.item.link walk.item walk.holds;
      given = (walk.given.0, then_ok (walk_of Large) begun.given.1 ∙ then_ok _ walk.given.1, walk.given.2);
    }

pub returns-in-Err-clause-gives : goal.returns-in-Err-clause-gives
returns-in-Err-clause-gives g c at h sizes links before taken =
    let begun = c.in_ok-steps.ensures.gives at h sizes links before taken in
    let walk = rw begun.holds.0 at (c.in_ok-give_walk.ensures.gives begun.given.0 h sizes links begun.item.link begun.given.2 begun.holds.1) in
    let is : link_at Large at ≡ Ok (with_walk begun.item.link walk.item, walk.given.0) =
    then_ok (walk_of Large) begun.given.1 ∙ then_ok _ walk.given.1 in
    rw (c.fault.ensures, walk.given.2.number) (refused-behind at walk.given.0 (link_at Large at) (with_walk begun.item.link walk.item) (onward-link Large at) is)
