use Rattle.tcc_run.proofs.Outcomes.{found_cycle}
use Rattle.tcc_run.proofs.outcome.Outcome.of_cycle.Goals as goal

pub returns : goal.returns
returns c = λ s is. rw c.in_ok-held.ensures (
    found_cycle c.args.level c.args.graph s c.args.links.items c.in_ok-answer.answer _ is (c.in_ok-answer.ensures c.args.graph c.in_ok-labels.ensures)
    (rw c.deref.ensures.value at c.in_ok-cycle_claim.ensures))
