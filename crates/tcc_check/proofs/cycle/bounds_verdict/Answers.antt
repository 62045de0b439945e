-- The rules on lengths, and then those on costs.
use Rattle.tcc_check.specs.private.Judged.{far_rules, near_rules}
use Rattle.tcc_check.proofs.Asked.{answer_first}
use Rattle.tcc_check.proofs.cycle.bounds_verdict.Goals as goal

pub returns : goal.returns
returns c =
    let h = c.args.graph.now in
    let k = c.args.claim.now in
    let judged = rw c.as_slice-rows.ensures at c.in_ok-near.ensures.judged in
    rw c.first_rejected.ensures (answer_first (near_rules h k.level k.near) (far_rules h k.version k.least k.near k.far)
    c.in_ok-near.near.verdict c.far_table-of_far.result judged.answer (rw (← c.as_slice-far.ensures) (c.far_table-of_far.ensures k.near judged.links)))
