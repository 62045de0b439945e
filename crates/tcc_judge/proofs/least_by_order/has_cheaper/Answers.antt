use Rattle.tcc_graph.specs.Levels.{judged}
use Rattle.tcc_lanes.specs.Among.{HasCheaperAmong, HasCheaperIntoInit}
use Rattle.tcc_judge.proofs.Leastness.{either_found}
use Rattle.tcc_judge.proofs.least_by_order.has_cheaper.Goals as goal

pub returns : goal.returns
returns c =
    let j = judged c.args.graph.now c.args.level in
    let narrowed = c.args.narrowed.now in
    either_found (HasCheaperAmong j narrowed.members.items c.args.most) (HasCheaperIntoInit j narrowed.key_indices.items c.args.most)
    c.in_ok-has_cheaper_into_init.field-0 c.in_ok-found.found c.if-branch.false
    (rw c.deref.ensures.value at c.in_ok-has_cheaper_into_init.ensures) (rw c.deref-2.ensures.value at c.in_ok-found.ensures)
