use Rattle.tcc_judge.proofs.Leastness.{narrowed, too_many_keys}
use Rattle.tcc_judge.proofs.least_by_order.narrow.Goals as goal

pub returns-in_default : goal.returns-in_default
returns-in_default c =
    too_many_keys c.args.graph.now c.args.level c.args.order.now c.args.positions.now c.args.found.now.lasts.items c.args.found.now.stale.items
    c.requires.found c.args.most (rw (c.in_default.is, c.deref.ensures.value) at c.in_ok-key_indices.ensures)

pub returns-in_default-2 : goal.returns-in_default-2
returns-in_default-2 c = λ bounded. (rw c.in_default-2.is at c.in_ok-members.ensures) bounded.members

pub returns : goal.returns
returns c =
    narrowed c.args.graph.now c.args.level c.args.order.now c.args.positions.now c.args.found.now.lasts.items c.args.found.now.stale.items
    c.requires.found c.args.most c.in-Some-2.members.items c.in-Some.key_indices.items c.requires.most
    (rw c.in-Some-2.is at c.in_ok-members.ensures) (rw (c.in-Some.is, c.deref.ensures.value) at c.in_ok-key_indices.ensures)
