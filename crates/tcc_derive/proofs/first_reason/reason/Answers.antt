use Rattle.tcc_derive.proofs.ReasonLemmas.{none_derived, reason_of}
use Rattle.tcc_derive.proofs.first_reason.reason.Goals as goal
use Rattle.tcc_graph.specs.Levels.{judged}

pub returns-in_default : goal.returns-in_default
returns-in_default c =
    none_derived (judged c.args.graph.now c.args.near.now.level) c.args.near.now c.args.b c.args.a c.requires.near c.requires.from
    (rw (c.deref.ensures.value, c.row.ensures.value) at c.in_default.ensures)

pub returns : goal.returns
returns c =
    reason_of (judged c.args.graph.now c.args.near.now.level) c.args.near.now c.args.b c.args.a c.requires.near c.requires.from
    c.in-Some.found.0 c.in-Some.found.1 c.in_ok-walk.walk
    (rw (c.deref.ensures.value, c.row.ensures.value) at c.in-Some.ensures) c.in_ok-walk.ensures
