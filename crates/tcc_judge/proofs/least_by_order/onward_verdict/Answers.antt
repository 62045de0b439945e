use Rattle.std.proofs.Common.{inl, inr, refl, sym, ◌∙◌}
use Rattle.std.proofs.lemmas.Bool.{false≢true}
use Rattle.tcc_graph.specs.Levels.{judged}
use Rattle.tcc_judge.specs.private.Onward.{HasAllBelow}
use Rattle.tcc_judge.proofs.Leastness.{has_all_below, none_cheaper, some_cheaper}
use Rattle.tcc_judge.proofs.least_by_order.onward_verdict.Given.{Over}
use Rattle.tcc_judge.proofs.least_by_order.onward_verdict.Goals.{In-Some}
use Rattle.tcc_judge.proofs.least_by_order.onward_verdict.Goals as goal

pub returns-in-Err : goal.returns-in-Err
returns-in-Err g c = rw c.rejected_at.ensures (inl (refl, rw c.in-Err.is at c.in_ok-positions.ensures))

pub narrow_down-requires-clause-kept : goal.narrow_down-requires-clause-kept
narrow_down-requires-clause-kept g c = rw c.deref.ensures.value (rw c.in-Ok.is at c.in_ok-positions.ensures)

pub returns-in_default : goal.returns-in_default
returns-in_default g c =
    rw c.rejected.ensures (inr ((rw c.in-Ok.is at c.in_ok-positions.ensures).reads, inl (refl, (refl, rw c.in_default.is at c.in_ok-narrowed.ensures))))

all_below : (g : Over) (c : In-Some g) → HasAllBelow (judged c.args.graph.now c.args.level) c.args.most c.in-Some.narrowed.members.items c.in-Some.narrowed.key_indices.items
all_below g c =
    let those = rw (c.in-Some.is, c.deref.ensures.value) at c.in_ok-narrowed.ensures in
    has_all_below c.args.graph.now c.args.level c.args.order.now c.in-Ok.positions.items c.requires.ordered (rw c.in-Ok.is at c.in_ok-positions.ensures) c.args.most
    c.in-Some.narrowed.members.items c.in-Some.narrowed.key_indices.items those.1.0.listed those.1.1.listed

pub has_cheaper-requires : goal.has_cheaper-requires
has_cheaper-requires g c = all_below g (goal.at.has_cheaper-requires g c).In-Some

pub returns-then-branch : goal.returns-then-branch
returns-then-branch g c =
    let kept = rw c.in-Ok.is at c.in_ok-positions.ensures in
    let are_those = rw (c.in-Some.is, c.deref.ensures.value) at c.in_ok-narrowed.ensures in
    let cheaper =
    some_cheaper (judged c.args.graph.now c.args.level) c.args.most c.in-Some.narrowed.members.items c.in-Some.narrowed.key_indices.items
    (all_below g (goal.at.returns-then-branch g c).In-Some) (c.in_ok-has_cheaper.ensures.0 c.if-branch.true) in
    rw c.rejected-then-branch.ensures (inr (kept.reads, inr (are_those.0, inl (refl, (refl, cheaper)))))

pub returns : goal.returns
returns g c =
    let kept = rw c.in-Ok.is at c.in_ok-positions.ensures in
    let are_those = rw (c.in-Some.is, c.deref.ensures.value) at c.in_ok-narrowed.ensures in
    let none =
    none_cheaper (judged c.args.graph.now c.args.level) c.args.most c.in-Some.narrowed.members.items c.in-Some.narrowed.key_indices.items
    (all_below g (goal.at.returns g c).In-Some) (λ is. false≢true (sym c.if-branch.false ∙ c.in_ok-has_cheaper.ensures.1 is)) in
    (kept.reads, (are_those.0, (none, tt)))
