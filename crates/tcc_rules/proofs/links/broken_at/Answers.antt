-- Where the first begins and the last ends, the first wrong one, and what is left of the cost.
use Rattle.std.proofs.Common.{◌∙◌, arith, sym}
use Rattle.std.proofs.lemmas.Bool.{iff_false}
use Rattle.tcc_rules.proofs.Linked.{fault_cost, fault_open, fault_wrong, right_links, used_up, where_ends, whole_cost}
use Rattle.tcc_rules.proofs.links.broken_at.Goals as goal

pub returns-then-begin-end : goal.returns-then-begin-end
returns-then-begin-end c j most links so_far =
    let ends = rw c.in-Some.is at so_far.ends in
    fault_open j most links ends.0 (λ same. c.if-begin-end.true (ends.1 ∙ same ∙ sym (where_ends j most links c.in-Some.end ends.2)))

pub returns-in-Some-wrong : goal.returns-in-Some-wrong
returns-in-Some-wrong c j most links so_far =
    let ends = rw c.in-Some.is at so_far.ends in
    let found = rw c.in-Some-wrong.is at so_far.wrong in
    fault_wrong j most links c.in-Some-wrong.first found (sym ends.1 ∙ c.if-begin-end.false ∙ where_ends j most links c.in-Some.end ends.2)

pub returns-then-is_used_up : goal.returns-then-is_used_up
returns-then-is_used_up c j most links so_far =
    let ends = rw c.in-Some.is at so_far.ends in
    let right = rw c.in_default-wrong.is at so_far.wrong in
    let left = rw (c.is_used_up.ensures.0 c.if-is_used_up.true) at so_far.left in
    right_links j most links ends.0 right (sym ends.1 ∙ c.if-begin-end.false ∙ where_ends j most links c.in-Some.end ends.2) (omega (arith, left, whole_cost j most links))

pub returns-else-is_used_up : goal.returns-else-is_used_up
returns-else-is_used_up c j most links so_far =
    let ends = rw c.in-Some.is at so_far.ends in
    let right = rw c.in_default-wrong.is at so_far.wrong in
    fault_cost j most links right (sym ends.1 ∙ c.if-begin-end.false ∙ where_ends j most links c.in-Some.end ends.2)
    (λ same. iff_false c.is_used_up.ensures c.if-is_used_up.false (used_up most _ c.args.seen.left so_far.left (whole_cost j most links ∙ same)))
