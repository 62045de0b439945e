use Rattle.std.proofs.Common.{sym, arith, ◌∙◌, Some}
use Rattle.tcc_check.specs.private.Latest.{IsLastWithin}
use Rattle.std.proofs.lemmas.Bool.{leb-true}
use Rattle.tcc_check.proofs.Sessions.{at_parts, before_earlier, before_last}
use Rattle.tcc_check.proofs.latest.stands_before.Goals as goal

pub returns-then-owner-session : goal.returns-then-owner-session
returns-then-owner-session c = λ t.
    let h = c.args.graph.now in
    let last : IsLastWithin h c.args.writers.now c.args.at.0 c.args.at.1 (Some c.in-Some.last) = rw c.in-Some.is at c.last_within.ensures in
    let stand = at_parts h c.in-Some.last c.in-Some-at.owner c.in-Some-at.field-0-1 (sym c.at.ensures ∙ c.in-Some-at.is) in
    before_earlier h c.requires.positions.numbered c.args.positions.now c.args.writers.now c.args.at.0 c.args.at.1 c.args.source
    c.requires.writers.below c.in-Some.last
    (omega (arith, stand.2, c.if-owner-session.true)) last

pub returns-then-owner-session-2 : goal.returns-then-owner-session-2
returns-then-owner-session-2 c = λ t.
    let h = c.args.graph.now in
    let last : IsLastWithin h c.args.writers.now c.args.at.0 c.args.at.1 (Some c.in-Some.last) = rw c.in-Some.is at c.last_within.ensures in
    let stand = at_parts h c.in-Some.last c.in-Some-at.owner c.in-Some-at.field-0-1 (sym c.at.ensures ∙ c.in-Some-at.is) in
    before_last h c.requires.positions.numbered c.args.positions.now c.args.writers.now c.args.at.0 c.args.at.1 c.args.source
    c.requires.writers.below c.in-Some.last
    (omega (arith, stand.2, c.if-owner-session-2.true)) (leb-true _ _ t) c.requires.positions.kept last
