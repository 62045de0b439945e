use Rattle.std.proofs.Common.{sym, ◌∙◌, arith}
use Rattle.tcc_judge.proofs.Firsts.{first_empty, first_behind}
use Rattle.tcc_judge.proofs.Told.{at_some, at_none}
use Rattle.tcc_judge.proofs.decoding.end_of.Goals as goal

pub returns-then-owner-session-clause-first : goal.returns-then-owner-session-clause-first
returns-then-owner-session-clause-first c =
    let h = c.args.graph.now in
    let is = sym c.at.ensures ∙ c.in-Some.is in
    let stands = at_some h c.args.n c.in-Some.owner c.in-Some._place is in
    first_behind h c.requires.numbered c.args.n c.later.result.1 c.args.session c.requires.some stands.below c.requires.first
    (stands.owned ∙ c.if-owner-session.true) c.later.ensures.few (λ v. rw c.later.ensures.first at (c.later.ensures.pairs v))
    (omega (arith, c.later.ensures.first, c.later.ensures.order))

pub returns-else-owner-session-clause-first : goal.returns-else-owner-session-clause-first
returns-else-owner-session-clause-first c =
    let h = c.args.graph.now in
    let is = sym c.at.ensures ∙ c.in-Some.is in
    let stands = at_some h c.args.n c.in-Some.owner c.in-Some._place is in
    first_empty h c.requires.numbered c.args.n c.args.session c.requires.some c.requires.within c.requires.first
    (λ below same. c.if-owner-session.false (sym stands.owned ∙ same))

pub returns-in_default-clause-first : goal.returns-in_default-clause-first
returns-in_default-clause-first c =
    let h = c.args.graph.now in
    let is = sym c.at.ensures ∙ c.in_default.is in
    first_empty h c.requires.numbered c.args.n c.args.session c.requires.some c.requires.within c.requires.first
    (λ below same. at_none h c.args.n is c.requires.some below)
