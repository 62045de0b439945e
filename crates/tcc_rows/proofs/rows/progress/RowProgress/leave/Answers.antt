use Rattle.std.proofs.Common.{sym, refl, ◌∙◌, ap, Some}
use Rattle.tcc_rows.proofs.SeatFacts.{seat-within}
use Rattle.tcc_rows.proofs.SessionStateFacts.{after-leave}
use Rattle.tcc_rows.proofs.rows.progress.RowProgress.leave.Goals as goal

pub has_begun-requires : goal.has_begun-requires
has_begun-requires c = seat-within c.args.self.now.sessions c.args.session c.in-Some.number c.in-Some.ensures

pub end-requires : goal.end-requires
end-requires c = seat-within c.args.self.now.sessions c.args.session c.in-Some.number c.in-Some.ensures

pub returns-in-Some-end-clause-passed : goal.returns-in-Some-end-clause-passed
returns-in-Some-end-clause-passed c limits past is =
    let sits = c.end.ensures.given c.args.session c.in-Some.ensures ∙ ap Some c.in-Some-end.is in
    after-leave limits past c.args.session _ c.args.self.now _ is (sym (is.ended c.args.session) ∙ sym c.contains.ensures ∙ c.if-contains.false) sits
    (c.end.ensures.put c.args.session c.in-Some.ensures) c.end.ensures.count
    (c.in_ok-note_ended.ensures.noted past is.ended) refl refl refl refl
