use Rattle.tcc_rows.proofs.SeatFacts.{seat-within}
use Rattle.tcc_rows.proofs.rows.progress.may_begin.Goals as goal

pub has_begun-requires : goal.has_begun-requires
has_begun-requires c = seat-within c.args.sessions.now c.args.session.now c.in-Some.number c.in-Some.ensures
