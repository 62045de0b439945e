use Rattle.tcc_rows.proofs.SeatFacts.{seat-within}
use Rattle.tcc_rows.proofs.rows.seats.SeatTable.begin.Goals as goal

pub put-before-requires : goal.put-before-requires
put-before-requires c = seat-within c.args.self.now c.args.session c.in-Some.number c.in-Some.ensures
