use Rattle.std.proofs.Common.{◌≡◌}
use Rattle.tcc_rows.proofs.SeatFacts.{seat-numbered, unseated}
use Rattle.tcc_rows.proofs.rows.seats.SeatTable.find.Goals as goal

pub returns-in-Some : goal.returns-in-Some
returns-in-Some c =
    let lies : c.self.inside.seats.items ≡ c.args.self.now = c.self.view_is in
    rw (← lies) (seat-numbered c.self.inside.seats.items c.args.session.now c.in-Some.number (rw c.self.invariant.each at c.in-Some.ensures))

pub returns-in-None : goal.returns-in-None
returns-in-None c =
    let lies : c.self.inside.seats.items ≡ c.args.self.now = c.self.view_is in
    rw (← lies) (unseated c.self.inside.seats.items c.args.session.now (rw c.self.invariant.each at c.in-None.ensures))
