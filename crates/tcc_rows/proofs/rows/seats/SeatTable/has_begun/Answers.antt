use Rattle.std.proofs.Common.{◌≡◌}
use Rattle.tcc_rows.proofs.SeatFacts.{seat-there}
use Rattle.tcc_rows.proofs.rows.seats.SeatTable.has_begun.Goals as goal

pub returns : goal.returns
returns c session is =
    let lies : c.self.inside.seats.items ≡ c.args.self.now = c.self.view_is in
    let there =
    seat-there c.self.inside.seats.items session c.args.number c.index.result.now (rw c.self.invariant.each at c.self.invariant.once) (rw (← lies) at is)
    c.index.ensures in
    (c.index.result.now.1, rw (← lies) there.1, c.is_some.ensures)
