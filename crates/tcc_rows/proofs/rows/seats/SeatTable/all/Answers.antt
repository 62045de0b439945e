use Rattle.std.proofs.Common.{◌≡◌}
use Rattle.tcc_rows.proofs.SeatFacts.{each-found}
use Rattle.tcc_rows.proofs.rows.seats.SeatTable.all.Goals as goal

pub returns-clause-found : goal.returns-clause-found
returns-clause-found c =
    let lies : c.self.inside.seats.items ≡ c.args.self.now = c.self.view_is in
    rw (← lies) (each-found c.self.inside.seats.items (rw c.self.invariant.each at c.self.invariant.once))
