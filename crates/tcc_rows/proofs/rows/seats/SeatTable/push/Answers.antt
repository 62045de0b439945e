use Rattle.std.proofs.Common.{◌≡◌, None, Some}
use Rattle.tcc_rows.specs.Seats.{seat_at}
use Rattle.tcc_txn.specs.Symbols.{is_symbol}
use Rattle.std.proofs.Common.{false}
use Rattle.tcc_rows.proofs.SeatFacts.{numbered-pushed, seat-pushed, unnamed}
use Rattle.tcc_rows.proofs.rows.seats.SeatTable.push.Goals as goal

pub invariant_of-self-in-Ok : goal.invariant_of-self-in-Ok
invariant_of-self-in-Ok c =
    let lies : c.self.inside.seats.items ≡ c.args.self.now = c.self.view_is in
    let none : seat_at c.self.inside.seats.items c.args.session ≡ None = rw lies c.requires in
    let absent : is_symbol c.args.session c.self.inside.names ≡ false = rw c.self.invariant.each (unnamed c.self.inside.seats.items c.args.session none) in
    rw (c.in-Ok.ensures.once, c.in_ok-push.ensures.items, absent)
    (numbered-pushed c.self.inside.names c.self.inside.seats.items c.args.session (Some c.args.draft) c.self.invariant absent)

pub returns-in-Ok-clause-put : goal.returns-in-Ok-clause-put
returns-in-Ok-clause-put c name =
    let lies : c.self.inside.seats.items ≡ c.args.self.now = c.self.view_is in
    let none : seat_at c.self.inside.seats.items c.args.session ≡ None = rw lies c.requires in
    rw (c.in_ok-push.ensures.items, ← lies) (seat-pushed c.self.inside.seats.items c.args.session (Some c.args.draft) none name)
