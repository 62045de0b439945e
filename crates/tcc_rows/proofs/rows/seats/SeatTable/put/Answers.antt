use Rattle.std.proofs.Common.{◌≡◌}
use Rattle.tcc_rows.proofs.SeatFacts.{numbered-put, seat-here, seat-put, seat-there}
use Rattle.tcc_rows.proofs.rows.seats.SeatTable.put.Goals as goal

pub invariant_of-self : goal.invariant_of-self
invariant_of-self c =
    let lies : c.self.inside.seats.items ≡ c.args.self.now = c.self.view_is in
    let part = c.index_mut.result.now in
    let here = seat-here c.self.inside.seats.items c.args.number part (rw (← lies) at c.requires) c.index_mut.ensures.value in
    numbered-put c.self.inside.names c.self.inside.seats.items part.0 c.args.number c.replace.new.dest c.self.invariant here

pub returns-clause-given : goal.returns-clause-given
returns-clause-given c session is =
    let lies : c.self.inside.seats.items ≡ c.args.self.now = c.self.view_is in
    let once = rw c.self.invariant.each at c.self.invariant.once in
    let there = seat-there c.self.inside.seats.items session c.args.number c.index_mut.result.now once (rw (← lies) at is) c.index_mut.ensures.value in
    rw (← lies, c.replace.ensures.value) there.1

pub returns-clause-put : goal.returns-clause-put
returns-clause-put c session is name =
    let lies : c.self.inside.seats.items ≡ c.args.self.now = c.self.view_is in
    let once = rw c.self.invariant.each at c.self.invariant.once in
    let at = rw (← lies) at is in
    let there = seat-there c.self.inside.seats.items session c.args.number c.index_mut.result.now once at c.index_mut.ensures.value in
    rw (there.0, c.replace.ensures.after, ← lies) (seat-put c.self.inside.seats.items session c.args.number c.args.begun once at name)
