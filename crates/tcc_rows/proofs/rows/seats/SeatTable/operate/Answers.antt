use Rattle.std.proofs.Common.{◌≡◌}
use Rattle.tcc_rows.proofs.SeatFacts.{numbered-put, seat-here, seat-put, seat-there}
use Rattle.tcc_rows.proofs.rows.seats.SeatTable.operate.Goals as goal

pub invariant_of-self : goal.invariant_of-self
invariant_of-self c =
    let lies : c.self.inside.seats.items ≡ c.args.self.now = c.self.view_is in
    let part = c.index_mut.result.now in
    let here = seat-here c.self.inside.seats.items c.args.number part (rw (← lies) at c.requires.within) c.index_mut.ensures.value in
    numbered-put c.self.inside.names c.self.inside.seats.items part.0 c.args.number c.add_operation.new.begun c.self.invariant here

pub returns-clause-added : goal.returns-clause-added
returns-clause-added c session is =
    let lies : c.self.inside.seats.items ≡ c.args.self.now = c.self.view_is in
    let once = rw c.self.invariant.each at c.self.invariant.once in
    let at = rw (← lies) at is in
    let there = seat-there c.self.inside.seats.items session c.args.number c.index_mut.result.now once at c.index_mut.ensures.value in (
      c.index_mut.result.now.1,
      c.add_operation.new.begun,
      rw (← lies) there.1,
      c.add_operation.ensures.added,
      λ name. rw (there.0, ← lies) (seat-put c.self.inside.seats.items session c.args.number c.add_operation.new.begun once at name),
    )
