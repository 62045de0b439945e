use Rattle.tcc_full.proofs.telling.found_line.Goals as goal

pub returns-in-Unresolved : goal.returns-in-Unresolved
returns-in-Unresolved g c = rw c.in-Unresolved.is (rw c.deref.ensures.value at c.unresolved_line.ensures)

pub returns-in-Resolved : goal.returns-in-Resolved
returns-in-Resolved g c = rw c.in-Resolved.is c.first_line.ensures
