use Rattle.std.proofs.Common.{◌≡◌, map, take}
use Rattle.tcc_book.specs.private.BookStorage.{txn_at}
use Rattle.tcc_book.proofs.state.listed.Given as goal

-- the transactions at the positions so far
abbrev pub invariant-loop-position : goal.invariant-loop-position
invariant-loop-position l = l.txns.items ≡ map (txn_at l.journal) (take l.position-index l.positions)
