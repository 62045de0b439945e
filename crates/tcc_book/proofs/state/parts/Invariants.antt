use Rattle.std.proofs.Common.{◌≡◌, map, ◌++◌}
use Rattle.tcc_txn.specs.Snapshots.{parts_of}
use Rattle.tcc_book.specs.private.BookStorage.{AreWithin, part_at}
use Rattle.tcc_book.proofs.state.parts.Given as goal

-- the parts of the sessions so far, followed by those of the sessions to come
abbrev pub invariant-loop-session : goal.invariant-loop-session
invariant-loop-session l =
    (parts_of l.parts.items ++ map (part_at l.journal) l.session-iterator ≡ map (part_at l.journal) l.positions.entries)
    × AreWithin l.journal l.session-iterator
