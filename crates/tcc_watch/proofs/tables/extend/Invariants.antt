use Rattle.std.proofs.Common.{◌≡◌, ℕ, length}
use Rattle.tcc_graph.specs.Tables.{row_of}
use Rattle.tcc_watch.proofs.tables.extend.Given as goal

abbrev pub invariant-loop-session : goal.invariant-loop-session
invariant-loop-session l =
    (l._session ≡ length l.members.items) × ((k : ℕ) → row_of l.members.items k ≡ row_of l.initial.members.items k)
