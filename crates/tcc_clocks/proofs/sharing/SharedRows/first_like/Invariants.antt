use Rattle.std.proofs.Common.{◌≡◌, ◌<◌, length, IfSome}
use Rattle.tcc_graph.specs.Tables.{row_of}
use Rattle.tcc_clocks.proofs.sharing.SharedRows.first_like.Given as goal

abbrev pub invariant-loop-other : goal.invariant-loop-other
invariant-loop-other l = IfSome l.like (λ p. p < length l.self) × IfSome l.like (λ p. row_of l.self p ≡ l.row)
