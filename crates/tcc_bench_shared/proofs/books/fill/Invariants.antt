use Rattle.std.proofs.Common.{◌≡◌, ◌+◌, length}
use Rattle.tcc_bench_shared.proofs.books.fill.Given as goal

-- as many records as rounds
abbrev pub invariant-loop-held : goal.invariant-loop-held
invariant-loop-held l = length l.book.journal ≡ length l.initial.book.journal + l.held
