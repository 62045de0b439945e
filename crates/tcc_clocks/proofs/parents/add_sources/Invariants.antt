use Rattle.std.proofs.Common.{◌≡◌, ◌++◌, map, take}
use Rattle.tcc_clocks.proofs.parents.add_sources.Given as goal

abbrev pub invariant-loop-read : goal.invariant-loop-read
invariant-loop-read l = l.found.items ≡ l.initial.found.items ++ map (λ read. read.1) (take l.read-index l.read-items)
