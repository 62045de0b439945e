use Rattle.std.proofs.Common.{◌≡◌, ◌++◌, take}
use Rattle.std.specs.List.{filter_map}
use Rattle.tcc_forget.proofs.slots.parents.Given as goal

abbrev pub invariant-loop-read : goal.invariant-loop-read
invariant-loop-read l = l.parents.items ≡ l.initial.parents.items ++ filter_map (λ r. r.source) (take l.read-index l.reads)
