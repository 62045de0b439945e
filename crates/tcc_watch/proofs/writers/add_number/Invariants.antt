use Rattle.std.proofs.Common.{◌≡◌}
use Rattle.tcc_watch.proofs.writers.add_number.Given as goal

abbrev pub invariant-loop-index : goal.invariant-loop-index
invariant-loop-index l = l.lists.items ≡ l.initial.lists.items
