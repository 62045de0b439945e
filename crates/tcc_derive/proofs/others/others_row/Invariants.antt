use Rattle.std.proofs.Common.{◌≡◌}
use Rattle.tcc_derive.specs.private.Others.{others_below}
use Rattle.tcc_derive.proofs.others.others_row.Given as goal

abbrev pub invariant-loop-v : goal.invariant-loop-v
invariant-loop-v l = l.others.items ≡ others_below l.graph l.u l.prices l.costs l.v
