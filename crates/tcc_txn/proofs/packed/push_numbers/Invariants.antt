use Rattle.std.proofs.Common.{◌≡◌, ◌++◌, map, take}
use Rattle.tcc_txn.proofs.packed.push_numbers.Given as goal

abbrev pub invariant-loop-op : goal.invariant-loop-op
invariant-loop-op l = l.numbers.items ≡ l.initial.numbers.items ++ map (λ op. op.key) (take l.op-index l.ops)
