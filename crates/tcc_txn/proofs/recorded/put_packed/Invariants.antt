use Rattle.std.proofs.Common.{◌≡◌, ◌≤◌, length, map, take}
use Rattle.std.specs.Prelude.{vec_capacity}
use Rattle.tcc_txn.specs.private.Packing.{op_in}
use Rattle.tcc_txn.proofs.recorded.put_packed.Given as goal

-- the operations so far, and room for all
abbrev pub invariant-loop-op : goal.invariant-loop-op
invariant-loop-op l = (l.ops.items ≡ map (op_in l.keys) (take l.op-index l.packed)) × (length l.packed ≤ vec_capacity l.ops)
