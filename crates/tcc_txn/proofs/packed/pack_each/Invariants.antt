use Rattle.std.proofs.Common.{◌≡◌, ◌++◌, List, take}
use Rattle.tcc_txn.specs.Nested.{IsPrefix}
use Rattle.tcc_txn.specs.private.Packing.{PacksOps}
use Rattle.tcc_txn.specs.declared.packed.PackedOp.{PackedOp}
use Rattle.tcc_txn.proofs.packed.pack_each.Given as goal

-- the operations so far are packed
abbrev pub invariant-loop-op : goal.invariant-loop-op
invariant-loop-op l = record {
  more : IsPrefix l.initial.keys l.keys;
  packed : (more : List PackedOp) × (l.packed.items ≡ l.initial.packed.items ++ more) × PacksOps l.keys more (take l.op-index l.ops);
}
