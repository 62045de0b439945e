use Rattle.std.proofs.Common.{◌≡◌, drop}
use Rattle.tcc_graph.specs.Operations.{first_reading, first_reading_from}
use Rattle.tcc_graph.proofs.operations.first_reading_in.Given as goal

abbrev pub invariant-loop-index : goal.invariant-loop-index
invariant-loop-index l = first_reading_from l.index l.key l.value (drop l.index l.txn.ops) ≡ first_reading l.key l.value l.txn.ops
