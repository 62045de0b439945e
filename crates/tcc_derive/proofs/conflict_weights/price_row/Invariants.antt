use Rattle.std.proofs.Common.{take, flat_map, replicate, length}
use Rattle.tcc_derive.specs.private.Buckets.{bucket}
use Rattle.tcc_derive.specs.private.Lowering.{Lowers}
use Rattle.tcc_derive.proofs.conflict_weights.price_row.Given as goal
use Rattle.tcc_near.specs.declared.walk_lengths.TheConstants.{NONE}

abbrev pub invariant-loop-key_index : goal.invariant-loop-key_index
invariant-loop-key_index l =
    Lowers (flat_map (bucket l.reads) (take l.key_index-index l.written)) l.steps (replicate (length l.steps) NONE) l.costs.items
