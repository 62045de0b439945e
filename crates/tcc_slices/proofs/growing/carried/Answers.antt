use Rattle.std.proofs.Common.{length, ap, string_bytes, arith}
use Rattle.std.proofs.lemmas.List.{length-map}
use Rattle.std.proofs.lemmas.List.FromFn.{length-map-range_with_len}
use Rattle.tcc_reads.specs.History.{count}
use Rattle.tcc_graph.specs.Numbers.{label}
use Rattle.tcc_slices.proofs.growing.carried.Goals as goal

pub invariant_of-numbers : goal.invariant_of-numbers
invariant_of-numbers c =
    omega (
      arith,
      ap length c.names-2.ensures,
      ap length c.requires,
      length-map c.names-2.result.now string_bytes,
      length-map-range_with_len (label c.args.graph.now) 0 (count c.args.graph.now),
      c.count.ensures.value,
    )
