-- the names of the transactions so far
use Rattle.std.proofs.Common.{◌≡◌, map}
use Rattle.std.specs.Prelude.{string_bytes}
use Rattle.std.specs.List.{range_with_len}
use Rattle.tcc_graph.specs.Numbers.{label}
use Rattle.tcc_graph.proofs.labels.Labels.of_large.Given as goal

abbrev pub invariant-loop-number : goal.invariant-loop-number
invariant-loop-number l = map string_bytes l.labels.items ≡ map (label l.graph) (range_with_len 0 l.number)
