use Rattle.std.proofs.Common.{rules, ℕ, List}
use Rattle.std.specs.Prelude.{nat_lt, nat_le}
use Rattle.std.proofs.lemmas.List.Sorted.{IsPartitionPoint-from_clause, IsPartitionedBy-ltb, IsPartitionedBy-leb}
use Rattle.tcc_graph.proofs.GroupedLemmas.{span_from_points}
use Rattle.tcc_graph.proofs.grouped.span.Goals as goal

pub returns : goal.returns
returns c =
    let ns : List ℕ = c.args.numbers.now in
    let group : ℕ = c.args.group in
    span_from_points ns group c.partition_point-start.result c.partition_point-end.result
    c.partition_point-start.ensures.bound c.partition_point-end.ensures.bound
    (IsPartitionPoint-from_clause (λ y. nat_lt y group) ns _ c.partition_point-start.ensures.partitioned
    (IsPartitionedBy-ltb (λ x. x) ns group c.requires) (λ a r f' k. search rules))
    (IsPartitionPoint-from_clause (λ y. nat_le y group) ns _ c.partition_point-end.ensures.partitioned
    (IsPartitionedBy-leb (λ x. x) ns group c.requires) (λ a r f' k. search rules))
