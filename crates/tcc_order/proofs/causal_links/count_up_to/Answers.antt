use Rattle.std.proofs.Common.{rules}
use Rattle.std.specs.Prelude.{nat_le}
use Rattle.std.proofs.lemmas.List.Sorted.{IsPartitionPoint-from_clause, IsPartitionedBy-leb}
use Rattle.tcc_order.proofs.causal_links.count_up_to.Goals as goal

pub returns-clause-point : goal.returns-clause-point
returns-clause-point c =
    let numbers = c.args.numbers.now in
    IsPartitionPoint-from_clause (λ n. nat_le n c.args.top) numbers c.partition_point.result c.partition_point.ensures.partitioned
    (IsPartitionedBy-leb (λ n. n) numbers c.args.top c.requires) (λ a r f' k. search rules)
