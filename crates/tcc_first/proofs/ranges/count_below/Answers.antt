use Rattle.std.proofs.Common.{rules}
use Rattle.std.specs.Prelude.{nat_lt}
use Rattle.std.proofs.lemmas.List.Sorted.{IsPartitionPoint-from_clause, IsPartitionedBy-ltb}
use Rattle.tcc_first.proofs.ranges.count_below.Goals as goal

pub returns-clause-point : goal.returns-clause-point
returns-clause-point c =
    let numbers = c.args.numbers.now in
    IsPartitionPoint-from_clause (λ n. nat_lt n c.args.high) numbers c.partition_point.result c.partition_point.ensures.partitioned
    (IsPartitionedBy-ltb (λ n. n) numbers c.args.high c.requires) (λ a r f' k. search rules)
