use Rattle.std.proofs.Common.{rules}
use Rattle.std.specs.Prelude.{nat_lt}
use Rattle.std.proofs.lemmas.List.Sorted.{IsPartitionPoint-from_clause, IsPartitionedBy-ltb}
use Rattle.tcc_clocks.proofs.SpanLemmas.{counted}
use Rattle.tcc_clocks.proofs.spans.count_below.Goals as goal

pub returns : goal.returns
returns c =
    let numbers = c.args.numbers.now in
    counted numbers c.args.bound c.partition_point.result c.partition_point.ensures.bound
    (IsPartitionPoint-from_clause (λ n. nat_lt n c.args.bound) numbers c.partition_point.result c.partition_point.ensures.partitioned
    (IsPartitionedBy-ltb (λ n. n) numbers c.args.bound c.requires) (λ a r f' k. search rules))
