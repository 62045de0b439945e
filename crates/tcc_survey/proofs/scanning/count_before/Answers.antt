use Rattle.std.proofs.Common.{rules, ◌≡◌, true, false, get_or, arith}
use Rattle.std.specs.Prelude.{nat_lt}
use Rattle.std.specs.List.Sorted.{IsPartitionPoint}
use Rattle.std.proofs.lemmas.Bool.{ltb-false, ltb-true}
use Rattle.std.proofs.lemmas.List.Sorted.{IsPartitionPoint-from_clause, IsPartitionedBy-ltb}
use Rattle.tcc_survey.proofs.scanning.count_before.Goals as goal

pub returns-clause-less : goal.returns-clause-less
returns-clause-less c = λ k l.
    let numbers = c.args.numbers.now in
    let point : IsPartitionPoint (λ n. nat_lt n c.args.bound ≡ true) (λ n. nat_lt n c.args.bound ≡ false) numbers c.partition_point.result
    = IsPartitionPoint-from_clause (λ n. nat_lt n c.args.bound) numbers c.partition_point.result c.partition_point.ensures.partitioned
    (IsPartitionedBy-ltb (λ n. n) numbers c.args.bound c.requires) (λ a r f' k. search rules) in
    ltb-true (get_or numbers k 0) c.args.bound (point.0 k 0 (omega (arith, l, c.partition_point.ensures.bound)) l)

pub returns-clause-others : goal.returns-clause-others
returns-clause-others c = λ k above l.
    let numbers = c.args.numbers.now in
    let point : IsPartitionPoint (λ n. nat_lt n c.args.bound ≡ true) (λ n. nat_lt n c.args.bound ≡ false) numbers c.partition_point.result
    = IsPartitionPoint-from_clause (λ n. nat_lt n c.args.bound) numbers c.partition_point.result c.partition_point.ensures.partitioned
    (IsPartitionedBy-ltb (λ n. n) numbers c.args.bound c.requires) (λ a r f' k. search rules) in
    ltb-false (get_or numbers k 0) c.args.bound (point.1 k 0 above l)
