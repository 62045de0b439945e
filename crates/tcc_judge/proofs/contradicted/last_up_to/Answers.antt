use Rattle.std.proofs.Common.{rules, ◌≡◌, true, false, arith}
use Rattle.std.specs.Prelude.{nat_le}
use Rattle.std.specs.List.Sorted.{IsPartitionPoint}
use Rattle.std.proofs.lemmas.List.Sorted.{IsPartitionPoint-from_clause, IsPartitionedBy-leb}
use Rattle.tcc_judge.proofs.ContradictedLemmas.{last_up_to, none_up_to}
use Rattle.tcc_judge.proofs.contradicted.last_up_to.Goals.{After-partition_point-end}
use Rattle.tcc_judge.proofs.contradicted.last_up_to.Goals as goal

point : (c : After-partition_point-end)
    → IsPartitionPoint (λ n. nat_le n c.args.high ≡ true) (λ n. nat_le n c.args.high ≡ false) c.args.numbers.now c.partition_point-end.result
point c =
    IsPartitionPoint-from_clause (λ n. nat_le n c.args.high) c.args.numbers.now c.partition_point-end.result c.partition_point-end.ensures.partitioned
    (IsPartitionedBy-leb (λ n. n) c.args.numbers.now c.args.high c.requires) (λ a r f' k. search rules)

pub returns-then-end-eq0 : goal.returns-then-end-eq0
returns-then-end-eq0 c =
    none_up_to c.args.numbers.now c.args.high c.partition_point-end.result c.requires (point (goal.at.returns-then-end-eq0 c).After-partition_point-end)
    c.partition_point-end.ensures.bound c.if-end-eq0.true

pub returns : goal.returns
returns c =
    last_up_to c.args.numbers.now c.args.high c.partition_point-end.result c.requires (point (goal.at.returns c).After-partition_point-end)
    c.partition_point-end.ensures.bound (omega arith)
