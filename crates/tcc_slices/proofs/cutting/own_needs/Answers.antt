use Rattle.std.proofs.Common.{ℕ, ◌≡◌, ◌-◌, List, drop, rules, take, ◌∙◌, arith}
use Rattle.std.specs.Prelude.{nat_le, nat_lt}
use Rattle.std.proofs.lemmas.List.Sorted.{IsPartitionPoint-from_clause, IsPartitionedBy-leb, IsPartitionedBy-ltb}
use Rattle.tcc_slices.specs.declared.needs.Need.{Need}
use Rattle.tcc_slices.proofs.Ranging.{own_range}
use Rattle.tcc_slices.proofs.cutting.own_needs.Goals as goal

pub returns : goal.returns
returns c =
    let needs : List (ℕ × Need) = c.args.needs.now in
    let n : ℕ = c.args.number in
    let to =
    IsPartitionPoint-from_clause (λ (one : ℕ × Need). nat_le one.0 n) needs c.partition_point.result c.partition_point.ensures.partitioned
    (IsPartitionedBy-leb (λ (one : ℕ × Need). one.0) needs n c.requires) (λ a r f' k. search rules) in
    let from =
    IsPartitionPoint-from_clause (λ (one : ℕ × Need). nat_lt one.0 n) needs c.partition_point-2.result c.partition_point-2.ensures.partitioned
    (IsPartitionedBy-ltb (λ (one : ℕ × Need). one.0) needs n c.requires) (λ a r f' k. search rules) in
    let w =
    own_range needs n c.partition_point-2.result c.partition_point.result c.partition_point-2.ensures.bound c.partition_point.ensures.bound from to in
    let end : c.min-end.result ≡ c.partition_point.result = omega (arith, c.min-end.ensures, c.partition_point.ensures.bound) in
    let start : c.min-start.result ≡ c.partition_point-2.result = omega (arith, c.min-start.ensures, end, w.0) in
    (λ i. take (end i - start i) (drop (start i) needs)) ∙ w.1
