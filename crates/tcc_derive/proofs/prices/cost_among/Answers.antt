use Rattle.std.proofs.Common.{rules, ℕ, ◌<◌, ◌≤◌, ◌≡◌, ◌≢◌, true, false, length, get_or, ap, sym, ◌∙◌, arith}
use Rattle.std.specs.Prelude.{nat_lt}
use Rattle.std.specs.List.Sorted.{IsPartitionPoint}
use Rattle.std.proofs.lemmas.List.Sorted.{IsPartitionPoint-from_clause, IsPartitionedBy-ltb}
use Rattle.tcc_derive.proofs.OthersLemmas.{numbers_rise, among_found, among_past}
use Rattle.tcc_derive.proofs.prices.cost_among.Goals as goal

pub returns-in-Some : goal.returns-in-Some
returns-in-Some c =
    let xs = c.args.others.now in
    let k = c.partition_point-index.result in
    let found = c.in-Some.field-0.now in
    let is : found ≡ get_or xs k (0, 0) = search rules in
    let inside : k < length xs = search rules in
    let number : found.0 ≡ c.args.v = search rules in
    sym (among_found xs k c.args.v found.1 c.requires inside (sym is ∙ ap (λ (n : ℕ). (n, found.1)) number))

pub returns-in_default : goal.returns-in_default
returns-in_default c =
    let xs = c.args.others.now in
    let v = c.args.v in
    let k = c.partition_point-index.result in
    let found = c.in-Some.field-0.now in
    let is : found ≡ get_or xs k (0, 0) = search rules in
    let other : found.0 ≢ v = search rules in
    let point : IsPartitionPoint (λ (p : ℕ × ℕ). nat_lt p.0 v ≡ true) (λ (p : ℕ × ℕ). nat_lt p.0 v ≡ false) xs k
    =
    IsPartitionPoint-from_clause (λ (p : ℕ × ℕ). nat_lt p.0 v) xs k c.partition_point-index.ensures.partitioned
    (IsPartitionedBy-ltb (λ (p : ℕ × ℕ). p.0) xs v (numbers_rise xs c.requires)) (λ a r f' called. search rules) in
    sym (among_past xs k v point c.requires (λ inside e. absurd (other (ap (λ (p : ℕ × ℕ). p.0) is ∙ e))))

pub returns-in_default-2 : goal.returns-in_default-2
returns-in_default-2 c =
    let xs = c.args.others.now in
    let v = c.args.v in
    let k = c.partition_point-index.result in
    let past : length xs ≤ k = search rules in
    let point : IsPartitionPoint (λ (p : ℕ × ℕ). nat_lt p.0 v ≡ true) (λ (p : ℕ × ℕ). nat_lt p.0 v ≡ false) xs k
    =
    IsPartitionPoint-from_clause (λ (p : ℕ × ℕ). nat_lt p.0 v) xs k c.partition_point-index.ensures.partitioned
    (IsPartitionedBy-ltb (λ (p : ℕ × ℕ). p.0) xs v (numbers_rise xs c.requires)) (λ a r f' called. search rules) in
    sym (among_past xs k v point c.requires (λ inside. absurd (omega arith)))
