use Rattle.std.proofs.Common.{◌<◌, ℕ, length}
use Rattle.std.proofs.lemmas.Map.Lookups.{exact_pairs, exact_unsigned}
use Rattle.std.specs.Ordering.{nat_cmp}
use Rattle.tcc_reads.proofs.ByIndex.{index_cmp, reads_once}
use Rattle.tcc_reads.proofs.StoredEntries.{All-sorted_once}
use Rattle.tcc_reads.proofs.resolver.reads_in_order.Goals as goal

pub sorted_once-requires : goal.sorted_once-requires
sorted_once-requires c = exact_pairs nat_cmp nat_cmp exact_unsigned exact_unsigned

pub returns-clause-names : goal.returns-clause-names
returns-clause-names c =
    rw c.sorted_once.ensures (reads_once c.args.keys.now c.are_sorted.ensures c.args.reads.items c.requires)

pub returns-clause-within : goal.returns-clause-within
returns-clause-within c =
    rw c.sorted_once.ensures
    (All-sorted_once (λ (read : ℕ × ℕ). read.0 < length c.args.keys.now) index_cmp c.args.reads.items c.requires)
