use Rattle.std.proofs.Common.{ap, ◌∙◌}
use Rattle.std.specs.Str.{bytes_eq}
use Rattle.std.proofs.lemmas.Cmp.{nat_list_cmp_total}
use Rattle.std.proofs.lemmas.Map.Lookups.{exact_bytes}
use Rattle.tcc_reads.specs.private.KeyIndices.{has_key}
use Rattle.tcc_reads.proofs.SortedOnce.{any_once, once_sorted}
use Rattle.tcc_reads.proofs.keys.in_order.Goals as goal

pub sorted_once-requires : goal.sorted_once-requires
sorted_once-requires c = exact_bytes

pub returns-clause-same : goal.returns-clause-same
returns-clause-same c x =
    ap (λ names. has_key names x) c.sorted_once.ensures
    ∙ any_once nat_list_cmp_total exact_bytes (bytes_eq x) c.in_ok-names.names.items
    ∙ ap (λ names. has_key names x) c.in_ok-names.ensures

pub returns-clause-sorted : goal.returns-clause-sorted
returns-clause-sorted c = rw c.sorted_once.ensures (once_sorted nat_list_cmp_total c.in_ok-names.names.items)
