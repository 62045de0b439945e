use Rattle.std.proofs.Common.{◌∙◌, ◌<◌, ap, ℕ, length}
use Rattle.std.proofs.lemmas.Map.Lookups.{exact_unsigned}
use Rattle.std.specs.Ordering.{nat_cmp}
use Rattle.tcc_reads.specs.Sources.{name_cmp, sorted_once}
use Rattle.tcc_reads.specs.private.KeyIndices.{indices_put}
use Rattle.tcc_reads.proofs.ByIndex.{names_once, names_put, put_within}
use Rattle.tcc_reads.proofs.KeyNumbers.{known_numbered}
use Rattle.tcc_reads.proofs.StoredEntries.{All-sorted_once}
use Rattle.tcc_reads.proofs.resolver.written_keys.Goals as goal

pub sorted_once-requires : goal.sorted_once-requires
sorted_once-requires c = exact_unsigned

pub returns-clause-names : goal.returns-clause-names
returns-clause-names c =
    let keys = c.args.keys.now in
    let ops = c.args.ops.now in
    let known = known_numbered keys c.args.indices.now ops c.requires in
    rw (c.sorted_once.ensures, c.in_ok-fill_keys.ensures)
    (names_once keys c.are_sorted.ensures (indices_put keys ops) (put_within keys ops known) ∙ ap (sorted_once name_cmp) (names_put keys ops known))

pub returns-clause-within : goal.returns-clause-within
returns-clause-within c =
    let keys = c.args.keys.now in
    let ops = c.args.ops.now in
    let known = known_numbered keys c.args.indices.now ops c.requires in
    rw (c.sorted_once.ensures, c.in_ok-fill_keys.ensures)
    (All-sorted_once (λ (k : ℕ). k < length keys) nat_cmp (indices_put keys ops) (put_within keys ops known))
