use Rattle.std.proofs.Common.{◌∙◌}
use Rattle.std.proofs.lemmas.List.Filters.{dedup_is}
use Rattle.tcc_reads.proofs.SortedOnce.{sorted_deduped}
use Rattle.tcc_reads.proofs.sorting.sorted_once.Goals as goal

pub returns : goal.returns
returns g c =
    c.shrink_to_fit.ensures.items
    ∙ dedup_is _ _ _ c.dedup.ensures.filtered
    ∙ sorted_deduped g.met.T.Ord.total c.requires g.met.T.Ord.matches_eq _ _ c.sort_unstable.ensures.permutation c.sort_unstable.ensures.sorted
