use Rattle.std.proofs.Common.{◌≡◌, ◌<◌, ◌⊎◌, ℕ, List, length, get_or}
use Rattle.tcc_derive.specs.private.Buckets.{bucket}
use Rattle.tcc_derive.specs.private.Sources.{AreSources}
use Rattle.tcc_derive.proofs.sources.source_table.Given as goal

abbrev pub invariant-loop-bucket : goal.invariant-loop-bucket
invariant-loop-bucket l =
    (length l.table.items ≡ l.bucket-index)
    × ((k : ℕ) (d : List (List ℕ)) → k < l.bucket-index
    → (length (get_or l.table.items k d) ≡ 0) ⊎ AreSources l.count (bucket l.reads k) (get_or l.table.items k d))
