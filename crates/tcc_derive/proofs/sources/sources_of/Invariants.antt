use Rattle.std.proofs.Common.{◌≡◌, ◌<◌, ℕ, List, length, get_or}
use Rattle.tcc_derive.specs.private.Buckets.{bucket}
use Rattle.tcc_derive.proofs.SourceLemmas.{IsRowFor}
use Rattle.tcc_derive.proofs.sources.sources_of.Given as goal

abbrev pub invariant-loop-bucket : goal.invariant-loop-bucket
invariant-loop-bucket l =
    (length l.rows.items ≡ l.bucket-index)
    × ((c : ℕ) (d : List ℕ) → c < l.bucket-index → IsRowFor l.count (bucket l.bucket-items c) (get_or l.rows.items c d))
