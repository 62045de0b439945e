use Rattle.std.proofs.Common.{◌≡◌, ◌⊎◌, ℕ, List, [], length, ◌∙◌, arith}
use Rattle.std.proofs.lemmas.List.{get_or_read}
use Rattle.tcc_near.proofs.RowLemmas.{rows_pushed}
use Rattle.tcc_derive.specs.private.Buckets.{bucket}
use Rattle.tcc_derive.specs.private.Sources.{AreSources}
use Rattle.tcc_derive.proofs.sources.source_table.Goals as goal

pub loop-bucket-preserved : goal.loop-bucket-preserved
loop-bucket-preserved c =
    let k = c.loop-bucket.bucket-index in
    let rows = c.loop-bucket.table.items in
    let made = c.in_ok-sources_at.field-0 in
    let row : c.as_slice.result.now ≡ bucket c.args.reads.now k =
    c.as_slice.ensures ∙ get_or_read c.args.reads.now k c.bucket-item.result c.loop-bucket-test.true c.bucket-item.is [] in
    let here : (length made ≡ 0) ⊎ AreSources c.args.count (bucket c.args.reads.now k) made = rw row at c.in_ok-sources_at.ensures in
    rw c.in_ok-push.ensures.items
    (rows_pushed (λ (i : ℕ) (r : List (List ℕ)). (length r ≡ 0) ⊎ AreSources c.args.count (bucket c.args.reads.now i) r) rows made k
    c.loop-bucket.invariant here)

pub returns : goal.returns
returns c =
    let inv = c.loop-bucket.invariant in
    record {
      long = omega (arith, inv.0, c.loop-bucket-test.false, c.loop-bucket.auto.bucket-index-end);
      each = λ k low. inv.1 k [] (omega (arith, low, c.loop-bucket-test.false));
    }
