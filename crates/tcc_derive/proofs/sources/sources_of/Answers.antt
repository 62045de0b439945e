use Rattle.std.proofs.Common.{◌≡◌, ℕ, List, [], ◌∙◌, arith}
use Rattle.std.proofs.lemmas.List.{get_or_read}
use Rattle.tcc_near.proofs.RowLemmas.{rows_pushed}
use Rattle.tcc_derive.specs.private.Buckets.{bucket}
use Rattle.tcc_derive.proofs.SourceLemmas.{IsRowFor, by_reader_below, sources_from}
use Rattle.tcc_derive.proofs.sources.sources_of.Goals as goal

pub marks_of-requires : goal.marks_of-requires
marks_of-requires c =
    let k = c.loop-bucket.bucket-index in
    let buckets = c.deref-bucket-items.result.now in
    let is = rw (← c.deref-bucket-items.ensures.value) at c.in_ok-buckets.ensures in
    let row : c.as_slice.result.now ≡ bucket buckets k =
    c.as_slice.ensures ∙ get_or_read buckets k c.bucket-item.result c.loop-bucket-test.true c.bucket-item.is [] in
    rw row (by_reader_below c.args.count c.args.reads.now buckets k is c.requires.sources (omega (arith, c.loop-bucket-test.true, is.long)))

pub loop-bucket-preserved : goal.loop-bucket-preserved
loop-bucket-preserved c =
    let k = c.loop-bucket.bucket-index in
    let buckets = c.deref-bucket-items.result.now in
    let rows = c.loop-bucket.rows.items in
    let made = c.in_ok-marks_of.field-0 in
    let row : c.as_slice.result.now ≡ bucket buckets k =
    c.as_slice.ensures ∙ get_or_read buckets k c.bucket-item.result c.loop-bucket-test.true c.bucket-item.is [] in
    let here : IsRowFor c.args.count (bucket buckets k) made = rw (← row) (record { wide = c.in_ok-marks_of.ensures.wide; each = c.in_ok-marks_of.ensures.each }) in
    rw c.in_ok-push.ensures.items
    (rows_pushed (λ (i : ℕ) (r : List ℕ). IsRowFor c.args.count (bucket buckets i) r) rows made k c.loop-bucket.invariant here)

pub returns : goal.returns
returns c =
    let buckets = c.deref-bucket-items.result.now in
    let inv = c.loop-bucket.invariant in
    let is = rw (← c.deref-bucket-items.ensures.value) at c.in_ok-buckets.ensures in
    let all : c.loop-bucket.bucket-index ≡ c.args.count = omega (arith, c.loop-bucket-test.false, c.loop-bucket.auto.bucket-index-end, is.long) in
    rw c.new.ensures
    (sources_from c.args.count c.args.reads.now buckets c.loop-bucket.rows.items is (omega (arith, inv.0, all)) (λ k d low. inv.1 k d (omega (arith, low, all))))
