use Rattle.std.proofs.Common.{rules, ◌≡◌, ◌<◌, ◌+◌, ℕ, List, [], length, get_or, refl, ◌∙◌, ap, arith, filter}
use Rattle.std.proofs.lemmas.List.{get_or_read}
use Rattle.tcc_derive.specs.private.CostBuckets.{costs_just}
use Rattle.tcc_derive.proofs.ClassLemmas.{parted_none, parted_class, parted_rest, bucket_within}
use Rattle.tcc_derive.proofs.by_class.by_class_row.Goals.{then-cost-le-DEAREST+then-links-many+in_ok-marks+in_ok-push, else-cost-le-DEAREST+in_ok-extend_from_slice}
use Rattle.tcc_derive.proofs.by_class.by_class_row.Goals as goal

pub loop-cost-init : goal.loop-cost-init
loop-cost-init c =
    parted_none c.args.count c.args.first c.args.end c.args.others.now c.new-classes.result.items c.new-rest.result.items c.new-classes.ensures.items
    c.new-rest.ensures.items

pub marks_of-requires : goal.marks_of-requires
marks_of-requires c =
    let k = c.loop-cost.cost in
    let buckets = c.in_ok-buckets.buckets.items in
    let inside : k < length buckets = omega (arith, c.loop-cost-test.true, ap length c.deref-bucket-items.ensures.value) in
    let read : c.bucket-item.result ≡ get_or buckets k c.bucket-item.result =
    c.bucket-item.is ∙ ap (λ (rows : List (List (ℕ × ℕ))). get_or rows k c.bucket-item.result) c.deref-bucket-items.ensures.value in
    let here : c.as_slice-links.result.now ≡ filter (costs_just c.args.first c.args.end k) c.args.others.now =
    c.as_slice-links.ensures ∙ (get_or_read buckets k c.bucket-item.result inside read []
    ∙ c.in_ok-buckets.ensures.each k (omega (arith, inside, c.in_ok-buckets.ensures.long))) in
    bucket_within c.args.first c.args.end k c.args.count c.args.others.now c.as_slice-links.result.now here c.requires.within

pub loop-cost-preserved : goal.loop-cost-preserved
loop-cost-preserved c =
    let k = c.loop-cost.cost in
    let buckets = c.in_ok-buckets.buckets.items in
    let inside : k < length buckets = omega (arith, c.loop-cost-test.true, ap length c.deref-bucket-items.ensures.value) in
    let read : c.bucket-item.result ≡ get_or buckets k c.bucket-item.result =
    c.bucket-item.is ∙ ap (λ (rows : List (List (ℕ × ℕ))). get_or rows k c.bucket-item.result) c.deref-bucket-items.ensures.value in
    let links = c.as_slice-links.result.now in
    let here : links ≡ filter (costs_just c.args.first c.args.end k) c.args.others.now =
    c.as_slice-links.ensures ∙ (get_or_read buckets k c.bucket-item.result inside read []
    ∙ c.in_ok-buckets.ensures.each k (omega (arith, inside, c.in_ok-buckets.ensures.long))) in
    elim c.if-cost-le-DEAREST.branch [
      | then-cost-le-DEAREST+then-links-many+in_ok-marks+in_ok-push w ↦
          rw (w.classes-is, w.rest-is)
          (parted_class c.args.count c.args.first c.args.end k c.args.others.now links c.loop-cost.classes.items c.loop-cost.rest.items here
          c.loop-cost.invariant (record { cost = k; marks = w.in_ok-marks.marks }) w.push.new.self.items refl w.in_ok-marks.ensures (search rules))
      | else-cost-le-DEAREST+in_ok-extend_from_slice w ↦
          rw (w.classes-is, w.rest-is)
          (parted_rest c.args.count c.args.first c.args.end k c.args.others.now links c.loop-cost.classes.items c.loop-cost.rest.items here
          c.loop-cost.invariant w.extend_from_slice.new.self.items (search rules))
    ]

pub returns : goal.returns
returns c =
    let long = c.in_ok-buckets.ensures.long in
    let all : c.loop-cost.cost ≡ c.args.limit + 1 = omega (arith, c.loop-cost-test.false, ap length c.deref-bucket-items.ensures.value, long) in
    rw (c.new.ensures, ← all) c.loop-cost.invariant
