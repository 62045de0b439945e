use Rattle.std.proofs.Common.{rules, ◌≡◌, ◌+◌, ◌∙◌, sym, length, replicate, take_at, arith}
use Rattle.std.proofs.lemmas.List.{get_or-replicate, length-replicate}
use Rattle.tcc_core.proofs.BucketCalls.{ring_empty}
use Rattle.tcc_core.specs.declared.bucket_queue.TheConstants.{BUCKETS, NOWHERE}
use Rattle.tcc_core.proofs.bucket_queue.BucketQueue.begin.Goals as goal

pub invariant_of-result : goal.invariant_of-result
invariant_of-result c =
    let next = c.close.new.table in
    let prev = c.close-2.new.table in
    let bucket = c.in_ok-bucket.bucket.items in
    let all : bucket ≡ replicate c.args.count NOWHERE = c.in_ok-bucket.ensures.items_if_clones_equal (λ y e. e) in
    let long : length bucket ≡ c.args.count = rw all (length-replicate c.args.count NOWHERE) in
    let next_long : length next ≡ c.args.count + BUCKETS = search rules in
    let prev_long : length prev ≡ c.args.count + BUCKETS = search rules in
    let next_len : c.in_ok-next.next.len ≡ c.args.count + BUCKETS = search rules in
    let prev_len : c.in_ok-prev.prev.len ≡ c.args.count + BUCKETS = search rules in
    rw (take_at next _ c.in_ok-next.next.len (next_long ∙ sym next_len), take_at prev _ c.in_ok-prev.prev.len (prev_long ∙ sym prev_len)) (
      sym long,
      ring_empty BUCKETS next prev bucket (omega arith) (omega arith) (omega arith)
          (λ v below. rw all (get_or-replicate c.args.count v NOWHERE 0 (omega arith)))
          (λ e up inside. c.close.ensures.each e (omega arith) (omega (arith, c.close.ensures.long)))
          (λ e up inside. c.close-2.ensures.each e (omega arith) (omega (arith, c.close-2.ensures.long))),
    )
