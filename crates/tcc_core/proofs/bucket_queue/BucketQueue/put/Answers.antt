use Rattle.std.proofs.Common.{rules, ◌≡◌, ◌<◌, ◌≤◌, ◌+◌, ◌∙◌, sym, length, length-set, slice_index, arith}
use Rattle.std.proofs.lemmas.List.{get_or_read}
use Rattle.tcc_core.proofs.BucketHomes.{home_end}
use Rattle.tcc_core.proofs.BucketCalls.{next_inside, ring_put}
use Rattle.tcc_core.specs.declared.bucket_queue.TheConstants.{BUCKETS}
use Rattle.tcc_core.proofs.bucket_queue.BucketQueue.put.Goals.{After-index-first}
use Rattle.tcc_core.proofs.bucket_queue.BucketQueue.put.Goals as goal

first : (c : After-index-first) → c.index-first.result.now ≡ slice_index c.self.inside.next.items (c.self.inside.count + c.args.b)
first c =
    let s = c.self.inside in
    get_or_read s.next.items (s.count + c.args.b) c.index-first.result.now (omega (arith, c.self.invariant.1.next_long)) c.index-first.ensures 0

pub index_mut-requires-4 : goal.index_mut-requires-4
index_mut-requires-4 c =
    let s = c.self.inside in
    let (counted, buckets) = c.self.invariant in
    let low : slice_index s.next.items (s.count + c.args.b) < length s.bucket.items + BUCKETS =
    rw counted (next_inside buckets (length s.bucket.items + c.args.b) (omega (arith, c.requires.b, home_end s.bucket.items c.args.b))) in
    let long : s.prev.len ≡ length s.prev.items = search rules in
    omega (arith, first (goal.at.index_mut-requires-4 c).After-index-first, low, long, buckets.prev_long)

pub invariant_of-self : goal.invariant_of-self
invariant_of-self c =
    let bucket = c.self.inside.bucket.items in
    let (counted, buckets) = c.self.invariant in
    let below : c.args.v < length bucket = rw (← c.self.view_is) at c.requires.within in
    let out : BUCKETS ≤ slice_index bucket c.args.v = rw (← c.self.view_is) at c.requires.out in (
      counted ∙ sym (length-set bucket c.args.v c.args.b),
      rw (first (goal.at.invariant_of-self c).After-index-first, counted) (ring_put buckets c.args.v c.args.b below out c.requires.b),
    )
