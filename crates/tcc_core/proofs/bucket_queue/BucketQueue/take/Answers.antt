use Rattle.std.proofs.Common.{rules, ◌≡◌, ◌<◌, ◌∙◌, sym, length, length-set, slice_index, arith}
use Rattle.std.proofs.lemmas.List.{get_or_read}
use Rattle.tcc_core.specs.private.LinkedBuckets.{home}
use Rattle.tcc_core.proofs.BucketHomes.{home_number}
use Rattle.tcc_core.proofs.BucketCalls.{next_inside, prev_inside, ring_take}
use Rattle.tcc_core.specs.declared.bucket_queue.TheConstants.{BUCKETS, NOWHERE}
use Rattle.tcc_core.proofs.bucket_queue.BucketQueue.take.Goals.{After-index-behind}
use Rattle.tcc_core.proofs.bucket_queue.BucketQueue.take.Goals as goal

below : (c : After-index-behind) → c.args.v < length c.self.inside.bucket.items
below c = rw (← c.self.view_is) at c.requires.within

stands : (c : After-index-behind) → slice_index c.self.inside.bucket.items c.args.v < BUCKETS
stands c = rw (← c.self.view_is) at c.requires.stands

at_home : (c : After-index-behind) → home c.self.inside.bucket.items c.args.v < BUCKETS
at_home c = omega (arith, stands c, home_number c.self.inside.bucket.items c.args.v (below c))

before : (c : After-index-behind) → c.index-before.result.now ≡ slice_index c.self.inside.prev.items c.args.v
before c =
    get_or_read c.self.inside.prev.items c.args.v c.index-before.result.now (omega (arith, below c, c.self.invariant.1.prev_long)) c.index-before.ensures 0

behind : (c : After-index-behind) → c.index-behind.result.now ≡ slice_index c.self.inside.next.items c.args.v
behind c =
    get_or_read c.self.inside.next.items c.args.v c.index-behind.result.now (omega (arith, below c, c.self.invariant.1.next_long)) c.index-behind.ensures 0

pub index_mut-requires : goal.index_mut-requires
index_mut-requires c =
    let read = (goal.at.index_mut-requires c).After-index-behind in
    let long : c.self.inside.next.len ≡ length c.self.inside.next.items = search rules in
    omega (arith, before read, prev_inside c.self.invariant.1 c.args.v (at_home read), long, c.self.invariant.1.next_long)

pub index_mut-requires-2 : goal.index_mut-requires-2
index_mut-requires-2 c =
    let read = (goal.at.index_mut-requires-2 c).After-index-behind in
    let long : c.self.inside.prev.len ≡ length c.self.inside.prev.items = search rules in
    omega (arith, behind read, next_inside c.self.invariant.1 c.args.v (at_home read), long, c.self.invariant.1.prev_long)

pub invariant_of-self : goal.invariant_of-self
invariant_of-self c =
    let read = (goal.at.invariant_of-self c).After-index-behind in
    let (counted, buckets) = c.self.invariant in (
      counted ∙ sym (length-set c.self.inside.bucket.items c.args.v NOWHERE),
      rw (before read, behind read) (ring_take buckets c.args.v NOWHERE (below read) (stands read) (omega (arith, buckets.few))),
    )
