use Rattle.std.proofs.Common.{◌≡◌, ◌+◌, length, slice_index, arith}
use Rattle.std.proofs.lemmas.List.{get_or_read}
use Rattle.tcc_core.proofs.BucketCalls.{first_stands, first_none}
use Rattle.tcc_core.proofs.bucket_queue.BucketQueue.first.Goals.{After-index-v}
use Rattle.tcc_core.proofs.bucket_queue.BucketQueue.first.Goals as goal

first : (c : After-index-v) → c.index-v.result.now ≡ slice_index c.self.inside.next.items (length c.self.inside.bucket.items + c.args.b)
first c =
    let s = c.self.inside in
    rw (← c.self.invariant.0)
    (get_or_read s.next.items (s.count + c.args.b) c.index-v.result.now (omega (arith, c.self.invariant.1.next_long)) c.index-v.ensures 0)

pub returns-then-v-self-clause-some : goal.returns-then-v-self-clause-some
returns-then-v-self-clause-some c =
    let at = first (goal.at.returns-then-v-self-clause-some c).After-index-v in
    rw (← c.self.view_is) record { below = omega arith; at = rw at (first_stands c.self.invariant.1 c.args.b c.requires (omega (arith, at))) }

pub returns-else-v-self-clause-none : goal.returns-else-v-self-clause-none
returns-else-v-self-clause-none c =
    let at = first (goal.at.returns-else-v-self-clause-none c).After-index-v in
    rw (← c.self.view_is) (first_none c.self.invariant.1 c.args.b c.requires (omega (arith, at)))
