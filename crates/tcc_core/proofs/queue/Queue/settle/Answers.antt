use Rattle.std.proofs.Common.{◌≡◌, slice_index, arith}
use Rattle.std.proofs.lemmas.Grind.{common_steps}
use Rattle.tcc_core.specs.private.Queues.{IsNearest, IsOpen}
use Rattle.tcc_core.proofs.Filing.{one_set, open_stands, filed_settled, listed_kept}
use Rattle.tcc_core.specs.declared.bucket_queue.TheConstants.{NOWHERE}
use Rattle.tcc_core.proofs.queue.Queue.settle.Goals as goal

pub invariant_of-self : goal.invariant_of-self
invariant_of-self c =
    let q = c.self.inside in
    let v = c.args.v in
    let costs = q.costs.items in
    let (filed, listed) = c.self.invariant in
    let near : IsNearest costs v = rw (← c.self.view_is) at c.requires in
    let at : c.index.result.now ≡ slice_index costs v = grind (arith, common_steps, near.below) in
    rw (at, c.take.ensures) (
      filed_settled filed near (omega arith) (one_set costs v 0 near.below) (one_set q.buckets v NOWHERE (omega (arith, filed.long, near.below))),
      listed_kept listed v 0 near.below (λ e. omega (arith, near.reached)) (omega arith),
    )

pub returns-clause-rises : goal.returns-clause-rises
returns-clause-rises c =
    let q = c.self.inside in
    let v = c.args.v in
    let costs = q.costs.items in
    let near : IsNearest costs v = rw (← c.self.view_is) at c.requires in
    let at : c.index.result.now ≡ slice_index costs v = grind (arith, common_steps, near.below) in
    let open_at : IsOpen q.floor q.most (slice_index costs v) (slice_index q.buckets v) =
    open_stands c.self.invariant.0 v near.below near.open_at near.reached in
    rw (← c.self.view_is) (omega (arith, at, open_at.above))
