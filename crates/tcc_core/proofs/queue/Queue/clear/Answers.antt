use Rattle.std.proofs.Common.{rules, ◌≡◌, ◌<◌, ◌∙◌, sym, ℕ, length, refl, take_at, arith}
use Rattle.tcc_core.specs.private.Queues.{IsFar}
use Rattle.tcc_core.proofs.Filing.{taken_long, taken_below, taken_or_far, filed_none, listed_none}
use Rattle.tcc_core.proofs.queue.Queue.clear.Goals.{After-shut}
use Rattle.tcc_core.proofs.queue.Queue.clear.Goals as goal

pub slice_bounds-shut-end : goal.slice_bounds-shut-end
slice_bounds-shut-end c = rw c.deref.ensures.value (taken_long c.self.invariant.1)

pub shut-requires-clause-below : goal.shut-requires-clause-below
shut-requires-clause-below c = rw (c.deref.ensures.value, c.deref_mut.ensures.value) (taken_below c.self.invariant.1)

pub shut-requires-clause-each : goal.shut-requires-clause-each
shut-requires-clause-each c = rw (c.deref.ensures.value, c.deref_mut.ensures.value) (taken_or_far c.self.invariant.1 c.self.invariant.0)

long : (c : After-shut) → length c.shut.new.costs ≡ length c.self.inside.costs.items
long c = rw c.deref_mut.ensures.value at c.shut.ensures.long

all_far : (c : After-shut) → (v : ℕ) → v < length c.shut.new.costs → IsFar c.shut.new.costs c.shut.new.buckets v
all_far c v within = c.shut.ensures.shut v (rw c.deref_mut.ensures.value (omega (arith, long c)))

-- the list of costs is as long as it was
whole : (c : After-shut) → length c.shut.new.costs ≡ c.self.inside.costs.len
whole c =
    let len : c.self.inside.costs.len ≡ length c.self.inside.costs.items = search rules in
    long c ∙ sym len

pub invariant_of-self : goal.invariant_of-self
invariant_of-self c =
    let after = (goal.at.invariant_of-self c).After-shut in
    let (filed, listed) = c.self.invariant in
    rw (take_at c.shut.new.costs _ c.self.inside.costs.len (whole after)) (
      filed_none c.shut.new.costs c.shut.new.buckets (omega (arith, long after, filed.long, c.shut.ensures.same)) (all_far after),
      listed_none c.self.inside.listed.items c.shut.new.costs (omega (arith, long after, listed.long)) listed.few (λ v within. (all_far after v within).0),
    )

pub returns : goal.returns
returns c =
    let after = (goal.at.returns c).After-shut in
    rw (← c.self.view_is, take_at c.shut.new.costs _ c.self.inside.costs.len (whole after))
    (record { long = long after; none = λ v within. (all_far after v within).0; floor = refl })
