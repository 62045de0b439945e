use Rattle.std.proofs.Common.{[], ◌∷◌, length-append, arith}
use Rattle.tcc_near.specs.private.Breadth.{IsSessionEnd}
use Rattle.tcc_near.proofs.RowLemmas.{each_pushed}
use Rattle.tcc_near.proofs.adjacency.session_ends.Goals as goal

pub loop-from-preserved : goal.loop-from-preserved
loop-from-preserved c =
    let h = c.args.graph.now in
    let u = c.loop-from.from in
    let old = c.loop-from.ends.items in
    let end = c.later-first.result.1 in
    let later = rw c.deref.ensures.value at c.later-first.ensures in
    let first = later.first in
    let here : IsSessionEnd h u end = record { order = rw first at later.order; few = later.few; pairs = rw first at later.pairs } in
    rw c.in_ok-push.ensures.items (
      omega (arith, length-append old (end ∷ []), c.loop-from.invariant.0),
      each_pushed (IsSessionEnd h) old end u c.loop-from.invariant.0 (λ w d l. c.loop-from.invariant.1 w d l) here,
    )

pub returns-clause-ends : goal.returns-clause-ends
returns-clause-ends c =
    record {
      long = omega (arith, c.loop-from.invariant.0, c.count-from-end.ensures.value);
      each = λ u from. c.loop-from.invariant.1 u 0 (omega (arith, c.count-from-end.ensures.value));
    }
