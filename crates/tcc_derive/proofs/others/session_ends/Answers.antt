use Rattle.std.proofs.Common.{[], ◌∷◌, length-append, arith}
use Rattle.tcc_derive.specs.Prices.{IsEnd}
use Rattle.tcc_near.proofs.RowLemmas.{each_pushed}
use Rattle.tcc_derive.proofs.others.session_ends.Goals as goal

pub loop-u-preserved : goal.loop-u-preserved
loop-u-preserved c =
    let old = c.loop-u.ends.items in
    let end = c.session_end.result in
    let far = each_pushed (IsEnd c.args.graph.now) old end c.loop-u.u c.loop-u.invariant.0 (λ w d l. c.loop-u.invariant.1 w d l) c.session_end.ensures in
    rw c.in_ok-push.ensures.items (omega (arith, length-append old (end ∷ []), c.loop-u.invariant.0), far)

pub returns : goal.returns
returns c =
    record {
      long = omega (arith, c.loop-u.invariant.0, c.count-u-end.ensures.value);
      each = λ u from. c.loop-u.invariant.1 u 0 (omega (arith, c.count-u-end.ensures.value));
    }
