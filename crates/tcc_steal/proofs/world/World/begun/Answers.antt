use Rattle.std.proofs.Common.{◌≡◌, None, arith}
use Rattle.std.proofs.lemmas.List.Elements.{All-weaker}
use Rattle.std.proofs.lemmas.List.FromFn.{length-range_with_len}
use Rattle.tcc_steal.specs.private.Fitting.{HasRow}
use Rattle.tcc_steal.specs.declared.desk.WorkerState.{WorkerState}
use Rattle.tcc_steal.proofs.WorldSettling.{numbers}
use Rattle.tcc_steal.proofs.world.World.begun.Goals as goal

pub invariant_of-result : goal.invariant_of-result
invariant_of-result c =
    let n = c.count-starts.result in
    rw c.in_ok-left.ensures (record {
      most = c.count-starts.ensures.few;
      few = omega (arith, length-range_with_len 0 n);
      below = (numbers n).below;
      rows = All-weaker (λ (desk : WorkerState). desk.search ≡ None) (λ desk. HasRow n desk.search)
          (λ desk none. rw none tt) c.in_ok-desks.desks.items c.in_ok-desks.ensures.idle;
    })
