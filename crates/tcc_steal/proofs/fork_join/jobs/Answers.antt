use Rattle.std.proofs.Common.{None, get_or, ◌<◌, length, sym, ◌∙◌, ap, subst}
use Rattle.std.proofs.lemmas.List.Elements.{All-push}
use Rattle.std.specs.declared.alloc.Global.{Global}
use Rattle.atomic_blocks.specs.Lent.{RowsId}
use Rattle.crossbeam_deque.specs.Handles.{IsPassOf, worker_deque, worker_view}
use Rattle.tcc_derive.specs.Prices.{Tables}
use Rattle.tcc_steal.specs.private.StartQueues.{IsTaker}
use Rattle.tcc_steal.specs.private.Working.{IsSeat, IsThiefInit}
use Rattle.tcc_steal.specs.declared.worker_loop.ThiefInit.{ThiefInit}
use Rattle.tcc_steal.specs.declared.deque_view.PassView.{PassView}
use Rattle.tcc_steal.proofs.Seats.{split}
use Rattle.tcc_steal.proofs.fork_join.jobs.Goals as goal

pub loop-number-preserved : goal.loop-number-preserved
loop-number-preserved g c =
    let id = c.args.bound.now in
    let deque = worker_deque c.args.owner.now in
    let n = c.loop-number.number-index in
    let (same, of, flavor, taker, jobs, numbers) = c.loop-number.invariant in
    let job : ThiefInit = record {
      worker = record { number = get_or c.args.thieves.now n 0; seat = c.split.result; search = None };
      pass = c.pass_for_thief.result;
      retries = c.retries.result;
    } in
    let is_job : (t : Tables) → IsSeat t id c.args.seat.now → IsTaker (length t.prices) (worker_view c.args.owner.now) → IsThiefInit t id deque job = λ t seat from.
    let is : IsTaker (length t.prices) (worker_view c.loop-number.owner) = taker (length t.prices) from in
    record {
      worker = record { seat = subst (IsSeat t id) (sym c.split.ensures.new) (split (subst (IsSeat t id) (sym same) seat)); search = tt };
      pass = subst (λ (d : RowsId × Global). IsPassOf d c.pass_for_thief.result) of c.pass_for_thief.ensures.pass;
      taker =
          record {
            live = ap (λ (v : PassView). v.live) c.pass_for_thief.ensures.right ∙ is.live;
            pushed = ap (λ (v : PassView). v.pushed) c.pass_for_thief.ensures.right ∙ is.pushed;
          };
    } in (
      c.split.ensures.same ∙ same,
      c.pass_for_thief.ensures.owner.0 ∙ of,
      c.pass_for_thief.ensures.owner.1 ∙ flavor,
      λ count from.
          (let is = taker count from in
          record {
            live = ap (λ (v : PassView). v.live) c.pass_for_thief.ensures.left ∙ is.live;
            pushed = ap (λ (v : PassView). v.pushed) c.pass_for_thief.ensures.left ∙ is.pushed;
          }),
      λ t seat from. rw c.in_ok-push.ensures.items (All-push (IsThiefInit t id deque) c.loop-number.jobs.items job (jobs t seat from) (is_job t seat from)),
      λ workers thieves.
          rw c.in_ok-push.ensures.items (All-push (λ (j : ThiefInit). j.worker.number < workers) c.loop-number.jobs.items job (numbers workers thieves)
          (thieves n 0 c.loop-number-test.true).1),
    )
