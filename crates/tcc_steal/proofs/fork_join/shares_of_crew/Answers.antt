use Rattle.std.proofs.Common.{rules, ◌≡◌, ◌∙◌, ℕ, All, length, sym, subst}
use Rattle.std.specs.Prelude.{Result, IfOk}
use Rattle.std.specs.declared.alloc.Global.{Global}
use Rattle.std.proofs.lemmas.List.Elements.{All-push}
use Rattle.atomic_blocks.specs.Lent.{RowsId}
use Rattle.crossbeam_deque.specs.Handles.{stealer_deque, worker_deque, worker_view}
use Rattle.tcc_txn.specs.declared.memory.NoMemory.{NoMemory}
use Rattle.tcc_steal.specs.private.StartQueues.{IsTaker}
use Rattle.tcc_steal.specs.private.Working.{IsSeat, IsShare, AreThieves, AreThiefInits, AreThiefInitsOf}
use Rattle.tcc_steal.specs.declared.worker_loop.Share.{Share}
use Rattle.tcc_steal.proofs.Seats.{split}
use Rattle.tcc_steal.proofs.fork_join.shares_of_crew.Goals as goal

pub join-own-requires-after_bounds : goal.join-own-requires-after_bounds
join-own-requires-after_bounds g c = λ κs lives.
    let t = c.args.prices.now in
    let id = c.args.bound.now in
    let taker : IsTaker (length t.prices) (worker_view c.in_ok-owner.owner) =
    subst (λ (n : ℕ). IsTaker n (worker_view c.in_ok-owner.owner)) c.count.ensures.value c.in_ok-owner.ensures.taker in
    let fifo = c.in_ok-jobs.ensures.owner.1 ∙ c.in_ok-owner.ensures.fifo in
    let seat : IsSeat t id c.split.result =
    subst (IsSeat t id) (sym c.split.ensures.new) (split (subst (IsSeat t id) (sym c.jobs.ensures.seat) c.requires.seat)) in
    let same : stealer_deque c.in_ok-stealer.stealer ≡ worker_deque c.in_ok-owner.owner = search rules in
    let jobs = subst (λ (d : RowsId × Global). AreThiefInits t id d c.in_ok-jobs.jobs.items) (sym same) (c.in_ok-jobs.ensures.jobs t c.requires.seat taker) in (
      ((c.requires.prices, fifo, c.in_ok-jobs.ensures.taker (length t.prices) taker, record { seat = seat; search = tt }), search rules),
      ((c.requires.prices, jobs), search rules),
    )

pub returns-clause-shares : goal.returns-clause-shares
returns-clause-shares g c =
    let workers = c.args.workers in
    let IsOne : Result Share NoMemory → Type 0 = λ s. IfOk s (IsShare c.args.prices.now c.args.bound.now workers) in
    let thieves : AreThieves workers c.deref.result.now = rw c.deref.ensures.value c.in_ok-thieves.ensures in
    let numbers : AreThiefInitsOf workers c.in_ok-jobs.jobs.items = c.in_ok-jobs.ensures.numbers workers thieves in
    let own : IsOne c.join-own.result.0 = c.join-own.ensures.first workers c.requires.workers in
    let others : All IsOne c.in_ok-shares.shares.items = rw c.in_ok-shares.was at (c.join-own.ensures.second workers numbers) in
    rw c.in_ok-push.ensures.items (All-push IsOne c.in_ok-shares.shares.items c.join-own.result.0 others own)
