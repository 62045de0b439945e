use Rattle.std.proofs.Common.{arith}
use Rattle.std.specs.FinMap.{len-entries}
use Rattle.tcc_watch_run.proofs.FollowingLemmas.{caught_up, one_session}
use Rattle.tcc_watch_run.proofs.following.Follower.catch_up.Goals as goal

pub take_session-requires-clause-fits : goal.take_session-requires-clause-fits
take_session-requires-clause-fits c =
    (omega (arith, c.sessions-i-end.ensures.value, c.sessions-i-end.ensures.few), c.sessions-i-end.ensures.few_transactions)

pub loop-i-preserved : goal.loop-i-preserved
loop-i-preserved c =
    let takes = c.in_ok-take_session.ensures in (
      takes.0.following,
      takes.0.nested,
      one_session c.loop-i.self c.take_session.new.self c.args.snapshot.now c.loop-i.i takes c.loop-i.invariant.2,
    )

pub returns : goal.returns
returns c =
    let w = c.loop-i.invariant in
    let s = c.args.snapshot.now in (
      w.0,
      caught_up c.loop-i.self s w.0 w.1 (λ k inside. w.2 k (omega (arith, inside, c.loop-i-test.false, c.sessions-i-end.ensures.value, len-entries s))),
    )
