use Rattle.std.proofs.Common.{refl}
use Rattle.tcc_watch_run.proofs.FollowingLemmas.{nested_none, starts}
use Rattle.tcc_watch_run.proofs.following.Follower.new.Goals as goal

pub returns : goal.returns
returns c = (
  starts (record { watch = c.in_ok-watch.watch; taken = c.new-2.result; committed = 0 }) c.in_ok-watch.ensures c.new-2.ensures.empty refl,
  λ s. nested_none c.in_ok-watch.watch s c.in_ok-watch.ensures,
)
