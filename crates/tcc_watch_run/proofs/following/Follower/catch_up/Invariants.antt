use Rattle.std.proofs.Common.{ℕ, ◌<◌}
use Rattle.tcc_txn.specs.Nested.{IsNested}
use Rattle.tcc_watch_run.specs.private.Following.{HasAll, IsFollowing}
use Rattle.tcc_watch_run.proofs.following.Follower.catch_up.Given as goal

abbrev pub invariant-loop-i : goal.invariant-loop-i
invariant-loop-i l = IsFollowing l.self × IsNested l.self.watch l.snapshot × ((k : ℕ) → k < l.i → HasAll l.self.watch l.snapshot k)
