use Rattle.std.proofs.Common.{◌≡◌, length}
use Rattle.tcc_txn.specs.Nested.{list_of}
use Rattle.tcc_watch_run.specs.private.Following.{GoesOn}
use Rattle.tcc_watch_run.proofs.following.Follower.take_from.Given as goal

abbrev pub invariant-loop-index : goal.invariant-loop-index
invariant-loop-index l = GoesOn l.initial.self l.self l.snapshot × (l.index ≡ length (list_of l.self.watch l.name))
