use Rattle.std.proofs.Common.{◌+◌, ◌≡◌, ◌⊎◌, cond, ap, arith, inl, inr, ◌∙◌}
use Rattle.tcc_txn.specs.declared.snapshot.GrowFault.{GrowFault}
use Rattle.tcc_txn.specs.declared.snapshot.GrowFault.TheVariants.{NoMemory, TooManySessions, TooManyTransactions}
use Rattle.tcc_watch_run.proofs.FollowingLemmas.{has_taken}
use Rattle.tcc_watch_run.proofs.following.Follower.take.Goals as goal

pub returns-in-Ok : goal.returns-in-Ok
returns-in-Ok c =
    has_taken c.args.self.now (record { watch = c.advance.new.self; taken = c.put.new.taken; committed = c.in_ok-committed.committed })
    c.args.name c.args.txn c.requires.following c.in-Ok.ensures.taken c.in_ok-more.more (omega (arith, c.in_ok-more.ensures.more, c.taken_of.ensures))
    c.in_ok-put.ensures
    (c.in_ok-committed.ensures.more ∙ ap (λ b. c.args.self.now.committed + cond b 1 0) c.committed.ensures)

-- where memory was refused, there aren't too many
too_many : (fault : GrowFault) → (fault ≡ TooManySessions) ⊎ (fault ≡ TooManyTransactions) → fault ≡ NoMemory → ⊥
too_many fault (inl sessions) memory = cc
too_many fault (inr transactions) memory = cc

pub unreachable-requires : goal.unreachable-requires
unreachable-requires c = too_many c.in-Err.fault c.in-TooManySessions.is (c.in-Err.ensures.refused c.requires.fits)
