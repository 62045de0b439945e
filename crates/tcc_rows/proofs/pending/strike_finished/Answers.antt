use Rattle.std.proofs.Common.{sym, subst, ◌∙◌}
use Rattle.std.specs.List.{list_any}
use Rattle.tcc_rows.specs.Followed.{IsFollowed}
use Rattle.tcc_rows.specs.Settling.{gets}
use Rattle.tcc_rows.specs.private.Unread.{Strikes}
use Rattle.tcc_rows.proofs.PendingFacts.{follows-aborted, follows-committed}
use Rattle.tcc_rows.proofs.pending.strike_finished.Goals as goal

pub returns-in_ok-strike_reads : goal.returns-in_ok-strike_reads
returns-in_ok-strike_reads c s session pending before =
    follows-committed s pending session c.args.txn.now c.in-Some.values c.strike_reads.new.values (sym c.committed.ensures ∙ c.if-committed.true)
    (subst (λ ops. Strikes (λ w. list_any (gets w) ops) c.in-Some.values c.strike_reads.new.values) c.ops.ensures.value c.in_ok-strike_reads.ensures)
    (subst (IsFollowed s pending) c.in-Some.is before)

pub returns-else-committed : goal.returns-else-committed
returns-else-committed c s session pending before =
    follows-aborted s pending session c.args.txn.now c.args.kept.now (sym c.committed.ensures ∙ c.if-committed.false) before
