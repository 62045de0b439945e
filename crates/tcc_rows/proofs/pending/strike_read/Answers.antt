use Rattle.std.proofs.Common.{sym, ◌∙◌}
use Rattle.tcc_rows.proofs.PendingFacts.{strikes-there}
use Rattle.tcc_rows.proofs.pending.strike_read.Goals as goal

pub returns-in_ok-insert : goal.returns-in_ok-insert
returns-in_ok-insert c =
    rw c.in-Get.is (strikes-there c.args.values.now (record { unread = c.remove.new.self; found = c.insert.new.self }) c.in-Get.key c.in-Get.value
    (sym c.remove.ensures.test ∙ c.if-remove.true) c.remove.ensures.updates.0 c.in_ok-insert.ensures.updates.0)
