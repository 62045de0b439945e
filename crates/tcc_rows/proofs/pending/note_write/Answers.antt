use Rattle.std.proofs.Common.{ap, ◌∙◌, true, cond}
use Rattle.tcc_rows.specs.Followed.{holds}
use Rattle.tcc_rows.proofs.PendingFacts.{added, written-tie}
use Rattle.tcc_rows.proofs.pending.note_write.Goals as goal

pub returns-in_ok-insert : goal.returns-in_ok-insert
returns-in_ok-insert c w =
    rw c.in-Put.is (c.in_ok-insert.ensures.updates.0 w
    ∙ ap (λ b. cond b true (holds c.args.written.now w)) (written-tie (c.in-Put.key, c.in-Put.value) w)
    ∙ added _ (holds c.args.written.now w))
