use Rattle.std.proofs.Common.{refl, ◌∙◌}
use Rattle.tcc_rows.proofs.PendingFacts.{follows-unseen, no-keys, separates}
use Rattle.tcc_rows.proofs.pending.PendingValues.settle.Goals as goal

pub returns : goal.returns
returns c s follows =
    let (seen, unseen) = separates s c.args.pending.items c.args.self.now follows in (
      c.in_ok-settled.ensures.0 ∙ seen,
      c.in_ok-settled.ensures.1 ∙ unseen,
      follows-unseen s c.args.pending.items c.args.self.now (record { unread = c.args.self.now.unread; found = c.clear.new.self }) follows refl
          (no-keys c.clear.new.self c.clear.ensures.len),
    )
