use Rattle.tcc_rows.proofs.PendingFacts.{no-keys, none-found}
use Rattle.tcc_rows.proofs.pending.PendingValues.has_none_found.Goals as goal

pub returns : goal.returns
returns c none s pending follows = none-found s pending c.args.self.now (no-keys c.args.self.now.found (c.is_empty.ensures.0 none)) follows
