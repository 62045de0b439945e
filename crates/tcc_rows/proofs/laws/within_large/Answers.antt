use Rattle.tcc_rows.proofs.BothLimits.{lawful-kept, same-kept}
use Rattle.tcc_rows.proofs.laws.within_large.Goals as goal

pub returns-clause-lawful : goal.returns-clause-lawful
returns-clause-lawful c text none = same-kept text (lawful-kept text none)

pub returns-clause-kept : goal.returns-clause-kept
returns-clause-kept c = lawful-kept

pub returns-clause-same : goal.returns-clause-same
returns-clause-same c = same-kept
