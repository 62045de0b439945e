use Rattle.tcc_rows.proofs.SealedAlike.{sealed-finished, sealed-lawful, sealed-seals}
use Rattle.tcc_rows.proofs.laws.sealed_alike.Goals as goal

pub returns-clause-lawful : goal.returns-clause-lawful
returns-clause-lawful c = sealed-lawful

pub returns-clause-seals : goal.returns-clause-seals
returns-clause-seals c = sealed-seals

pub returns-clause-finished : goal.returns-clause-finished
returns-clause-finished c = sealed-finished
