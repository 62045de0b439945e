use Rattle.tcc_rows.proofs.InterleavedFaults.{interleaved-lawful, unsealed}
use Rattle.tcc_rows.proofs.SealedAlike.{interleaved-finished}
use Rattle.tcc_rows.proofs.laws.interleaved.Goals as goal

pub returns-clause-finished : goal.returns-clause-finished
returns-clause-finished c = interleaved-finished

pub returns-clause-lawful : goal.returns-clause-lawful
returns-clause-lawful c = interleaved-lawful

pub returns-clause-unsealed : goal.returns-clause-unsealed
returns-clause-unsealed c = unsealed
