-- No row of the clocks is left at `Atomic`.
use Rattle.std.proofs.Common.{refl, arith}
use Rattle.tcc_cert.proofs.reading.stages.behind_order.Goals as goal

pub returns-in-Atomic-clause-behind : goal.returns-in-Atomic-clause-behind
returns-in-Atomic-clause-behind c at = (c.args.transactions, omega arith, rw c.in-Atomic.is refl)
