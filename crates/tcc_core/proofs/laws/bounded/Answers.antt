use Rattle.std.proofs.Common.{[]}
use Rattle.tcc_txn.specs.declared.limits.TheConstants.{MAX_SESSIONS}
use Rattle.tcc_reads.specs.Sources.{history}
use Rattle.tcc_core.proofs.BoundLemmas.{cycle_bounded, few_links, walks_few}
use Rattle.tcc_core.proofs.SessionLemmas.{history_placed}
use Rattle.tcc_core.proofs.LargestCycle.{few_derived, largest}
use Rattle.tcc_core.proofs.laws.bounded.Goals as goal
use Rattle.tcc_graph.specs.Levels.{judged}

pub returns-clause-transactions : goal.returns-clause-transactions
returns-clause-transactions c = cycle_bounded

pub returns-clause-links : goal.returns-clause-links
returns-clause-links c = few_links

pub returns-clause-walks : goal.returns-clause-walks
returns-clause-walks c = λ j s links least. walks_few j s [] links least

pub returns-clause-sessions : goal.returns-clause-sessions
returns-clause-sessions c = λ snapshot level s links few least. (
  few_derived (judged (history snapshot) level) (history_placed snapshot MAX_SESSIONS few) s links least,
  largest (judged (history snapshot) level) (history_placed snapshot MAX_SESSIONS few) s links least,
)
