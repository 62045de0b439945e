-- What keeps all rules is true of the history of a snapshot.
use Rattle.std.proofs.Common.{◌<◌, ℕ, Option, None, Some, List, arith}
use Rattle.std.specs.Prelude.{MatchOption}
use Rattle.tcc_txn.specs.Snapshots.{Sessions}
use Rattle.tcc_reads.specs.History.{History, count}
use Rattle.tcc_reads.specs.Sources.{history}
use Rattle.tcc_reads.proofs.Rising.{by_session}
use Rattle.tcc_graph.specs.Levels.{judged}
use Rattle.tcc_graph.specs.Routes.{IsCycle, IsLeastCycle}
use Rattle.tcc_cert.specs.CycleRules.{ends_at}
use Rattle.tcc_cert.specs.declared.large.LargeCertificate.{LargeCertificate}
use Rattle.tcc_cert.specs.declared.large.LargeCertificate.TheVariants as certificate
use Rattle.tcc_cert.specs.declared.large.LinksClaim.{LinksClaim}
use Rattle.tcc_cert.specs.declared.large.Run.{Run}
use Rattle.tcc_judge.specs.Cycles.{IsRightCycle}
use Rattle.tcc_judge.specs.Verdicts.{least_rules_of, rules_of}
use Rattle.tcc_judge.proofs.Certified.{least_cycle, right_cycle}
use Rattle.tcc_judge.proofs.Ordered.{accepted_order}
use Rattle.tcc_verdict.specs.LargeChecks.{IsTrueLargeClaim}
use Rattle.tcc_verdict.proofs.Owned.{owned}
use Rattle.tcc_rules.specs.Asked.{AllHold}

-- a cycle, and a least one where that is claimed
cycle_true : (h : History) (k : LinksClaim) (least : Option (List Run)) → IsRightCycle h k → AllHold (least_rules_of h k.level k.cost least)
    → MatchOption least ((s : ℕ) × IsCycle (judged h k.level) s k.links) (λ _. (s : ℕ) × IsLeastCycle (judged h k.level) s k.links)
cycle_true h k None good rules = (ends_at 0 k.links, right_cycle h k good)
cycle_true h k (Some runs) good rules = (ends_at 0 k.links, least_cycle h k good runs rules)

some : (s : Sessions) → 0 < count (history s)
some s = omega arith

pub true_claim : (s : Sessions) (k : LargeCertificate) → AllHold (rules_of (history s) k) → IsTrueLargeClaim (history s) k
true_claim s (certificate.Order k) rules = ((accepted_order (history s) (by_session s) (some s) (owned s) k).0 rules).1
true_claim s (certificate.Cycle k) rules = (cycle_true (history s) k k.least rules.1.0 rules.1.1, rules.1.0.costs)
