-- The certificate of the answer for a snapshot keeps all rules.
use Rattle.tcc_txn.specs.Snapshots.{Sessions}
use Rattle.tcc_reads.specs.Sources.{history}
use Rattle.tcc_graph.specs.declared.level.Level.{Level}
use Rattle.tcc_cert.specs.Rules.{Certifies}
use Rattle.tcc_answer.specs.Claims.{certificate_of}
use Rattle.tcc_explain.specs.Explained.{IsAnswerOfHistory}
use Rattle.tcc_answer.specs.declared.answer.Answer.{Answer}
use Rattle.tcc_answer.specs.declared.answer.Answer.TheVariants as answer
use Rattle.tcc_explain.proofs.CertifiedCycle as cycle
use Rattle.tcc_explain.proofs.CertifiedOrder as order
use Rattle.tcc_explain.proofs.Numbered.{numbered}
use Rattle.tcc_graph.specs.Levels.{judged}

pub certified : (s : Sessions) (level : Level) (a : Answer) → IsAnswerOfHistory (judged (history s) level) a
    → Certifies (history s) (certificate_of a)
certified s level (answer.Commit c) (first, at, sessions, labels, clocks) =
    rw (at, sessions) (order.certified (judged (history s) level) c.order c.clocks (numbered s) first.1.commit clocks)
certified s level (answer.Anomaly a) ((start, first), at, labels, near, far) =
    rw at (cycle.certified (judged (history s) level) start a.links a.near a.far first.least near far)
