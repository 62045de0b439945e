-- The main theorem: the answer for a snapshot at a level, and what the certificate given with it shows.
use Rattle.std.specs.Prelude.{ℕ, ◌≡◌, []}
use Rattle.tcc_txn.specs.Snapshots.{Sessions}
use Rattle.tcc_reads.specs.Faults.{read_faults}
use Rattle.tcc_reads.specs.Sources.{history}
use Rattle.tcc_graph.specs.Levels.{Judged, judged}
use Rattle.tcc_graph.specs.Orders.{IsCommitOrder}
use Rattle.tcc_graph.specs.Routes.{IsLeastCycle}
use Rattle.tcc_graph.specs.declared.level.Level.{Level}
use Rattle.tcc_cert.specs.declared.certificate.Certificate.{Certificate}
use Rattle.tcc_check.specs.Verdicts.{IsVerdict, IsTrueClaim}
use Rattle.tcc_rules.specs.declared.verdict.Verdict.TheVariants.{Accepted}
use Rattle.tcc_answer.specs.Claims.{certificate_of}
use Rattle.tcc_answer.specs.declared.answer.Answer.{Answer}
use Rattle.tcc_answer.specs.declared.answer.Answer.TheVariants as answer

-- a commit order, which satisfies the axiom of the level; or a cycle of session, reads-from and derived links, each derived link with its
-- reason, and no cycle has fewer steps
abbrev pub Explains : Judged → Answer → Type 0
Explains j (answer.Commit c) = IsCommitOrder j c.order
Explains j (answer.Anomaly a) = (s : ℕ) × IsLeastCycle j s a.links

-- the level of the answer, which its certificate names
abbrev pub answer_level : Answer → Level
answer_level (answer.Commit c) = c.level
answer_level (answer.Anomaly a) = a.level

-- the answer for a snapshot whose reads all have sources
pub record IsExplained (s : Sessions) (level : Level) (a : Answer) : Type 0 where
  pub resolved : read_faults s ≡ []
  pub explains : Explains (judged (history s) level) a
  -- the certificate given with it, of this level, with the answer's own order or links, is accepted by the checker
  pub level_is : answer_level a ≡ level
  pub accepted : IsVerdict (history s) (certificate_of a) Accepted
  -- and its acceptance alone implies this: what a certificate that it accepts claims is true
  pub alone : (c : Certificate) → IsVerdict (history s) c Accepted → IsTrueClaim (history s) c
