-- What a first answer says, in the words of the main theorem.
use Rattle.tcc_txn.specs.Snapshots.{Sessions}
use Rattle.tcc_reads.specs.Sources.{history}
use Rattle.tcc_graph.specs.declared.level.Level.{Level}
use Rattle.tcc_cert.specs.Rules.{Certifies}
use Rattle.tcc_cert.specs.declared.certificate.Certificate.{Certificate}
use Rattle.tcc_check.specs.Verdicts.{IsTrueClaim}
use Rattle.tcc_answer.specs.Claims.{certificate_of}
use Rattle.tcc_answer.specs.declared.answer.Answer.{Answer}
use Rattle.tcc_answer.specs.declared.answer.Answer.TheVariants as answer
use Rattle.tcc_explain.specs.Explained.{IsAnswerOfSnapshot}
use Rattle.tcc_run.specs.Headline.{IsExplained}

pub explained : (s : Sessions) (level : Level) (a : Answer) → IsAnswerOfSnapshot s level a
    → Certifies (history s) (certificate_of a) → ((c : Certificate) → Certifies (history s) c → IsTrueClaim (history s) c) → IsExplained s level a
explained s level (answer.Commit c) (resolved, is) keeps alone =
    record { resolved = resolved; explains = is.0.1.commit; level_is = is.1; accepted = keeps; alone = alone }
explained s level (answer.Anomaly a) (resolved, is) keeps alone =
    record { resolved = resolved; explains = (is.0.0, is.0.1.least); level_is = is.1; accepted = keeps; alone = alone }
