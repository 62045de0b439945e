-- The judgement of a text for the history of a snapshot.
use Rattle.std.proofs.Common.{◌≡◌, ℕ, List, true, Result, Ok, Err, inl, inr, sym, ap, subst}
use Rattle.std.specs.Prelude.{IsErrAnd}
use Rattle.tcc_txn.specs.Snapshots.{Sessions}
use Rattle.tcc_reads.specs.Sources.{history}
use Rattle.tcc_cert.specs.LargeReading.{is_large}
use Rattle.tcc_cert.specs.declared.certificate.Certificate.{Certificate}
use Rattle.tcc_rules.specs.Asked.{IsVerdictOf}
use Rattle.tcc_check.specs.Verdicts.{IsVerdict}
use Rattle.tcc_rules.specs.declared.stream_fault.StreamFault.{StreamFault}
use Rattle.tcc_rules.specs.declared.stream_fault.StreamFault.TheVariants.{Text, NoMemory}
use Rattle.tcc_rules.specs.declared.verdict.Rule.{Rule}
use Rattle.tcc_rules.specs.declared.verdict.Verdict.{Verdict}
use Rattle.tcc_judge.specs.Verdicts.{rules_of}
use Rattle.tcc_print.specs.declared.run_error.RunError.{RunError}
use Rattle.tcc_print.specs.private.RunErrors.{by_stream}
use Rattle.tcc_verdict.specs.private.Stages.{MayBeOfText}
use Rattle.tcc_verdict.specs.LargeChecks.{IsLargeTextCheck, IsVerdictFor, large_check}
use Rattle.tcc_verdict.specs.private.LargeStages.{IsAnyStreamFault, IsJudgedLarge, IsJudgedText, IsSizedHistory, IsSizedVerdict, history_in}
use Rattle.tcc_verdict.specs.declared.large.judgement.LargeJudgement.{LargeJudgement}
use Rattle.tcc_verdict.specs.declared.large.judgement.LargeJudgement.TheVariants as judgement
use Rattle.tcc_verdict.specs.declared.large.sized.SizedGraph.{SizedGraph}
use Rattle.tcc_verdict.specs.declared.large.sized.SizedGraph.TheVariants.{Small, Large}
use Rattle.tcc_verdict.proofs.Faults.{large_any}

same_history : (s : Sessions) (graph : SizedGraph) → IsSizedHistory s graph → history_in graph ≡ history s
same_history s (Small h) sized = sized.1
same_history s (Large h) sized = sized.1

verdict_for : (s : Sessions) (graph : SizedGraph) (c : Certificate) (v : Verdict Rule) → IsSizedHistory s graph → IsSizedVerdict graph c v → IsVerdictFor s c v
verdict_for s (Small h) c v sized is = inl (sized.0, subst (λ h. IsVerdict h c v) sized.1 is)
verdict_for s (Large h) c v sized is = inr (sized.0, is)

-- a judgement of a text is the outcome of the text
pub of_judgement : (s : Sessions) (graph : SizedGraph) (bytes : List ℕ) (j : LargeJudgement) → IsSizedHistory s graph
    → IsJudgedText graph bytes (Ok j) → IsLargeTextCheck s bytes (Ok j)
of_judgement s graph bytes (judgement.Small j) sized is =
    (is.0, is.1.0, is.1.1, is.1.2, verdict_for s graph is.1.0 j.verdict sized is.1.3)
of_judgement s graph bytes (judgement.Large said v) sized is =
    (is.0, is.1.0, is.1.1, is.1.2, subst (λ h. IsVerdictOf (rules_of h is.1.0) v) (same_history s graph sized) is.1.3)

-- so is its fault
pub of_fault : (s : Sessions) (bytes : List ℕ) (fault : StreamFault) (o : Result LargeJudgement RunError) → IsAnyStreamFault bytes fault
    → IsErrAnd o (λ why. why ≡ by_stream fault) → MayBeOfText large_check s bytes o
of_fault s bytes fault (Ok j) fails is = absurd is
of_fault s bytes (Text fault) (Err why) fails is = inl (subst (λ u. IsLargeTextCheck s bytes (Err u)) (sym is) fails)
of_fault s bytes NoMemory (Err why) fails is = inr (ap Err is)

-- a judgement of a text of version 3 is one of a text by its version
pub of_large : (graph : SizedGraph) (bytes : List ℕ) (o : Result LargeJudgement StreamFault) → is_large bytes ≡ true
    → IsJudgedLarge (history_in graph) bytes o → IsJudgedText graph bytes o
of_large graph bytes (Ok (judgement.Small j)) large is = absurd is
of_large graph bytes (Ok (judgement.Large said v)) large is = (large, is)
of_large graph bytes (Err fault) large is = large_any bytes fault large is
