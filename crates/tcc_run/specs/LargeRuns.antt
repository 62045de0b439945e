-- What a run does with the bytes of its records, and the answers for those within the large limits.
use Rattle.std.specs.Prelude.{ℕ, ◌≡◌, ◌≢◌, ◌<◌, ◌≤◌, ◌⊎◌, List, [], length, take, unwrap_or, Option, None, Some}
use Rattle.std.specs.Io.KnownBytes.{Appends}
use Rattle.tcc_rows.specs.Answers as rows
use Rattle.tcc_txn.specs.Finished.{KeepsLimits}
use Rattle.tcc_rows.specs.Items.{finished_in}
use Rattle.tcc_txn.specs.Snapshots.{Sessions}
use Rattle.tcc_txn.specs.declared.limits.Limits.{Limits}
use Rattle.tcc_txn.specs.declared.limits.Limits.TheVariants.{Large}
use Rattle.tcc_reads.specs.Faults.{read_faults}
use Rattle.tcc_reads.specs.History.{History}
use Rattle.tcc_reads.specs.Sources.{history}
use Rattle.tcc_graph.specs.Answers as first
use Rattle.tcc_graph.specs.Levels.{judged}
use Rattle.tcc_graph.specs.Links.{cost}
use Rattle.tcc_graph.specs.declared.level.Level.{Level}
use Rattle.tcc_graph.specs.declared.link.Link.{Link}
use Rattle.tcc_cert.specs.LargeTexts.{HasLargeText, large_certificate_text}
use Rattle.tcc_cert.specs.RunsTold.{order_claim_of}
use Rattle.tcc_cert.specs.declared.large.LargeCertificate.{LargeCertificate}
use Rattle.tcc_cert.specs.declared.large.LargeCertificate.TheVariants as claims
use Rattle.tcc_cert.specs.declared.large.Run.{Run}
use Rattle.tcc_answer.specs.Answers.{LabelledOrder, LabelledCycle}
use Rattle.tcc_graph.specs.Labels.{labels_of}
use Rattle.tcc_answer.specs.declared.answer.Answer.{Answer}
use Rattle.tcc_answer.specs.declared.answer.Answer.TheVariants as answer
use Rattle.tcc_explain.specs.Explained.{IsAnswerOfHistory}
use Rattle.tcc_slices.specs.Cuts.{IsCutOf}
use Rattle.tcc_slices.specs.Limits.{NeedTooMuch}
use Rattle.tcc_slices.specs.Slices.{IsSliceOf}
use Rattle.tcc_slices.specs.Texts.{records_text}
use Rattle.tcc_judge.specs.Claims.{links_claim_of}
use Rattle.tcc_judge.specs.Verdicts.{rules_of}
use Rattle.tcc_judge.specs.declared.verdict.LargeRule.{LargeRule}
use Rattle.tcc_rules.specs.declared.verdict.Verdict.{Verdict}
use Rattle.tcc_rules.specs.declared.verdict.Verdict.TheVariants as verdict
use Rattle.tcc_print.specs.Courses.{AreSaidFaults, Contents, Gains, IsCourse, Said, TextFails, answer_said, faults_said}
use Rattle.tcc_print.specs.Printed.{Prints, answered, device_line, memory_line}
use Rattle.tcc_print.specs.Statuses.{answer_status, code_of}
use Rattle.tcc_print.specs.declared.options.Options.{Options}
use Rattle.tcc_print.specs.declared.status.Status.TheVariants.{Anomaly, Device, Memory}
use Rattle.tcc_rules.specs.Asked.{AllHold, IsVerdictOf}
use Rattle.tcc_run.specs.declared.explained.Explained.{Explained}

-- ---- one answer above the small limits

-- an order of a history, with what its text needs: it has no clocks
abbrev pub bare_order : Level → History → List ℕ → LabelledOrder
bare_order level h order = record { level = level; order = order; sessions = length h.sessions; clocks = []; labels = labels_of h }

-- a cycle of a history, with what its text needs: it has no distances
abbrev pub bare_cycle : Level → History → List Link → LabelledCycle
bare_cycle level h links = record { level = level; links = links; near = []; far = []; labels = labels_of h }

abbrev pub bare : Level → History → first.Answer → Answer
bare level h (first.Order order) = answer.Commit (bare_order level h order)
bare level h (first.Cycle s links) = answer.Anomaly (bare_cycle level h links)

-- the claim that links are a cycle; and, where runs are given, that no cycle has fewer steps
abbrev pub cycle_claim : Level → History → List Link → Option (List Run) → LargeCertificate
cycle_claim level h links least = claims.Cycle (links_claim_of level h links least)

-- what a least cycle claims about the least cost. Up to four steps it claims that no cycle has fewer, and no runs are needed. Above that it
-- claims so with runs by which the claim keeps all rules of the judge, or claims nothing about it
abbrev pub IsLeastClaimed : Level → History → List Link → Option (List Run) → Type 0
IsLeastClaimed level h links None = 4 < cost links
IsLeastClaimed level h links (Some runs) =
    ((cost links ≤ 4) × (runs ≡ [])) ⊎ ((4 < cost links) × AllHold (rules_of h (cycle_claim level h links (Some runs))))

-- the claim of a first answer: that of an order, encoded by runs; that of a cycle, by its links
abbrev pub IsClaimOf : Level → History → first.Answer → LargeCertificate → Type 0
IsClaimOf level h (first.Order order) claim = claim ≡ claims.Order (order_claim_of level h order)
IsClaimOf level h (first.Cycle s links) claim =
    (least : Option (List Run)) × IsLeastClaimed level h links least × (claim ≡ cycle_claim level h links least)

-- an answer as said for a small history, with the certificate of what is claimed
abbrev pub claimed : Options → Answer → LargeCertificate → Said
claimed options a claim = record {
  text = answered options.json a;
  status = answer_status options.required a;
  certificate = Some (large_certificate_text claim);
}

-- ---- one answer

-- what is said about a history above the small limits, and the claim of its certificate: its first answer
abbrev pub IsClaimedOf : Options → History → LargeCertificate → Said → Type 0
IsClaimedOf options h claim said =
    (a : first.Answer) × first.IsFirstAnswer (judged h options.level) a × IsClaimOf options.level h a claim
    × (said ≡ claimed options (bare options.level h a) claim)

-- what is said about a snapshot whose reads all have sources is its first answer, whatever its size. Within the small limits it is the same
-- as without --large. Above them it comes with a claim, for which version 3 of the text has room
abbrev pub IsResolvedAs : Options → Sessions → Said → Type 0
IsResolvedAs options s said =
    (KeepsLimits s × (a : Answer) × IsAnswerOfHistory (judged (history s) options.level) a × (said ≡ answer_said options a))
    ⊎ ((KeepsLimits s → ⊥) × (claim : LargeCertificate) × IsClaimedOf options (history s) claim said × HasLargeText claim)

-- what is said about a snapshot; all its read faults, where there are some
abbrev pub IsSaidWithLarge : Options → Sessions → Said → Type 0
IsSaidWithLarge options s said =
    ((read_faults s ≡ []) × IsResolvedAs options s said)
    ⊎ ((read_faults s ≢ []) × (said ≡ faults_said options (read_faults s)))

-- the text, the status and the read faults are those of what is said about a snapshot
abbrev pub IsExplained : Options → Sessions → Explained → Type 0
IsExplained options s e =
    (said : Said) × IsSaidWithLarge options s said × (e.text.items ≡ said.text) × (e.status ≡ said.status) × AreSaidFaults options said e.faults.items

-- what was said about a history is an anomaly of these links
abbrev pub HasSaid : Options → History → Said → List Link → Type 0
HasSaid options h said links =
    ((a : LabelledCycle) × (said ≡ answer_said options (answer.Anomaly a)) × (links ≡ a.links))
    ⊎ ((least : Option (List Run))
    × (said ≡ claimed options (answer.Anomaly (bare_cycle options.level h links)) (cycle_claim options.level h links least)))

-- ---- a run

-- the answers to the bytes of records within the large limits
abbrev pub answers_of : List ℕ → rows.Answers
answers_of text = rows.answers_within Large text

abbrev pub records_of : List ℕ → List (List (List ℕ))
records_of text = rows.records_within Large text

-- ---- the slice

-- what the records of an input finish within limits by its end
abbrev pub finished_within : Limits → List ℕ → Sessions
finished_within limits bytes = finished_in (rows.answers_within limits bytes).items

abbrev pub finished : List ℕ → Sessions
finished bytes = finished_within Large bytes

-- what the records of a text finish within the small limits, where they have no fault
abbrev pub Finishes : List ℕ → Sessions → Type 0
Finishes text s = ((rows.answers_of text).fault ≡ None) × (finished_in (rows.answers_of text).items ≡ s)

-- the text has the records of a small history, session by session, and nothing else. This history is the slice of the whole by these links,
-- which is the whole with transactions and operations left out
abbrev pub IsSliceText : Level → Sessions → List Link → List ℕ → Type 0
IsSliceText level whole links text =
    (slice : Sessions) × (text ≡ records_text slice) × Finishes text slice × IsSliceOf level whole (history whole) links slice × IsCutOf slice whole

-- the text is that of the slice by the links that were said last
abbrev pub IsSliceOfLast : Options → Sessions → Said → List ℕ → Type 0
IsSliceOfLast options whole last text =
    (links : List Link) × HasSaid options (history whole) last links × IsSliceText options.level whole links text

-- the links have no slice within the small limits: they need more than a snapshot may have; or the records of their slice don't finish it
abbrev pub HasNoSlice : Level → Sessions → List Link → Type 0
HasNoSlice level whole links =
    NeedTooMuch (history whole) links
    ⊎ ((slice : Sessions) × IsSliceOf level whole (history whole) links slice × IsCutOf slice whole × (Finishes (records_text slice) slice → ⊥))

-- what was said last is no answer, or no anomaly, or one of links that have no slice
abbrev pub IsUnsliced : Options → Sessions → Said → Type 0
IsUnsliced options whole last =
    (last.certificate ≡ None)
    ⊎ ((last.status ≢ Anomaly)
    ⊎ ((links : List Link) × HasSaid options (history whole) last links × HasNoSlice options.level whole links))

-- the records of the slice of what was said last are written to the file, if one is given; nothing is written only where there is no slice
abbrev pub IsSliced : Options → Sessions → Said → Contents → Contents → Type 0
IsSliced options whole last None file' = file' ≡ None
IsSliced options whole last (Some file) file' =
    ((slice : List ℕ) × IsSliceOfLast options whole last slice × Gains (Some file) file' slice)
    ⊎ (IsUnsliced options whole last × Gains (Some file) file' [])

-- ---- what is written

-- the contents of the two files that may be given, that of the certificate and that of the slice
pub record Files : Type 0 where
  pub certificate : Contents
  pub slice : Contents

-- the whole certificate of the last answer is written to its file; nothing where it has none
abbrev pub IsCertified : Said → Files → Files → Type 0
IsCertified last before after = Gains before.certificate after.certificate (unwrap_or last.certificate [])

-- the texts were written, and then the certificate, and the slice, if there is one: the status is that of the last
abbrev pub AllGoesOut : Options → Sessions → Option (List ℕ) → Option (List ℕ) → Files → Files → List ℕ → Said → ℕ → Type 0
AllGoesOut options whole before after files files' text last code =
    Appends before after text × IsCertified last files files' × IsSliced options whole last files.slice files'.slice
    × (code ≡ code_of last.status)

-- after what was written a write of the certificate failed: a part of it, from its front, was written, and then comes the line for the
-- device
abbrev pub CertificateStops : Options → Said → Option (List ℕ) → Option (List ℕ) → Contents → Contents → ℕ → Type 0
CertificateStops options last before after file file' code =
    (text : List ℕ) × (last.certificate ≡ Some text) × ((n : ℕ) × Gains file file' (take n text) × (file ≢ None))
    × Prints before after (device_line options.json) Device code

-- a file is given for the slice. After what was written a write of the slice failed, of which a part, from its front, was written; or
-- memory was out before it
abbrev pub SliceStops : Options → Sessions → Said → Option (List ℕ) → Option (List ℕ) → Contents → Contents → ℕ → Type 0
SliceStops options whole last before after file file' code =
    (file ≢ None) × (((slice : List ℕ) × (n : ℕ) × IsSliceOfLast options whole last slice × Gains file file' (take n slice)
    × Prints before after (device_line options.json) Device code)
    ⊎ ((last.status ≡ Anomaly) × Gains file file' [] × Prints before after (memory_line options.json) Memory code))

-- after the texts the certificate of the last answer stopped, and its slice wasn't begun; or after the certificate the slice stopped
abbrev pub Stops : Options → Sessions → Said → Option (List ℕ) → Option (List ℕ) → Files → Files → ℕ → Type 0
Stops options whole last before after files files' code =
    (CertificateStops options last before after files.certificate files'.certificate code × Gains files.slice files'.slice [])
    ⊎ (IsCertified last files files' × SliceStops options whole last before after files.slice files'.slice code)

abbrev pub FileFails : Options → Sessions → Option (List ℕ) → Option (List ℕ) → Files → Files → List ℕ → Said → ℕ → Type 0
FileFails options whole before after files files' text last code =
    (between : Option (List ℕ)) × Appends before between text × Stops options whole last between after files files' code

-- what a run within limits does with the bytes, by what it may say about a snapshot: its texts are written one after the other. After
-- them, to the files that are given, it writes the certificate of the last answer and, where that is an anomaly, the records of its slice
-- of all that was finished. The status is that of the last
abbrev pub IsRun : Limits → (Sessions → Said → Type 0) → Options → List ℕ → Option (List ℕ) → Option (List ℕ) → Files → Files → ℕ → Type 0
IsRun limits is_said options bytes before after files files' code =
    IsCourse limits is_said options bytes
    (λ text last. AllGoesOut options (finished_within limits bytes) before after files files' text last code
    ⊎ ((TextFails before after files.certificate files'.certificate text code × Gains files.slice files'.slice [])
    ⊎ FileFails options (finished_within limits bytes) before after files files' text last code))

-- what a run with --large does
abbrev pub IsLargeRun : Options → List ℕ → Option (List ℕ) → Option (List ℕ) → Files → Files → ℕ → Type 0
IsLargeRun options bytes before after files files' code = IsRun Large (IsSaidWithLarge options) options bytes before after files files' code

-- ---- what is accepted

-- what was said has a certificate, its claim about the history keeps all rules, and no verdict on it but `Accepted` is that of the rules
abbrev pub IsAcceptedOf : History → Said → Type 0
IsAcceptedOf h said =
    (claim : LargeCertificate) × (said.certificate ≡ Some (large_certificate_text claim)) × AllHold (rules_of h claim)
    × ((v : Verdict LargeRule) → IsVerdictOf (rules_of h claim) v → v ≡ verdict.Accepted)
