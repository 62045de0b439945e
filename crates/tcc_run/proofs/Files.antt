-- What is written to the files after the last answer.
use Rattle.std.proofs.Common.{◌≡◌, ℕ, List, Option, None, Some, Result, Ok, Err, refl, sym, subst, take, ◌∙◌, inl, inr}
use Rattle.std.specs.Prelude.{IsErrAnd, OnErr, OnOk}
use Rattle.std.specs.Io.KnownBytes.{Appends}
use Rattle.tcc_txn.specs.Snapshots.{Sessions}
use Rattle.tcc_reads.specs.Sources.{history}
use Rattle.tcc_graph.specs.declared.link.Link.{Link}
use Rattle.tcc_print.specs.Courses.{Contents, Said}
use Rattle.tcc_print.specs.Printed.{Prints, device_line}
use Rattle.tcc_print.specs.declared.options.Options.{Options}
use Rattle.tcc_print.specs.declared.status.Status.TheVariants.{Device}
use Rattle.tcc_print.proofs.Courses.{Gains-none}
use Rattle.tcc_run.specs.LargeRuns.{CertificateStops, Files, IsSliced, IsUnsliced, SliceStops, Stops}
use Rattle.tcc_run.specs.private.Stages.{IsOutcome, SendsCertificate, SendsSlice, WritesCertificate, WritesFiles, WritesSlice, outcome_links, outcome_said}
use Rattle.tcc_run.specs.declared.outcome.Outcome.{Outcome}
use Rattle.tcc_run.proofs.Outcomes.{has_said, said_anomalous, unsaid}

nothing : {A : Type 0} (x : A) → Some x ≡ None → ⊥
nothing x e = cc

-- the text of a certificate was written, or a write failed
pub sent : {A E : Type 0} (certificate : Option (List ℕ)) (text : List ℕ) (r : Result A E) (file file' : Option (List ℕ)) → certificate ≡ Some text
    → OnOk r (Appends file file' text) → OnErr r ((n : ℕ) × Appends file file' (take n text)) → SendsCertificate certificate r file file'
sent certificate text (Ok done) file file' is whole part = rw is whole
sent certificate text (Err fault) file file' is whole part = (text, is, part)

-- the run stops at a file that is given
pub certificate_stops : (options : Options) (last : Said) (before after file file' : Option (List ℕ)) (code : ℕ)
    → (text : List ℕ) × (last.certificate ≡ Some text) × ((n : ℕ) × Appends file file' (take n text))
    → Prints before after (device_line options.json) Device code → CertificateStops options last before after (Some file) (Some file') code
certificate_stops options last before after file file' code (text, is, (n, part)) prints = (text, is, (n, part, nothing file), prints)

-- the slice of what was said
pub slice_given : {A : Type 0} (options : Options) (whole : Sessions) (o : Outcome) (links : List Link) (r : Result A ℕ) (before after file file' : Option (List ℕ))
    → IsOutcome options.level whole o → outcome_links o ≡ Some links → SendsSlice options whole links r before after file file'
    → WritesSlice options whole (outcome_said options o) r before after (Some file) (Some file')
slice_given options whole o links (Ok done) before after file file' is has (quiet, inl (slice, cut, out)) =
    (quiet, inl (slice, (links, has_said options whole o links is has, cut), out))
slice_given options whole o links (Ok done) before after file file' is has (quiet, inr (none, out)) =
    (quiet, inr (inr (inr (links, has_said options whole o links is has, none)), out))
slice_given options whole o links (Err code) before after file file' is has (inl (slice, n, cut, out, prints)) =
    (nothing file, inl (slice, n, (links, has_said options whole o links is has, cut), out, prints))
slice_given options whole o links (Err code) before after file file' is has (inr (none, prints)) =
    (nothing file, inr (said_anomalous options (history whole) (outcome_said options o) links (has_said options whole o links is has), none, prints))

-- there is no slice, and nothing is written to the file
pub unsliced : (options : Options) (whole : Sessions) (last : Said) (file : Contents) → IsUnsliced options whole last → IsSliced options whole last file file
unsliced options whole last None is = refl
unsliced options whole last (Some file) is = inr (is, Gains-none (Some file))

-- what was said is no anomaly
pub slice_none : (options : Options) (whole : Sessions) (o : Outcome) (before : Option (List ℕ)) (file : Contents) → outcome_links o ≡ None
    → WritesSlice {A = Unit {0}} options whole (outcome_said options o) (Ok tt) before before file file
slice_none options whole o before file none = (refl, unsliced options whole (outcome_said options o) file (inr (inl (unsaid options o none))))

-- both files, one after the other
pub both_files : {A : Type 0} (options : Options) (whole : Sessions) (last : Said) (r : Result A ℕ) (before now after : Option (List ℕ))
    (first first' second second' : Contents) → WritesCertificate {A = Unit {0}} options last (Ok tt) before now first first'
    → WritesSlice options whole last r now after second second'
    → WritesFiles options whole last r before after (record { certificate = first; slice = second }) (record { certificate = first'; slice = second' })
both_files options whole last (Ok done) before now after first first' second second' (quiet, gains) (still, sliced) = (still ∙ quiet, gains, sliced)
both_files options whole last (Err code) before now after first first' second second' (quiet, gains) stops =
    inr (gains, subst (λ (b : Option (List ℕ)). SliceStops options whole last b after second second' code) quiet stops)

-- a run that stops at a file ends with the exit code of the call that stopped there
pub files_stop : {A : Type 0} (options : Options) (whole : Sessions) (last : Said) (r : Result A ℕ) (why : ℕ) (before after : Option (List ℕ)) (files files' : Files)
    → IsErrAnd r (λ code. code ≡ why) → Stops options whole last before after files files' why → WritesFiles options whole last r before after files files'
files_stop options whole last (Ok a) why before after files files' is stops = absurd is
files_stop options whole last (Err code) why before after files files' is stops =
    subst (λ (n : ℕ). Stops options whole last before after files files' n) (sym is) stops
