-- A run that no device and no refused memory ends prints last the answer for all that the records finish.
use Rattle.std.proofs.Common.{ℕ, ◌≡◌, ◌≢◌, List, [], ◌++◌, Option, None, Some, ap, subst, ◌∙◌, inl, inr, ◌⊎◌}
use Rattle.std.specs.Prelude.{unwrap_or}
use Rattle.std.specs.Io.KnownBytes.{Appends}
use Rattle.std.specs.List.{last_or}
use Rattle.tcc_txn.specs.Finished.{KeepsLimits}
use Rattle.tcc_txn.specs.Snapshots.{Sessions}
use Rattle.tcc_txn.specs.declared.limits.Limits.TheVariants.{Small}
use Rattle.tcc_rows.specs.Answers.{answers_of}
use Rattle.tcc_reads.specs.Faults.{read_faults}
use Rattle.tcc_graph.specs.declared.level.Level.{Level}
use Rattle.tcc_answer.specs.declared.answer.Answer.{Answer}
use Rattle.tcc_explain.specs.Explained.{IsAnswerOfSnapshot}
use Rattle.tcc_print.specs.Printed.{answered}
use Rattle.tcc_print.specs.Statuses.{code_of}
use Rattle.tcc_print.specs.declared.options.Options.{Options}
use Rattle.tcc_print.specs.declared.status.Status.TheVariants.{Device, Memory}
use Rattle.tcc_run.specs.Headline.{IsExplained}
use Rattle.tcc_run.specs.HeadlineRuns.{PrintsExplained, SaysExplained, finished_by}
use Rattle.tcc_print.specs.Courses.{Contents, Gains, Said, texts}
use Rattle.tcc_run.specs.LargeRuns.{AllGoesOut}
use Rattle.tcc_run.specs.Runs.{IsSaidOfSnapshot, IsEndedRun, IsExplainRun, IsWholeRun}
use Rattle.tcc_run.proofs.Closing.{accepted, only}
use Rattle.tcc_run.proofs.GoesOut.{goes_out}
use Rattle.tcc_print.proofs.LastSaid.{last_of_all, texts_end}

module _ (law : (s : Sessions) (level : Level) (a : Answer) → IsAnswerOfSnapshot s level a → IsExplained s level a) (options : Options) where
  -- what is said about a snapshot is what the main theorem says
  pub says : (s : Sessions) (said : Said) → IsSaidOfSnapshot options s said → SaysExplained options s said
  says s said (inl (resolved, a, is, same)) = inl (a, law s options.level a (resolved, is), same)
  says s said (inr faults) = inr faults

  module _ (records : List ℕ) (limits : KeepsLimits (finished_by records)) (unfaulted : (answers_of records).fault ≡ None)
      (resolved : read_faults (finished_by records) ≡ []) (before after : Option (List ℕ)) (file file' : Contents) (code : ℕ) (fine : code ≢ code_of Device)
      (space : code ≢ code_of Memory) where
    abbrev Printed : Type 0
    Printed = PrintsExplained options records before after file file' code

    -- all that was said was written, and the certificate of the last
    abbrev Goes : List Said → Said → Type 0
    Goes said last =
        AllGoesOut options (finished_by records) before after (record { certificate = file; slice = None }) (record { certificate = file'; slice = None })
        (texts said) last code

    of_answer : (said : List Said) (last : Said) → last_or None said ≡ Some last → Goes said last
        → IsSaidOfSnapshot options (finished_by records) last → Printed
    of_answer said last end (out, gains, sliced, ends) (inl (none, a, is, same)) =
        let (front, whole) = texts_end said last end in
        let text : texts said ≡ front ++ answered options.json a = whole ∙ ap (λ (s : Said). front ++ s.text) same in
        record {
          answer = a;
          explained = law (finished_by records) options.level a (resolved, is);
          first = is;
          front = front;
          printed = subst (λ t. Appends before after t) text out;
          written = subst (λ (s : Said). Gains file file' (unwrap_or s.certificate [])) same gains;
          status = ends ∙ ap (λ (s : Said). code_of s.status) same;
          accepted = accepted records limits options.level a unfaulted resolved is;
          only = only records limits options.level a unfaulted resolved is;
        }
    of_answer said last end goes (inr (faulty, same)) = absurd (faulty resolved)

    of_ends : (said : List Said) (last : Said) → last_or None said ≡ Some last → Goes said last
        → IsWholeRun options (answers_of records) said ⊎ IsEndedRun options records said → Printed
    of_ends said last end goes ends =
        of_answer said last end goes
        (last_of_all Small (IsSaidOfSnapshot options) options records said last end ends unfaulted code fine space goes.3)

    pub prints : IsExplainRun options records before after file file' code → Printed
    prints run =
        let (said, last, ends, end, goes) =
        goes_out Small (IsSaidOfSnapshot options) options records before after (record { certificate = file; slice = None })
        (record { certificate = file'; slice = None }) code fine space run in
        of_ends said last end goes ends
