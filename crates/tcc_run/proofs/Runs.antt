-- What a run does with its bytes, from what its stages say.
use Rattle.std.proofs.Common.{◌≡◌, ℕ, List, [], Option, None, refl, sym, subst, inl, inr}
use Rattle.std.specs.Prelude.{unwrap_or}
use Rattle.std.specs.Io.KnownBytes.{Appends}
use Rattle.tcc_txn.specs.Finished.{IsWithinLimits}
use Rattle.tcc_txn.specs.Snapshots.{Sessions}
use Rattle.tcc_txn.specs.declared.limits.Limits.{Limits}
use Rattle.tcc_txn.specs.declared.limits.Limits.TheVariants.{Small, Large}
use Rattle.tcc_print.specs.Courses.{Contents, Gains, Said, texts}
use Rattle.tcc_print.specs.declared.previous.PreviousAnswer.{PreviousAnswer}
use Rattle.tcc_print.specs.declared.options.Options.{Options}
use Rattle.tcc_print.specs.Saying.{IsTold}
use Rattle.tcc_print.specs.private.Courses.{AllAnswered, EndsEarly}
use Rattle.tcc_print.proofs.Courses.{Gains-none}
use Rattle.tcc_run.specs.Runs.{IsExplainRun, IsSaidOfSnapshot}
use Rattle.tcc_run.specs.LargeRuns.{Files, IsRun, IsSaidWithLarge, finished_within}
use Rattle.tcc_run.specs.declared.outcome.Outcome.{Outcome}
use Rattle.tcc_run.specs.private.Stages.{Concludes, IsOutcome, IsSaidWithin, course, outcome_said}
use Rattle.tcc_run.proofs.Files.{unsliced}
use Rattle.tcc_run.proofs.Outcomes.{said_of}
use Rattle.tcc_run.proofs.WithinSmall.{said_small}

-- what is said about a snapshot of any size is said about one within limits
said_within : (limits : Limits) (options : Options) (s : Sessions) (said : Said) → IsWithinLimits limits s → IsSaidWithLarge options s said
    → IsSaidWithin limits options s said
said_within Small options s said keeps is = said_small options s said keeps is
said_within Large options s said keeps is = is

-- what is to be said about a snapshot is reported for it
pub told : (limits : Limits) (options : Options) (s : Sessions) (o : Outcome) → IsWithinLimits limits s → IsOutcome options.level s o
    → IsTold (course limits options) s o
told limits options s o within is = (said_within limits options s (outcome_said options o) within (said_of options s o is), is)

-- a run that ends early has nothing for the files
pub early : (limits : Limits) (options : Options) (text : List ℕ) (before after : Option (List ℕ)) (files : Files) (code : ℕ)
    → EndsEarly (course limits options) text before after code → IsRun limits (IsSaidWithin limits options) options text before after files files code
early limits options text before after files code (said, last, is, ends, inl whole) = (
  said,
  last,
  is,
  ends,
  inl (
    whole.0,
    subst (λ (certificate : Option (List ℕ)). Gains files.certificate files.certificate (unwrap_or certificate [])) (sym whole.1) (Gains-none files.certificate),
    unsliced options (finished_within limits text) last files.slice (inl whole.1),
    whole.2,
  ),
)
early limits options text before after files code (said, last, is, ends, inr cuts) =
    (said, last, is, ends, inr (inl ((cuts, Gains-none files.certificate), Gains-none files.slice)))

-- a run that has answered all ends with the files of what was said last
concluded_all : (limits : Limits) (options : Options) (text : List ℕ) (before now after : Option (List ℕ)) (files files' : Files) (last : PreviousAnswer Outcome) (code : ℕ)
    → AllAnswered (course limits options) text before now last
    → Concludes options (finished_within limits text) (outcome_said options last.outcome) now after files files' code
    → IsRun limits (IsSaidWithin limits options) options text before after files files' code
concluded_all limits options text before now after files files' last code (said, is, ends, known, out) (inl (quiet, certified, sliced, ends_by)) = (
  said,
  outcome_said options last.outcome,
  inl is,
  ends,
  inl (subst (λ (o : Option (List ℕ)). Appends before o (texts said)) (sym quiet) out, certified, sliced, ends_by),
)
concluded_all limits options text before now after files files' last code (said, is, ends, known, out) (inr stops) =
    (said, outcome_said options last.outcome, inl is, ends, inr (inr (now, out, stops)))

-- the outcome that is kept is one of all that was finished
last_known : (limits : Limits) (options : Options) (text : List ℕ) (before now : Option (List ℕ)) (last : PreviousAnswer Outcome) → AllAnswered (course limits options) text before now last
    → IsOutcome options.level (finished_within limits text) last.outcome
last_known limits options text before now last (said, is, ends, known, out) = known

pub concluded : (limits : Limits) (options : Options) (text : List ℕ) (s : Sessions) (before now after : Option (List ℕ)) (files files' : Files)
    (last : PreviousAnswer Outcome) (o : Outcome) (code : ℕ) → o ≡ last.outcome
    → s ≡ finished_within limits text → AllAnswered (course limits options) text before now last
    → (IsOutcome options.level s o → Concludes options s (outcome_said options o) now after files files' code)
    → IsRun limits (IsSaidWithin limits options) options text before after files files' code
concluded limits options text s before now after files files' last o code same all answered concludes =
    let its : IsOutcome options.level s last.outcome → Concludes options s (outcome_said options last.outcome) now after files files' code
    = subst (λ (p : Outcome). IsOutcome options.level s p → Concludes options s (outcome_said options p) now after files files' code) same concludes in
    concluded_all limits options text before now after files files' last code answered
    (subst (λ (s : Sessions). Concludes options s (outcome_said options last.outcome) now after files files' code) all
    (its (subst (λ (s : Sessions). IsOutcome options.level s last.outcome) (sym all) (last_known limits options text before now last answered))))

-- where no file is given for a slice there is none after the run either
pub no_slice : (options : Options) (text : List ℕ) (before after : Option (List ℕ)) (file file' slice : Contents) (code : ℕ)
    → IsRun Small (IsSaidOfSnapshot options) options text before after (record { certificate = file; slice = None })
    (record { certificate = file'; slice = slice }) code
    → IsExplainRun options text before after file file' code
no_slice options text before after file file' slice code (said, last, is, ends, inl (out, certified, none, ends_by)) =
    (said, last, is, ends, inl (out, certified, refl, ends_by))
no_slice options text before after file file' slice code (said, last, is, ends, inr (inl (fails, none))) =
    (said, last, is, ends, inr (inl (fails, refl)))
no_slice options text before after file file' slice code (said, last, is, ends, inr (inr (between, out, inl (stops, none)))) =
    (said, last, is, ends, inr (inr (between, out, inl (stops, refl))))
no_slice options text before after file file' slice code (said, last, is, ends, inr (inr (between, out, inr (certified, stops)))) =
    absurd (stops.0 refl)
