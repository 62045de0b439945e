-- What a run does with its bytes, from what its stages say.
use Rattle.std.proofs.Common.{◌≡◌, Bool, ℕ, List, Option, Result, Ok, Err, inl, inr, subst}
use Rattle.std.specs.Prelude.{IfOk, OnOk}
use Rattle.tcc_print.specs.Statuses.{code_of}
use Rattle.tcc_print.specs.declared.previous.PreviousAnswer.{PreviousAnswer}
use Rattle.tcc_print.specs.declared.options.Options.{Options}
use Rattle.tcc_print.specs.private.Courses.{AllAnswered, EndsEarly}
use Rattle.tcc_watch_run.specs.Watching.{checkpoints_of}
use Rattle.tcc_watch_run.specs.declared.told.SnapshotAnswer.{SnapshotAnswer}
use Rattle.tcc_watch_run.specs.private.Stages.{IsRunBy, course, told_said}

-- a run that ends early
pub early : (quiet : Bool) (options : Options) (text : List ℕ) (before after : Option (List ℕ)) (code : ℕ)
    → EndsEarly (course quiet options (checkpoints_of text)) text before after code → IsRunBy quiet options text before after code
early quiet options text before after code (said, last, is, ends, inl whole) = (said, last, is, ends, inl (whole.0, whole.2))
early quiet options text before after code (said, last, is, ends, inr cuts) = (said, last, is, ends, inr cuts)

-- one that has answered all
pub concluded : (quiet : Bool) (options : Options) (text : List ℕ) (before after : Option (List ℕ)) (last : PreviousAnswer SnapshotAnswer) (code : ℕ)
    → AllAnswered (course quiet options (checkpoints_of text)) text before after last → code ≡ code_of last.outcome.status → IsRunBy quiet options text before after code
concluded quiet options text before after last code (said, is, ends, known, out) by = (said, told_said last.outcome, inl is, ends, inl (out, by))

-- ---- what is said of a snapshot

-- what was kept is what was found
pub on_kept : {A E F : Type 0} (P : Type 0) (r : Result (PreviousAnswer A) E) (found : Result A F) → IfOk r (λ last. found ≡ Ok last.outcome) → OnOk found P → OnOk r P
on_kept P (Ok last) found is on = subst (λ f. OnOk f P) is on
on_kept P (Err e) found is on = tt
