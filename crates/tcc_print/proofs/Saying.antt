-- What is said of one snapshot, after what was said last.
use Rattle.std.proofs.Common.{ℕ, ◌≡◌, ◌≢◌, inl, inr, subst, sym, List, Option, None, Some, Result, Ok, Err, MatchResult}
use Rattle.std.specs.Prelude.{IfSome}
use Rattle.tcc_rows.specs.declared.recording.Checkpoint.{Checkpoint}
use Rattle.tcc_rows.specs.declared.recording.Checkpoint.TheVariants as checkpoint
use Rattle.tcc_txn.specs.Finished.{transaction_count}
use Rattle.tcc_txn.specs.Snapshots.{Sessions}
use Rattle.tcc_print.specs.Courses.{Said}
use Rattle.tcc_print.specs.Saying.{Course, EndsAgain, EndsAnswering, Repeats, SaysAgain, SaysAt, SaysLast}
use Rattle.tcc_print.specs.declared.previous.PreviousAnswer.{PreviousAnswer}

-- where something was finished since then, nothing has to be said again
repeats_nothing : {O : Type 0} (course : Course O) (s : Sessions) (last : Option (PreviousAnswer O)) (said : Said)
    → IfSome last (λ last. last.transactions ≢ transaction_count s) → Repeats course s last said
repeats_nothing course s None said apart = tt
repeats_nothing course s (Some last) said apart = λ count. absurd (apart count)

says_anew : {O : Type 0} (course : Course O) (s : Sessions) (last : Option (PreviousAnswer O)) (before after : Option (List ℕ)) (r : Result (PreviousAnswer O) ℕ)
    → IfSome last (λ last. last.transactions ≢ transaction_count s)
    → MatchResult r (SaysLast course s before after) (EndsAnswering course s before after)
    → MatchResult r (SaysAgain course s last before after) (EndsAgain course s last before after)
says_anew course s last before after (Ok now) apart says = (says, repeats_nothing course s last (course.say now.outcome) apart)
says_anew course s last before after (Err code) apart (inl (said, is, holds, cut)) = inl (said, is, repeats_nothing course s last said apart, cut)
says_anew course s last before after (Err code) apart (inr memory) = inr memory

-- ---- at a checkpoint of the recording

-- after which nothing was finished
pub says_still : {O : Type 0} (course : Course O) (m : Checkpoint) (s : Sessions) (last : Option (PreviousAnswer O)) (same : PreviousAnswer O) (before after : Option (List ℕ))
    (r : Result (PreviousAnswer O) ℕ) → last ≡ Some same → SaysAt course m s (Some same) before after r → SaysAt course m s last before after r
says_still course m s last same before after r is says = subst (λ l. SaysAt course m s l before after r) (sym is) says

-- before which something was
pub says_at : {O : Type 0} (course : Course O) (m : Checkpoint) (s : Sessions) (last : Option (PreviousAnswer O)) (before after : Option (List ℕ)) (r : Result (PreviousAnswer O) ℕ)
    → IfSome last (λ last. last.transactions ≢ transaction_count s)
    → MatchResult r (SaysLast course s before after) (EndsAnswering course s before after) → SaysAt course m s last before after r
says_at course checkpoint.Seal s last before after r apart says = λ still. says_anew course s last before after r apart says
says_at course checkpoint.End s None before after r apart says = (tt, λ _. says)
says_at course checkpoint.End s (Some last) before after r apart says = ((λ same. absurd (apart same)), λ _. says)
