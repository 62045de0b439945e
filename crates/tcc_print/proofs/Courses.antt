-- What a run does with its bytes, from how a recording of them went on, whatever its outcomes are.
use Rattle.std.proofs.Common.{◌≡◌, ◌≢◌, ℕ, ◌+◌, arith, Bool, true, false, cond, List, [], ◌∷◌, ◌++◌, length, take}
use Rattle.std.proofs.Common.{Option, None, Some, Result, Ok, Err, refl, sym, ap, subst, ◌∙◌, inl, inr, ◌⊎◌, append_assoc}
use Rattle.std.proofs.Common.{append-nil}
use Rattle.std.specs.Prelude.{nat_eq, IfSome, IsErrAnd, MatchResult}
use Rattle.std.specs.List.{last_or}
use Rattle.std.specs.Io.KnownBytes.{Appends}
use Rattle.std.proofs.KnownBytes.{Appends-trans}
use Rattle.std.proofs.lemmas.Grind.{flat_map-append}
use Rattle.std.proofs.lemmas.Bool.Decides.{nat_tests}
use Rattle.std.proofs.Math.Seq.{take-append-add, take-length}
use Rattle.tcc_rows.specs.Answers.{Answers, answers_to, answers_within, ending, records_within}
use Rattle.tcc_rows.specs.Failing.{items_before_within}
use Rattle.tcc_rows.specs.Items.{finished_in}
use Rattle.tcc_rows.specs.Lines.{Record}
use Rattle.tcc_rows.specs.Reached.{IsWithin}
use Rattle.tcc_rows.specs.Recordings.{FailsBehind, IsRecording, TakesCheckpoint, after_items}
use Rattle.tcc_rows.specs.declared.recording.Checkpoint.{Checkpoint}
use Rattle.tcc_rows.specs.declared.recording.Checkpoint.TheVariants as checkpoint
use Rattle.tcc_rows.specs.declared.recording.RecordingWithin.{RecordingWithin}
use Rattle.tcc_rows.specs.declared.rows.Item.{Item}
use Rattle.tcc_rows.specs.declared.rows.Item.TheVariants as item
use Rattle.tcc_rows.specs.declared.fault.RowFault.{RowFault}
use Rattle.tcc_rows.specs.declared.fault.RowFaultKind.TheVariants as kind
use Rattle.tcc_rows.proofs.FailingFacts.{first-items}
use Rattle.tcc_txn.specs.Finished.{transaction_count}
use Rattle.tcc_txn.specs.Snapshots.{Sessions}
use Rattle.tcc_print.specs.Courses.{AreSaid, Contents, Gains, IsWholeCourse, MayEnd, Said, run_error_said, texts}
use Rattle.tcc_print.specs.RunErrors.{by_row, is_memory}
use Rattle.tcc_print.specs.Checkpoints.{at_end, is_due_after, sealed_in}
use Rattle.tcc_print.specs.Printed.{CutsOff, EndsIn, Prints, PrintsOrMemory, printed_error, memory_line}
use Rattle.tcc_print.specs.Statuses.{run_error_status}
use Rattle.tcc_print.specs.declared.run_error.RunError.{RunError}
use Rattle.tcc_print.specs.declared.run_error.RunError.TheVariants as error
use Rattle.tcc_print.specs.declared.previous.PreviousAnswer.{PreviousAnswer}
use Rattle.tcc_print.specs.declared.status.Status.TheVariants.{Memory}
use Rattle.tcc_print.specs.Saying.{Course, EndsAgain, EndsAnswering, EndsSaying, IsFor, IsStill, IsTold}
use Rattle.tcc_print.specs.private.Courses.{AllAnswered, EndsEarly}
use Rattle.tcc_print.specs.Saying.{Repeats, SaysAgain, SaysLast}
use Rattle.tcc_print.proofs.LastSaid.{last_snapshot}
use Rattle.tcc_print.proofs.Checkpoints.{AreSaid-push, all-fault, all-items, at_end-due, at_end-none, due-passed, due-seal}
use Rattle.tcc_print.proofs.Checkpoints.{finished-seal, first-taken, last-push, part-of, same-passed, sealed-passed, sealed-seal, still_due}

texts-push : (said : List Said) (one : Said) → texts (said ++ one ∷ []) ≡ texts said ++ one.text
texts-push said one = flat_map-append (λ (one : Said). one.text) said (one ∷ []) ∙ ap (λ t. texts said ++ t) (append-nil one.text)

-- a part of a text after others that were written
Appends-part : (a b c : Option (List ℕ)) (x y : List ℕ) (n : ℕ) → Appends a b x → Appends b c (take n y) → Appends a c (take (length x + n) (x ++ y))
Appends-part a b c x y n out part = subst (λ t. Appends a c t) (sym (take-append-add x y n)) (Appends-trans a b c x (take n y) out part)

module _ {O : Type 0} (course : Course O) (text : List ℕ) (before : Option (List ℕ)) where
  -- the run is ended after some answers
  ended : (n : ℕ) (why : RunError) (said : List Said) (now after : Option (List ℕ)) (code : ℕ) → MayEnd course.limits text n why
      → AreSaid course.is_said (sealed_in (take n (answers_within course.limits text).items)) said → Appends before now (texts said)
      → Prints now after (printed_error course.options.json why) (run_error_status why) code → EndsEarly course text before after code
  ended n why said now after code may answers out prints =
      let all = texts-push said (run_error_said course.options why) in (
        said ++ run_error_said course.options why ∷ [],
        run_error_said course.options why,
        inr (said, (n, why, may, answers, refl)),
        last-push None said (run_error_said course.options why),
        elim prints [
          | inl whole ↦ inl (
            subst (λ t. Appends before after t) (sym all) (Appends-trans before now after (texts said) (printed_error course.options.json why) out whole.0),
            refl,
            whole.1,
          )
          | inr part ↦ inr (
            (
              length (texts said) + part.0.0,
              subst (λ t. Appends before after (take (length (texts said) + part.0.0) t)) (sym all)
                  (Appends-part before now after (texts said) (printed_error course.options.json why) part.0.0 out part.0.1),
            ),
            part.1,
          )
        ],
      )

  ended_or : (n : ℕ) (why : RunError) (said : List Said) (now after : Option (List ℕ)) (code : ℕ) → MayEnd course.limits text n why
      → AreSaid course.is_said (sealed_in (take n (answers_within course.limits text).items)) said → Appends before now (texts said)
      → PrintsOrMemory course.options.json now after (printed_error course.options.json why) (run_error_status why) code → EndsEarly course text before after code
  ended_or n why said now after code may answers out (inl prints) = ended n why said now after code may answers out prints
  ended_or n why said now after code may answers out (inr memory) = ended n error.NoMemory said now after code tt answers out memory

  -- a writer fails in an answer, after which memory might have been wanting
  cut : (n : ℕ) (said : List Said) (one : Said) (now after : Option (List ℕ)) (code : ℕ)
      → AreSaid course.is_said (sealed_in (take n (answers_within course.limits text).items)) (said ++ one ∷ []) → Appends before now (texts said)
      → CutsOff now after one.text code → EndsEarly course text before after code
  cut n said one now after code answers out cuts =
      let memory = run_error_said course.options error.NoMemory in
      let part = part-of cuts.0.0 one.text memory.text in (
        (said ++ one ∷ []) ++ memory ∷ [],
        memory,
        inr (said ++ one ∷ [], (n, error.NoMemory, tt, answers, refl)),
        last-push None (said ++ one ∷ []) memory,
        inr (
          (
            length (texts said) + part.0,
            subst (λ t. Appends before after t) (sym
                (ap (take (length (texts said) + part.0))
                (texts-push (said ++ one ∷ []) memory ∙ ap (λ t. t ++ memory.text) (texts-push said one) ∙ append_assoc (texts said) one.text memory.text)
                ∙ take-append-add (texts said) (one.text ++ memory.text) part.0
                ∙ ap (λ t. texts said ++ t) part.1))
                (Appends-trans before now after (texts said) (take cuts.0.0 one.text) out cuts.0.1),
          ),
          cuts.1,
        ),
      )

-- what is known about what was said last: nothing was said, and an answer is due; or nothing is due, and it was said of all that was
-- finished
abbrev pub IsLast : {O : Type 0} → Course O → Option (PreviousAnswer O) → List Item → List Said → Type 0
IsLast course None taken said = (is_due_after true taken ≡ true) × (said ≡ [])
IsLast course (Some last) taken said =
    (is_due_after true taken ≡ false) × IsFor course (finished_in taken) last
    × (last_or None said ≡ Some (course.say last.outcome))

inside : {X : Type 0} (x y : X) → Some x ≡ Some y → x ≡ y
inside x y e = cc e

nothing : {X : Type 0} (x : X) → None ≡ Some x → ⊥
nothing x e = cc e

-- where nothing is due, the last seal came after all that was finished
last-sealed : (taken : List Item) → is_due_after true taken ≡ false → last_or None (sealed_in taken) ≡ Some (finished_in taken)
last-sealed taken none =
    let (front, is) = last_snapshot taken in
    ap (last_or None) (sym (append-nil (sealed_in taken)) ∙ sym (ap (λ end. sealed_in taken ++ end) (at_end-none taken none)) ∙ is)
    ∙ last-push None front (finished_in taken)

-- what was said for another number of transactions is not to be said again
pub nothing_again : {O : Type 0} (course : Course O) (s : Sessions) (last : Option (PreviousAnswer O)) (said : Said)
    → IfSome last (λ last. last.transactions ≢ transaction_count s) → Repeats course s last said
nothing_again course s None said other = tt
nothing_again course s (Some last) said other = λ same. absurd (other same)

-- a run that a call ended has the status that the call returned
pub ended_by : {A : Type 0} (P : A → Type 0) (Q : ℕ → Type 0) (r : Result A ℕ) (why : ℕ) → IsErrAnd r (λ code. code ≡ why) → Q why → MatchResult r P Q
ended_by P Q (Ok a) why is q = absurd is
ended_by P Q (Err code) why is q = subst Q (sym is) q

-- what was said last was said for this number of transactions; or it wasn't, and an answer is due
pub said_or_due : {O : Type 0} (last : Option (PreviousAnswer O)) (n : ℕ)
    → ((l : PreviousAnswer O) × (last ≡ Some l) × (l.transactions ≡ n)) ⊎ IfSome last (λ last. last.transactions ≢ n)
said_or_due None n = inr tt
said_or_due {O = O} (Some last) n = by_test (nat_eq last.transactions n) refl
  where
    equal : (m n : ℕ) → nat_eq m n ≡ true → m ≡ n
    equal m n e = grind (arith, nat_tests, e)

    differ : (m n : ℕ) → nat_eq m n ≡ false → m ≢ n
    differ m n e same = grind (arith, nat_tests, e, same)

    by_test : (b : Bool) → nat_eq last.transactions n ≡ b
        → ((l : PreviousAnswer O) × (Some last ≡ Some l) × (l.transactions ≡ n)) ⊎ IfSome (Some last) (λ last. last.transactions ≢ n)
    by_test true e = inl (last, refl, equal _ _ e)
    by_test false e = inr (differ _ _ e)

-- some items of all were taken, and the snapshots at the seals among them were answered
pub record HasAnswered {R B O : Type 0} (remaining : R → Option (List ℕ)) (course : Course O) (text : List ℕ) (recording : RecordingWithin R B)
    (before now : Option (List ℕ)) (answered : Option (PreviousAnswer O)) : Type 0 where
  pub taken : List Item
  pub ahead : Answers
  pub said : List Said
  pub whole : answers_within course.limits text ≡ after_items taken ahead
  pub recorded : IsRecording course.limits remaining recording taken ahead
  pub answers : AreSaid course.is_said (sealed_in taken) said
  pub out : Appends before now (texts said)
  pub last : IsLast course answered taken said

Appends-none : (a : Option (List ℕ)) → Appends a a []
Appends-none None = tt
Appends-none (Some bytes) = sym (append-nil bytes)

-- nothing is taken yet
pub none-answered : {R B O : Type 0} (remaining : R → Option (List ℕ)) (course : Course O) (text : List ℕ) (recording : RecordingWithin R B)
    (before : Option (List ℕ)) → IsRecording course.limits remaining recording [] (answers_within course.limits text)
    → HasAnswered remaining course text recording before before None
none-answered remaining course text recording before is = record {
  taken = [];
  ahead = answers_within course.limits text;
  said = [];
  whole = refl;
  recorded = is;
  answers = (tt, tt);
  out = Appends-none before;
  last = (refl, refl);
}

module _ {R B O : Type 0} (remaining : R → Option (List ℕ)) (course : Course O) (text : List ℕ)
    (old new : RecordingWithin R B) (before now : Option (List ℕ)) (answered : Option (PreviousAnswer O)) (way : HasAnswered remaining course text old before now answered) where
  first-kept : take (length way.taken) (answers_within course.limits text).items ≡ way.taken
  first-kept = first-taken (answers_within course.limits text) way.taken way.ahead way.whole

  -- memory is out before the next answer
  pub wants_memory : (after : Option (List ℕ)) (code : ℕ) → Prints now after (memory_line course.options.json) Memory code → EndsEarly course text before after code
  wants_memory after code prints =
      ended course text before (length way.taken) error.NoMemory way.said now after code tt
      (subst (λ items. AreSaid course.is_said (sealed_in items) way.said) (sym first-kept) way.answers) way.out prints

  -- the texts with one more
  one-more : (one : Said) (after : Option (List ℕ)) → Appends now after one.text → Appends before after (texts (way.said ++ one ∷ []))
  one-more one after out =
      subst (λ t. Appends before after t) (sym (texts-push way.said one)) (Appends-trans before now after (texts way.said) one.text way.out out)

  -- the answers with one more, that of a snapshot
  pushed : (s : Sessions) (one : Said) → course.is_said s one → Repeats course s answered one
      → AreSaid course.is_said (sealed_in way.taken ++ s ∷ []) (way.said ++ one ∷ [])
  pushed s one answer repeats = AreSaid-push (course.is_said) (sealed_in way.taken) way.said s one way.answers answer (same answered way.last repeats)
    where
      same : (o : Option (PreviousAnswer O)) → IsLast course o way.taken way.said → Repeats course s o one
          → (t : Sessions) (other : Said) → last_or None (sealed_in way.taken) ≡ Some t → last_or None way.said ≡ Some other → t ≡ s → other ≡ one
      same None known repeats t other sealed said is = absurd (nothing other (sym (ap (last_or None) known.1) ∙ said))
      same (Some last) known repeats t other sealed said is =
          let at : t ≡ finished_in way.taken = inside _ _ (sym sealed ∙ last-sealed way.taken known.0) in
          let one_said : other ≡ course.say last.outcome = inside _ _ (sym said ∙ known.2) in
          one_said ∙ sym (repeats (known.1.0 ∙ ap transaction_count (sym at ∙ is)))

  -- ---- at a seal

  module _ (at : TakesCheckpoint course.limits remaining way.taken way.ahead (Ok checkpoint.Seal) new) where
    -- all that was taken then, with the seal
    abbrev sealed_past : List Item
    sealed_past = way.taken ++ (at.0 ++ item.Seal ∷ [])

    past-whole : answers_within course.limits text ≡ after_items sealed_past at.1
    past-whole =
        way.whole ∙ ap (after_items way.taken) at.2.1
        ∙ ap (λ items. record { items = items; fault = at.1.fault })
        (sym (append_assoc way.taken (at.0 ++ item.Seal ∷ []) at.1.items ∙ ap (λ items. way.taken ++ items) (append_assoc at.0 (item.Seal ∷ []) at.1.items)))

    -- the snapshots to answer, with the one at the seal
    past-answered : (s : Sessions) (one : Said) → s ≡ finished_in sealed_past → course.is_said s one → Repeats course s answered one
        → AreSaid course.is_said (sealed_in sealed_past) (way.said ++ one ∷ [])
    past-answered s one same answer repeats =
        let now : s ≡ finished_in (way.taken ++ at.0) = same ∙ finished-seal way.taken at.0 in
        subst (λ snapshots. AreSaid course.is_said snapshots (way.said ++ one ∷ [])) (sym (sealed-seal way.taken at.0 at.2.0))
        (subst (λ s. AreSaid course.is_said (sealed_in way.taken ++ s ∷ []) (way.said ++ one ∷ [])) now (pushed s one answer repeats))

    -- where nothing was finished since, what was said last is said of this snapshot, too
    still-seal : (s : Sessions) → s ≡ finished_in sealed_past → IsStill course s answered
    still-seal s same = by answered way.last
      where
        by : (o : Option (PreviousAnswer O)) → IsLast course o way.taken way.said → IsStill course s o
        by None known = tt
        by (Some last) known = λ counted.
            let now : s ≡ finished_in (way.taken ++ at.0) = same ∙ finished-seal way.taken at.0 in
            let still = same-passed way.taken at.0 at.2.0 (sym (ap transaction_count now) ∙ sym counted ∙ known.1.0) in
            subst (λ s. IsTold course s last.outcome) (sym (now ∙ still)) known.1.1

    -- this snapshot has its answer, which is what was said last
    answered-seal : (s : Sessions) (last : PreviousAnswer O) (after : Option (List ℕ)) → s ≡ finished_in sealed_past
        → SaysAgain course s answered now after last → HasAnswered remaining course text new before after (Some last)
    answered-seal s last after same ((is, out), repeats) =
        let one = course.say last.outcome in
        record {
          taken = sealed_past;
          ahead = at.1;
          said = way.said ++ one ∷ [];
          whole = past-whole;
          recorded = at.3;
          answers = past-answered s one same is.1.0 repeats;
          out = one-more one after out;
          last = (due-seal way.taken at.0, subst (λ s. IsFor course s last) same is, last-push None way.said one);
        }

    -- or the run ends in it
    ended-seal : (s : Sessions) (after : Option (List ℕ)) (code : ℕ) → s ≡ finished_in sealed_past → EndsAgain course s answered now after code
        → EndsEarly course text before after code
    ended-seal s after code same (inr memory) = wants_memory after code memory
    ended-seal s after code same (inl (one, answer, repeats, cuts)) =
        cut course text before (length sealed_past) way.said one now after code
        (subst (λ items. AreSaid course.is_said (sealed_in items) (way.said ++ one ∷ []))
        (sym (first-taken (answers_within course.limits text) sealed_past at.1 past-whole)) (past-answered s one same answer repeats)) way.out cuts

  -- ---- at the end

  module _ (at : TakesCheckpoint course.limits remaining way.taken way.ahead (Ok checkpoint.End) new) where
    -- all that was taken
    abbrev all_past : List Item
    all_past = way.taken ++ at.0

    all_taken : (answers_within course.limits text).items ≡ all_past
    all_taken = all-items (answers_within course.limits text) way.taken at.0 (ending None) way.ahead way.whole at.1 ∙ append-nil all_past

    no_fault : (answers_within course.limits text).fault ≡ None
    no_fault = all-fault (answers_within course.limits text) way.taken at.0 (ending None) way.ahead way.whole at.1

    whole-by : (said : List Said) → AreSaid course.is_said (sealed_in way.taken ++ at_end all_past) said → IsWholeCourse course.is_said (answers_within course.limits text) said
    whole-by said answers = (
      no_fault,
      subst (λ items. AreSaid course.is_said (sealed_in items ++ at_end items) said) (sym all_taken)
          (subst (λ snapshots. AreSaid course.is_said (snapshots ++ at_end all_past) said) (sym (sealed-passed way.taken at.0 at.1.0)) answers),
    )

    -- what the records have finished is the snapshot of the recording
    all-finished : new.snapshot ≡ finished_in (answers_within course.limits text).items
    all-finished = at.2.snapshot ∙ ap finished_in (sym all_taken)

    -- an answer is due where the last one was for fewer
    is_due : IfSome answered (λ last. last.transactions ≢ transaction_count (finished_in all_past)) → is_due_after true all_past ≡ true
    is_due other = by answered other way.last
      where
        by : (o : Option (PreviousAnswer O)) → IfSome o (λ last. last.transactions ≢ transaction_count (finished_in all_past)) → IsLast course o way.taken way.said
            → is_due_after true all_past ≡ true
        by None other known = still_due way.taken at.0 at.1.0 known.0
        by (Some last) other known = elim (due-passed way.taken at.0 at.1.0) [
          | inl rise ↦ rise.0
          | inr same ↦ absurd (other (known.1.0 ∙ sym (ap transaction_count same.1)))
        ]

    module _ (s : Sessions) (same : s ≡ finished_in all_past) (other : IfSome answered (λ last. last.transactions ≢ transaction_count s)) where
      due : is_due_after true all_past ≡ true
      due = is_due (subst (λ (s : Sessions). IfSome answered (λ last. last.transactions ≢ transaction_count s)) same other)

      end-answered : (one : Said) → course.is_said s one → IsWholeCourse course.is_said (answers_within course.limits text) (way.said ++ one ∷ [])
      end-answered one answer =
          whole-by (way.said ++ one ∷ [])
          (subst (λ end. AreSaid course.is_said (sealed_in way.taken ++ end) (way.said ++ one ∷ [])) (sym (at_end-due all_past due))
          (subst (λ s. AreSaid course.is_said (sealed_in way.taken ++ s ∷ []) (way.said ++ one ∷ [])) same
          (pushed s one answer (nothing_again course s answered one other))))

      -- the answer is the last text
      end-kept : (after : Option (List ℕ)) (last : PreviousAnswer O) → SaysLast course s now after last → AllAnswered course text before after last
      end-kept after last (is, out) = (
        way.said ++ course.say last.outcome ∷ [],
        end-answered (course.say last.outcome) is.1.0,
        last-push None way.said (course.say last.outcome),
        subst (λ s. course.is_outcome s last.outcome) (same ∙ ap finished_in (sym all_taken)) is.1.1,
        one-more (course.say last.outcome) after out,
      )

      -- or the run ends in it
      end-cut : (after : Option (List ℕ)) (code : ℕ) → EndsAnswering course s now after code → EndsEarly course text before after code
      end-cut after code (inr memory) = wants_memory after code memory
      end-cut after code (inl (one, answer, holds, cuts)) = (
        way.said ++ one ∷ [],
        one,
        inl (end-answered one answer),
        last-push None way.said one,
        inr (
          (
            length (texts way.said) + cuts.0.0,
            subst (λ t. Appends before after (take (length (texts way.said) + cuts.0.0) t)) (sym (texts-push way.said one))
                (Appends-part before now after (texts way.said) one.text cuts.0.0 way.out cuts.0.1),
          ),
          cuts.1,
        ),
      )

    -- nothing was finished since the last answer, which has said all
    said_all : (last : PreviousAnswer O) → answered ≡ Some last → last.transactions ≡ transaction_count (finished_in all_past)
        → AllAnswered course text before now last
    said_all last is counted =
        let known = subst (λ o. IsLast course o way.taken way.said) is way.last in
        let still : (is_due_after true all_past ≡ false) × (finished_in all_past ≡ finished_in way.taken) = elim (due-passed way.taken at.0 at.1.0) [
          | inl rise ↦ absurd (omega (arith, rise.1, known.1.0, counted))
          | inr same ↦ (same.0 ∙ known.0, same.1)
        ] in (
          way.said,
          whole-by way.said (subst (λ end. AreSaid course.is_said (sealed_in way.taken ++ end) way.said) (sym (at_end-none all_past still.0))
              (subst (λ snapshots. AreSaid course.is_said snapshots way.said) (sym (append-nil (sealed_in way.taken))) way.answers)),
          known.2,
          subst (λ s. course.is_outcome s last.outcome) (sym (ap finished_in all_taken ∙ still.1)) known.1.1.1,
          way.out,
        )

    -- what the answer at the end says of the run
    ended-end : (s : Sessions) (after : Option (List ℕ)) (r : Result (PreviousAnswer O) ℕ) → s ≡ finished_in all_past
        → IfSome answered (λ last. last.transactions ≡ transaction_count s → (after ≡ now) × (r ≡ Ok last))
        → (IfSome answered (λ last. last.transactions ≢ transaction_count s)
        → MatchResult r (SaysLast course s now after) (EndsAnswering course s now after))
        → MatchResult r (AllAnswered course text before after) (EndsEarly course text before after)
    ended-end s after r same said due = elim (said_or_due answered (transaction_count s)) [
      | inl known ↦
          again known.0 known.1 known.2
          (subst (λ (o : Option (PreviousAnswer O)). IfSome o (λ last. last.transactions ≡ transaction_count s → (after ≡ now) × (r ≡ Ok last))) known.1 said
          known.2)
      | inr other ↦ fresh other r (due other)
    ]
      where
        again : (last : PreviousAnswer O) → answered ≡ Some last → last.transactions ≡ transaction_count s → (after ≡ now) × (r ≡ Ok last)
            → MatchResult r (AllAnswered course text before after) (EndsEarly course text before after)
        again last is counted sent =
            subst (λ r. MatchResult r (AllAnswered course text before after) (EndsEarly course text before after)) (sym sent.1)
            (subst (λ o. AllAnswered course text before o last) (sym sent.0) (said_all last is (counted ∙ ap transaction_count same)))

        fresh : IfSome answered (λ last. last.transactions ≢ transaction_count s) → (r : Result (PreviousAnswer O) ℕ)
            → MatchResult r (SaysLast course s now after) (EndsAnswering course s now after)
            → MatchResult r (AllAnswered course text before after) (EndsEarly course text before after)
        fresh other (Ok last) is = end-kept s same other after last is
        fresh other (Err code) is = end-cut s same other after code is

  -- ---- at a fault

  module _ (fault : RowFault) (at : TakesCheckpoint course.limits remaining way.taken way.ahead (Err fault) new) where
    no_memory : true ≡ false → ⊥
    no_memory h = cc

    by_error : (n : ℕ) (why : RunError) (items : List Item) (after : Option (List ℕ)) (code : ℕ) → MayEnd course.limits text n why → take n (answers_within course.limits text).items ≡ items
        → sealed_in items ≡ sealed_in way.taken → PrintsOrMemory course.options.json now after (printed_error course.options.json why) (run_error_status why) code
        → EndsEarly course text before after code
    by_error n why items after code may taken none prints =
        ended_or course text before n why way.said now after code may
        (subst (λ snapshots. AreSaid course.is_said snapshots way.said) (sym (ap sealed_in taken ∙ none)) way.answers) way.out prints

    -- the fault of the records, a reader that failed, or `NoMemory`
    stopped : (after : Option (List ℕ)) (code : ℕ) → (fault.kind ≡ kind.Read → FailsBehind course.limits way.taken fault.row (records_within course.limits text))
        → PrintsOrMemory course.options.json now after (printed_error course.options.json (by_row fault)) (run_error_status (by_row fault)) code
        → EndsEarly course text before after code
    stopped after code failed = by_test (is_memory fault.kind) refl
      where
        by_test : (b : Bool) → is_memory fault.kind ≡ b
            → PrintsOrMemory course.options.json now after (printed_error course.options.json (cond b error.NoMemory (error.Row fault)))
            (run_error_status (cond b error.NoMemory (error.Row fault))) code
            → EndsEarly course text before after code
        by_test true e prints = by_error (length way.taken) error.NoMemory way.taken after code tt first-kept refl prints
        by_test false e prints = elim at.3 [
          | inl last ↦
              let items =
              all-items (answers_within course.limits text) way.taken at.0 at.1 way.ahead way.whole at.2
              ∙ ap (λ (rest : Answers). (way.taken ++ at.0) ++ rest.items) last.0 ∙ append-nil (way.taken ++ at.0) in
              by_error (length (answers_within course.limits text).items) (error.Row fault) (way.taken ++ at.0) after code
              (inl (all-fault (answers_within course.limits text) way.taken at.0 at.1 way.ahead way.whole at.2 ∙ ap (λ (rest : Answers). rest.fault) last.0, refl))
              (take-length (answers_within course.limits text).items ∙ items) (sealed-passed way.taken at.0 at.2.0) prints
          | inr fails ↦ elim fails.0 [
            | inl read ↦
                let behind = failed read in
                let before = items_before_within course.limits fault.row (records_within course.limits text) in
                by_error (length before) (error.Row fault) before after code (inr (read, behind.0, refl)) (first-items course.limits fault.row (records_within course.limits text) behind.0.1)
                (ap sealed_in behind.3 ∙ sealed-passed way.taken behind.1 behind.2) prints
            | inr memory ↦ absurd (no_memory (sym (ap is_memory memory) ∙ e))
          ]
        ]

  -- ---- the next checkpoint, as the call says that reads up to it

  module _ (m : Checkpoint)
      (takes : (taken : List Item) (ahead : Answers) → IsRecording course.limits remaining old taken ahead
      → TakesCheckpoint course.limits remaining taken ahead (Ok m) new)
      (s : Sessions) (finished : (taken : List Item) (ahead : Answers) → IsRecording course.limits remaining new taken ahead → s ≡ finished_in taken) where
    comes : (n : Checkpoint) → m ≡ n → TakesCheckpoint course.limits remaining way.taken way.ahead (Ok n) new
    comes n is = subst (λ m. TakesCheckpoint course.limits remaining way.taken way.ahead (Ok m) new) is (takes way.taken way.ahead way.recorded)

    -- at a seal what is to be said of the snapshot is what was said last from then on
    pub says-seal : m ≡ checkpoint.Seal → (last : PreviousAnswer O) (after : Option (List ℕ)) → (IsStill course s answered → SaysAgain course s answered now after last)
        → HasAnswered remaining course text new before after (Some last)
    says-seal is last after says =
        let at = comes checkpoint.Seal is in
        let same = finished (sealed_past at) at.1 at.3 in
        answered-seal at s last after same (says (still-seal at s same))

    -- or the run ends in it
    pub ends-seal : m ≡ checkpoint.Seal → (r : Result (PreviousAnswer O) ℕ) (why : ℕ) (after : Option (List ℕ)) → IsErrAnd r (λ code. code ≡ why)
        → (IsStill course s answered → EndsAgain course s answered now after why)
        → MatchResult r (AllAnswered course text before after) (EndsEarly course text before after)
    ends-seal is r why after gives ends =
        let at = comes checkpoint.Seal is in
        let same = finished (sealed_past at) at.1 at.3 in
        ended_by (AllAnswered course text before after) (EndsEarly course text before after) r why gives
        (ended-seal at s after why same (ends (still-seal at s same)))

    -- what the answer at the end says of the run
    pub says-end : m ≡ checkpoint.End → (after : Option (List ℕ)) (r : Result (PreviousAnswer O) ℕ)
        → IfSome answered (λ last. last.transactions ≡ transaction_count s → (after ≡ now) × (r ≡ Ok last))
        → (IfSome answered (λ last. last.transactions ≢ transaction_count s)
        → MatchResult r (SaysLast course s now after) (EndsAnswering course s now after))
        → MatchResult r (AllAnswered course text before after) (EndsEarly course text before after)
    says-end is after r said due =
        let at = comes checkpoint.End is in
        ended-end at s after r (finished (all_past at) (ending None) at.2) said due

    pub finished-end : m ≡ checkpoint.End → new.snapshot ≡ finished_in (answers_within course.limits text).items
    finished-end is = all-finished (comes checkpoint.End is)

  -- the run ends by a fault
  pub ends-fault : (fault : RowFault) (after : Option (List ℕ)) (code : ℕ)
      → ((taken : List Item) (ahead : Answers) → IsRecording course.limits remaining old taken ahead
      → TakesCheckpoint course.limits remaining taken ahead (Err fault) new)
      → IsWithin remaining old.rows (records_within course.limits text)
      → (fault.kind ≡ kind.Read → (all : List Record) (taken : List Item) (ahead : Answers)
      → answers_to course.limits all ≡ after_items taken ahead → IsWithin remaining old.rows all
      → IsRecording course.limits remaining old taken ahead → FailsBehind course.limits taken fault.row all)
      → PrintsOrMemory course.options.json now after (printed_error course.options.json (by_row fault)) (run_error_status (by_row fault)) code
      → EndsEarly course text before after code
  ends-fault fault after code takes within failed prints =
      stopped fault (takes way.taken way.ahead way.recorded) after code
      (λ read. failed read (records_within course.limits text) way.taken way.ahead way.whole within way.recorded) prints

-- ---- the whole run

-- a file to which nothing goes
pub Gains-none : (file : Contents) → Gains file file []
Gains-none None = refl
Gains-none (Some bytes) = Appends-none bytes

-- memory is out before anything is read
pub nothing_read : {O : Type 0} (course : Course O) (text : List ℕ) (before after : Option (List ℕ)) (code : ℕ)
    → Prints before after (memory_line course.options.json) Memory code → EndsEarly course text before after code
nothing_read course text before after code prints =
    ended course text before 0 error.NoMemory [] before after code tt (tt, tt) (Appends-none before) prints

-- ---- one answer

-- the run ended while it said what is to be said of a snapshot
pub ended_saying : {O : Type 0} (course : Course O) (s : Sessions) (holds : Said → Type 0) (o : O) (before now after : Option (List ℕ)) (why : ℕ)
    → course.is_said s (course.say o) → holds (course.say o) → now ≡ before → EndsIn course.options.json now after (course.say o).text why
    → EndsSaying course s holds before after why
ended_saying course s holds o before now after why is held same ends = by (subst (λ b. EndsIn course.options.json b after (course.say o).text why) same ends)
  where
    by : EndsIn course.options.json before after (course.say o).text why → EndsSaying course s holds before after why
    by (inl cuts) = inl (course.say o, is, held, cuts)
    by (inr memory) = inr memory
