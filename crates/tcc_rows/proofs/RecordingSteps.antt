-- A recording after one more item.
use Rattle.std.proofs.Common.{◌≡◌, ℕ, ◌+◌, ◌≤◌, true, false, List, [], ◌∷◌, ◌++◌, length, refl, sym, ap, subst, ◌∙◌}
use Rattle.std.proofs.Common.{arith, Some, None, Option, Result, Ok, Err, inl, inr, append_assoc, append-nil}
use Rattle.std.proofs.Common.{length-append}
use Rattle.std.specs.Prelude.{◌||◌, IfErr, IsErrAnd, MatchResult, IfSome, is_none, fold}
use Rattle.std.specs.FinMap as map
use Rattle.std.proofs.lemmas.List.Folds.{list_any-append}
use Rattle.std.proofs.lemmas.Option.{none-some}
use Rattle.tcc_rows.specs.Ahead.{IsAhead, IsAheadIn, TakesAnswer, ended_in, fault_in, has_ended}
use Rattle.tcc_rows.specs.Answers.{Answers, after_item, answers_after_within, answers_to, answers_within, ending, records_within, settled, settled_behind}
use Rattle.tcc_rows.specs.Failing.{FailsAtWithin, given_before_within, items_before_within}
use Rattle.tcc_rows.specs.Followed.{IsFollowed}
use Rattle.tcc_txn.specs.Finished.{IsWithinLimits, with_transaction}
use Rattle.tcc_rows.specs.Items.{finished_in, with_item}
use Rattle.tcc_rows.specs.Lines.{Record}
use Rattle.tcc_rows.specs.Reached.{IsWithin, StandsBy, row_in, row_reached}
use Rattle.tcc_rows.specs.Recordings.{FailsBehind, HasSealsBefore, IsAtCheckpoint, IsRecorded, IsRecording, Passes, TakesCheckpoint, after_items, has_seal, is_seal, seals_in}
use Rattle.tcc_rows.specs.Settling.{Pending, seen_among, shown, told, unseen_among, with_shown}
use Rattle.tcc_rows.specs.private.Waiting.{AddsSome, IsUnderWay, IsUnsettled, PassesItems, given_at}
use Rattle.tcc_txn.specs.Snapshots.{Sessions}
use Rattle.tcc_txn.specs.Transactions.{Transaction}
use Rattle.tcc_txn.specs.declared.limits.Limits.{Limits}
use Rattle.tcc_rows.specs.declared.recording.Checkpoint.{Checkpoint}
use Rattle.tcc_rows.specs.declared.recording.Checkpoint.TheVariants as checkpoint
use Rattle.tcc_rows.specs.declared.recording.RecordingWithin.{RecordingWithin}
use Rattle.tcc_rows.specs.declared.rows.Item.{Item}
use Rattle.tcc_rows.specs.declared.rows.Item.TheVariants as item
use Rattle.tcc_rows.specs.declared.rows.RowsStage.{RowsStage}
use Rattle.tcc_rows.specs.declared.rows.RowsStage.TheVariants as stage
use Rattle.tcc_rows.specs.declared.fault.RowFault.{RowFault}
use Rattle.tcc_rows.specs.declared.fault.RowFaultKind.TheVariants as kind
use Rattle.tcc_rows.specs.declared.rows.records.RecordsStage.{RecordsStage}
use Rattle.tcc_rows.specs.declared.rows.records.RecordsStage.TheVariants as records_stage
use Rattle.tcc_rows.proofs.FailingFacts.{items-before}
use Rattle.tcc_rows.proofs.FinishedFacts.{finished_in-append, finished_in-push, fold-append, limits-before, within-before}
use Rattle.tcc_rows.proofs.Settled.{as-taken, seals-append, seals-settled, told-unsealed, unsealed-none}
use Rattle.tcc_rows.specs.declared.rows.Rows.{Rows}

-- some items were passed since these were taken, and others are still to come
abbrev pub HasPassed : {R B : Type 0} → Limits → (R → Option (List ℕ)) → RecordingWithin R B → List Item → Answers → Type 0
HasPassed limits remaining recording taken ahead =
    (passed : List Item) × (rest : Answers) × Passes ahead passed rest × IsUnderWay limits remaining recording (taken ++ passed) rest

-- some items of all were taken, and others are still to come
abbrev pub HasTaken : {R B : Type 0} → Limits → (R → Option (List ℕ)) → RecordingWithin R B → Answers → Type 0
HasTaken limits remaining recording all = (taken : List Item) × (ahead : Answers) × (all ≡ after_items taken ahead) × IsRecording limits remaining recording taken ahead

-- what is kept of the values of pending transactions is right
abbrev pub HasFollowed : {R B : Type 0} → RecordingWithin R B → Type 0
HasFollowed recording = IsFollowed recording.snapshot recording.pending.items recording.values

-- that is also so where nothing is kept
pub follows-unknown : {R B : Type 0} (recording : RecordingWithin R B) → recording.values ≡ None → HasFollowed recording
follows-unknown recording none = rw none tt

-- one more transaction is finished, and those that are pending stay so
pub follows-taken : {R B : Type 0} (old new : RecordingWithin R B) → new.pending ≡ old.pending
    → ((pending : Pending) → IsFollowed old.snapshot pending old.values → IsFollowed new.snapshot pending new.values)
    → HasFollowed old → HasFollowed new
follows-taken old new same taken before = subst (λ pending. IsFollowed new.snapshot pending.items new.values) (sym same) (taken old.pending.items before)

pub no-reading : (fault : RowFault) → stage.Stopped fault ≡ stage.Reading → ⊥
no-reading fault e = cc e

pub not-ok : (fault : RowFault) → ◌≡◌ {A = Result Item RowFault} (Err fault) (Ok item.End) → ⊥
not-ok fault e = cc e

pub met-stopped : (p : RowsStage) (fault : RowFault) → fault_in p ≡ Some fault → p ≡ stage.Stopped fault
met-stopped stage.Reading fault e = cc e
met-stopped stage.Ended fault e = cc e
met-stopped (stage.Stopped met) fault e = cc e

-- if neither a fault nor the end was reached, there may be more records
pub at-checkpoint : {X : Type 0} (p : RowsStage) → (p ≡ stage.Reading → X) → fault_in p ≡ None → (ended_in p ≡ true → ⊥) → X
at-checkpoint stage.Reading is fresh going = is refl
at-checkpoint stage.Ended is fresh going = absurd (going refl)
at-checkpoint (stage.Stopped fault) is fresh going = absurd (none-some fault (sym fresh))

pub no-end-stopped : (fault : RowFault) → ended_in (stage.Stopped fault) ≡ true → ⊥
no-end-stopped fault e = cc e

ended-reading : (p : RowsStage) → ended_in p ≡ true → p ≡ stage.Reading → ⊥
ended-reading stage.Reading e is = cc
ended-reading stage.Ended e is = cc is
ended-reading (stage.Stopped fault) e is = cc e

module _ (limits : Limits) where
  limits-of : (xs ys : List Item) → xs ≡ ys → IsWithinLimits limits (finished_in xs) → IsWithinLimits limits (finished_in ys)
  limits-of xs ys same kept = subst (λ items. IsWithinLimits limits (finished_in items)) same kept

  module _ {R : Type 0} (remaining : R → Option (List ℕ)) where
    -- nothing is taken yet
    pub begins : {B : Type 0} (recording : RecordingWithin R B) (given : Answers) → IsAhead limits remaining recording.rows given → recording.snapshot ≡ map.empty
        → recording.pending.items ≡ [] → IsWithinLimits limits (finished_in (settled given).items) → HasFollowed recording
        → IsRecording limits remaining recording [] (settled given)
    begins recording given ahead none nothing kept followed = record {
      given = given;
      answers = ahead;
      settles = λ i. settled_behind (sym none i) (sym nothing i) given;
      snapshot = none;
      limits_kept = kept;
      checkpoint = λ reading. inl refl;
      closed = λ ended. nothing;
      followed = followed;
    }

    -- at a checkpoint or after it
    pub under-way : {B : Type 0} (recording : RecordingWithin R B) (taken : List Item) (ahead : Answers) → IsRecording limits remaining recording taken ahead
        → IsUnderWay limits remaining recording taken ahead
    under-way recording taken ahead is =
        record { given = is.given; answers = is.answers; settles = is.settles; snapshot = is.snapshot; followed = is.followed; limits_kept = is.limits_kept }

    -- nothing more is taken
    stays : {B : Type 0} (old new : RecordingWithin R B) (taken : List Item) (rest : Answers) (fault : RowFault) → IsUnderWay limits remaining old taken rest
        → IsAhead limits remaining new.rows (ending (Some fault)) → new.snapshot ≡ old.snapshot → new.rows.stage ≡ stage.Stopped fault
        → HasFollowed new → IsRecording limits remaining new taken (ending (Some fault))
    stays old new taken rest fault recording ahead same stopped followed = record {
      given = ending (Some fault);
      answers = ahead;
      settles = refl;
      snapshot = same ∙ recording.snapshot;
      limits_kept = limits-of taken (taken ++ []) (sym (append-nil taken)) (limits-before limits taken rest.items recording.limits_kept);
      checkpoint = λ reading. absurd (no-reading fault (sym stopped ∙ reading));
      closed = λ ended. absurd (no-end-stopped fault (ap ended_in (sym stopped) ∙ ended));
      followed = followed;
    }

    -- one more item is passed
    passes : (ahead : Answers) (passed : List Item) (x : Item) (rest rest' : Answers) → Passes ahead passed rest → is_seal x ≡ false
        → rest ≡ after_item (Some x) rest'
        → Passes ahead (passed ++ x ∷ []) rest'
    passes ahead passed x rest rest' before unsealed is = (
      list_any-append is_seal passed (x ∷ []) ∙ none before.0 unsealed,
      before.1 ∙ ap (after_items passed) is ∙ ap (λ items. record { items = items; fault = rest'.fault }) (sym (append_assoc passed (x ∷ []) rest'.items)),
    )
      where
        none : has_seal passed ≡ false → is_seal x ≡ false → (has_seal passed || (is_seal x || false)) ≡ false
        none a b = rw (a, b) refl

  -- nothing is passed yet
  pub not-begun : {R B : Type 0} (remaining : R → Option (List ℕ)) (taken : List Item) (ahead : Answers) (recording : RecordingWithin R B)
      → IsRecording limits remaining recording taken ahead
      → HasPassed limits remaining recording taken ahead
  not-begun remaining taken ahead recording is =
      ([], ahead, (refl, refl), subst (λ items. IsUnderWay limits remaining recording items ahead) (sym (append-nil taken)) (under-way remaining recording taken ahead is))

  module _ {R B : Type 0} (remaining : R → Option (List ℕ)) (taken : List Item) (ahead : Answers) (old new : RecordingWithin R B)
      (way : HasPassed limits remaining old taken ahead) where
    -- the session has finished one more transaction
    pub goes_on : (session : List ℕ) (txn : Transaction) → TakesAnswer limits remaining way.3.given (Ok (item.Finished session txn)) new.rows
        → new.snapshot ≡ with_transaction old.snapshot session txn → new.pending.items ≡ old.pending.items → HasFollowed new
        → HasPassed limits remaining new taken ahead
    goes_on session txn answer grown waiting followed =
        let next = settled_behind new.snapshot new.pending.items answer.0 in
        let first : way.1 ≡ after_item (Some (item.Finished session txn)) next =
        way.3.settles ∙ ap (settled_behind old.snapshot old.pending.items) answer.1
        ∙ (λ i. after_item (Some (item.Finished session txn)) (settled_behind (sym grown i) (sym waiting i) answer.0)) in (
          way.0 ++ item.Finished session txn ∷ [],
          next,
          passes remaining ahead way.0 (item.Finished session txn) way.1 next way.2 refl first,
          record {
            given = answer.0;
            answers = answer.2;
            settles = refl;
            snapshot = grown ∙ ap (λ s. with_transaction s session txn) way.3.snapshot ∙ sym (finished_in-push (taken ++ way.0) (item.Finished session txn))
                ∙ ap finished_in (append_assoc taken way.0 (item.Finished session txn ∷ []));
            followed = followed;
            limits_kept = limits-of ((taken ++ way.0) ++ way.1.items) ((taken ++ (way.0 ++ item.Finished session txn ∷ [])) ++ next.items)
                (ap (λ (rest : Answers). (taken ++ way.0) ++ rest.items) first ∙ sym (append_assoc (taken ++ way.0) (item.Finished session txn ∷ []) next.items)
                ∙ ap (λ items. items ++ next.items) (append_assoc taken way.0 (item.Finished session txn ∷ []))) way.3.limits_kept;
          },
        )

    -- the outcome of a transaction of the session is unknown
    pub waits : (session : List ℕ) (txn : Transaction) → TakesAnswer limits remaining way.3.given (Ok (item.Unknown session txn)) new.rows
        → new.snapshot ≡ old.snapshot → new.pending.items ≡ old.pending.items ++ (session, txn) ∷ [] → HasFollowed new
        → HasPassed limits remaining new taken ahead
    waits session txn answer same waiting followed = (
      way.0,
      way.1,
      way.2,
      record {
        given = answer.0;
        answers = answer.2;
        settles = way.3.settles ∙ ap (settled_behind old.snapshot old.pending.items) answer.1 ∙ (λ i. settled_behind (sym same i) (sym waiting i) answer.0);
        snapshot = same ∙ way.3.snapshot;
        followed = followed;
        limits_kept = way.3.limits_kept;
      },
    )

    -- the snapshot with it keeps the limits
    pub has-room : (session : List ℕ) (txn : Transaction) (rows : Rows R) → TakesAnswer limits remaining way.3.given (Ok (item.Finished session txn)) rows
        → IsWithinLimits limits (with_transaction old.snapshot session txn)
    has-room session txn rows answer =
        let last : Item = item.Finished session txn in
        let next = settled_behind (with_transaction old.snapshot session txn) old.pending.items answer.0 in
        let first : way.1 ≡ after_item (Some last) next = way.3.settles ∙ ap (settled_behind old.snapshot old.pending.items) answer.1 in
        let kept = limits-of ((taken ++ way.0) ++ way.1.items) (((taken ++ way.0) ++ last ∷ []) ++ next.items)
        (ap (λ (rest : Answers). (taken ++ way.0) ++ rest.items) first ∙ sym (append_assoc (taken ++ way.0) (last ∷ []) next.items)) way.3.limits_kept in
        subst (IsWithinLimits limits) (finished_in-push (taken ++ way.0) last ∙ ap (λ s. with_item s last) (sym way.3.snapshot))
        (limits-before limits ((taken ++ way.0) ++ last ∷ []) next.items kept)

    whole-kept : IsWithinLimits limits (finished_in (taken ++ ahead.items))
    whole-kept =
        limits-of ((taken ++ way.0) ++ way.1.items) (taken ++ ahead.items)
        (append_assoc taken way.0 way.1.items ∙ ap (λ items. taken ++ items) (sym (ap (λ (a : Answers). a.items) way.2.1))) way.3.limits_kept

    -- the rows have come to a seal, or to the end
    pub comes_to_seal : TakesAnswer limits remaining way.3.given (Ok item.Seal) new.rows → new.snapshot ≡ old.snapshot → new.pending.items ≡ old.pending.items
        → HasFollowed new → PassesItems limits remaining taken ahead (Ok checkpoint.Seal) new
    comes_to_seal answer same waiting followed = record {
      passed = way.0;
      given = answer.0;
      passes = (
        way.2.0,
        way.2.1 ∙ ap (after_items way.0) (way.3.settles ∙ ap (settled_behind old.snapshot old.pending.items) answer.1
            ∙ (λ i. settled_behind (sym same i) (sym waiting i) (after_item (Some item.Seal) answer.0))),
      );
      answers = answer.2;
      last = λ e. cc e;
      snapshot = same ∙ way.3.snapshot;
      followed = followed;
      limits_kept = whole-kept;
    }

    pub comes_to_end : TakesAnswer limits remaining way.3.given (Ok item.End) new.rows → new.snapshot ≡ old.snapshot → new.pending.items ≡ old.pending.items
        → HasFollowed new → PassesItems limits remaining taken ahead (Ok checkpoint.End) new
    comes_to_end answer same waiting followed = record {
      passed = way.0;
      given = ending None;
      passes = (
        way.2.0,
        way.2.1 ∙ ap (after_items way.0) (way.3.settles ∙ ap (settled_behind old.snapshot old.pending.items) answer.0
            ∙ (λ i. settled_behind (sym same i) (sym waiting i) (ending None))),
      );
      answers = answer.1;
      last = λ e. refl;
      snapshot = same ∙ way.3.snapshot;
      followed = followed;
      limits_kept = whole-kept;
    }

    pub stops : (fault : RowFault) → TakesAnswer limits remaining way.3.given (Err fault) new.rows → new.snapshot ≡ old.snapshot → new.rows.stage ≡ stage.Stopped fault
        → HasFollowed new → TakesCheckpoint limits remaining taken ahead (Err fault) new
    stops fault answer same stopped followed = (
      way.0,
      way.1,
      way.2,
      elim answer.0 [
        | inl faulty ↦ inl (
          way.3.settles ∙ ap (settled_behind old.snapshot old.pending.items) faulty,
          stays remaining old new (taken ++ way.0) way.1 fault way.3 answer.1 same stopped followed,
        )
        | inr fails ↦ inr (fails.0, way.0, [], sym (append-nil way.0), stays remaining old new (taken ++ way.0) way.1 fault way.3 answer.1 same stopped followed)
      ],
    )

    -- memory is refused
    pub gives_up : (fault : RowFault) → fault.kind ≡ kind.NoMemory → new.rows.stage ≡ stage.Stopped fault → new.snapshot ≡ old.snapshot
        → HasFollowed new → TakesCheckpoint limits remaining taken ahead (Err fault) new
    gives_up fault memory stopped same followed = (
      way.0,
      way.1,
      way.2,
      inr (
        inr memory,
        way.0,
        [],
        sym (append-nil way.0),
        stays remaining old new (taken ++ way.0) way.1 fault way.3
            (rw stopped refl) same stopped followed,
      ),
    )

    -- memory is refused for one more transaction
    pub loses_one : (session : List ℕ) (txn : Transaction) (rows : Rows R) (fault : RowFault) → TakesAnswer limits remaining way.3.given (Ok (item.Finished session txn)) rows
        → fault.kind ≡ kind.NoMemory → new.rows.stage ≡ stage.Stopped fault → new.snapshot ≡ old.snapshot → HasFollowed new
        → TakesCheckpoint limits remaining taken ahead (Err fault) new
    loses_one session txn rows fault answer memory stopped same followed =
        let next = settled_behind (with_transaction old.snapshot session txn) old.pending.items answer.0 in
        let first : way.1 ≡ after_item (Some (item.Finished session txn)) next = way.3.settles ∙ ap (settled_behind old.snapshot old.pending.items) answer.1 in (
          way.0 ++ item.Finished session txn ∷ [],
          next,
          passes remaining ahead way.0 (item.Finished session txn) way.1 next way.2 refl first,
          inr (inr memory, way.0, item.Finished session txn ∷ [], refl, stays remaining old new (taken ++ way.0) way.1 fault way.3 (rw stopped refl) same stopped followed),
        )

    -- the reading of one more record fails
    pub fails-behind : (row : ℕ) (all : List Record) → IsAtCheckpoint taken → answers_to limits all ≡ after_items taken ahead
        → ((answers_after_within limits [] all).fault ≡ way.3.given.fault → FailsAtWithin limits row all × HasSealsBefore limits row all way.3.given)
        → FailsBehind limits taken row all
    fails-behind row all checkpoint answers next =
        let rest : ahead ≡ after_items way.0 (settled_behind old.snapshot old.pending.items way.3.given) = way.2.1 ∙ ap (after_items way.0) way.3.settles in
        let fault : (answers_after_within limits [] all).fault ≡ way.3.given.fault = ap (λ (a : Answers). a.fault) (answers ∙ ap (after_items taken) rest) in
        let at = next fault in
        let (more, before) = items-before limits row all at.0.1 in
        let items : taken ++ ahead.items ≡ items_before_within limits row all ++ more = sym (ap (λ (a : Answers). a.items) answers) ∙ before in
        let ends = is_none (answers_after_within limits [] all).fault in
        let seals_all : seals_in (taken ++ ahead.items) ≡ seals_in (given_before_within limits row all) ++ seals_in way.3.given.items
        = ap seals_in (sym (ap (λ (a : Answers). a.items) answers)) ∙ seals-settled ends (answers_after_within limits [] all).items map.empty [] ∙ at.1 in
        let seals_before : seals_in (items_before_within limits row all) ≡ seals_in (given_before_within limits row all)
        = seals-settled false (given_before_within limits row all) map.empty [] in
        let seals_ahead : seals_in ahead.items ≡ seals_in way.3.given.items
        = ap (λ (a : Answers). seals_in a.items) rest ∙ seals-append way.0 _ ∙ ap (λ items. items ++ seals_in (settled_behind old.snapshot old.pending.items way.3.given).items) (unsealed-none way.0 way.2.0)
        ∙ seals-settled (is_none way.3.given.fault) way.3.given.items old.snapshot old.pending.items in
        let many : length (seals_in taken) ≡ length (seals_in (items_before_within limits row all))
        = omega (
          arith,
          ap length seals_all,
          ap length (seals-append taken ahead.items),
          length-append (seals_in taken) (seals_in ahead.items),
          ap length seals_ahead,
          length-append (seals_in (given_before_within limits row all)) (seals_in way.3.given.items),
          ap length seals_before,
        ) in
        let (passed, unsealed, is) = as-taken taken (items_before_within limits row all) ahead.items more checkpoint items many in
        (at.0, passed, unsealed, is)

  -- ---- at a checkpoint, where nothing is settled yet

  module _ {R B : Type 0} (remaining : R → Option (List ℕ)) (taken : List Item) (ahead : Answers) (m : Checkpoint) (old new : RecordingWithin R B)
      (way : IsUnsettled limits remaining taken ahead m old) where
    abbrev now : List Item
    now = shown old.snapshot old.pending.items

    -- what comes after those of which a value was read
    abbrev behind_now : Checkpoint → Answers
    behind_now checkpoint.Seal =
        after_items (item.Seal ∷ []) (settled_behind (with_shown old.snapshot old.pending.items) (unseen_among old.snapshot old.pending.items) way.given)
    behind_now checkpoint.End = ending None

    split-at : (at : Checkpoint) → settled_behind old.snapshot old.pending.items (given_at at way.given) ≡ after_items now (behind_now at)
    split-at checkpoint.Seal = refl
    split-at checkpoint.End = ap (λ items. record { items = items; fault = None }) (sym (append-nil now))

    ahead-now : ahead ≡ after_items (way.passed ++ now) (behind_now m)
    ahead-now =
        way.passes.1 ∙ ap (after_items way.passed) (split-at m)
        ∙ ap (λ items. record { items = items; fault = (behind_now m).fault }) (sym (append_assoc way.passed now (behind_now m).items))

    unsealed-now : has_seal (way.passed ++ now) ≡ false
    unsealed-now = list_any-append is_seal way.passed now ∙ neither way.passes.0 (told-unsealed (seen_among old.snapshot old.pending.items))
      where
        neither : has_seal way.passed ≡ false → has_seal now ≡ false → (has_seal way.passed || has_seal now) ≡ false
        neither a b = rw (a, b) refl

    -- what is finished with some of them
    with-some : (kept : List Item) → fold with_item old.snapshot kept ≡ finished_in (taken ++ (way.passed ++ kept))
    with-some kept =
        ap (λ s. fold with_item s kept) way.snapshot ∙ sym (finished_in-append (taken ++ way.passed) kept) ∙ ap finished_in (append_assoc taken way.passed kept)

    limits-now : (kept lost : List Item) → now ≡ kept ++ lost → IsWithinLimits limits (finished_in (taken ++ (way.passed ++ kept)))
    limits-now kept lost is =
        limits-before limits (taken ++ (way.passed ++ kept)) (lost ++ (behind_now m).items)
        (limits-of (taken ++ ahead.items) ((taken ++ (way.passed ++ kept)) ++ (lost ++ (behind_now m).items))
        (ap (λ (a : Answers). taken ++ a.items) ahead-now ∙ ap (λ items. taken ++ ((way.passed ++ items) ++ (behind_now m).items)) is
        ∙ ap (λ items. taken ++ items) (append_assoc way.passed (kept ++ lost) (behind_now m).items
        ∙ ap (λ items. way.passed ++ items) (append_assoc kept lost (behind_now m).items) ∙ sym (append_assoc way.passed kept (lost ++ (behind_now m).items)))
        ∙ sym (append_assoc taken (way.passed ++ kept) (lost ++ (behind_now m).items)))
        way.limits_kept)

    pub room-now : IsWithinLimits limits (with_shown old.snapshot old.pending.items)
    room-now = subst (IsWithinLimits limits) (sym (with-some now)) (limits-now now [] (sym (append-nil now)))

    -- memory is refused for one of them
    pub loses_shown : (fault : RowFault) → fault.kind ≡ kind.NoMemory → new.rows.stage ≡ stage.Stopped fault → AddsSome old.snapshot now new.snapshot
        → HasFollowed new → TakesCheckpoint limits remaining taken ahead (Err fault) new
    loses_shown fault memory stopped (kept, lost, is, grown) followed = (
      way.passed ++ now,
      behind_now m,
      (unsealed-now, ahead-now),
      inr (
        inr memory,
        way.passed ++ kept,
        lost,
        ap (λ items. way.passed ++ items) is ∙ sym (append_assoc way.passed kept lost),
        record {
          given = ending (Some fault);
          answers = rw stopped refl;
          settles = refl;
          snapshot = grown ∙ with-some kept;
          limits_kept = limits-of (taken ++ (way.passed ++ kept)) ((taken ++ (way.passed ++ kept)) ++ []) (sym (append-nil (taken ++ (way.passed ++ kept)))) (limits-now kept lost is);
          checkpoint = λ reading. absurd (no-reading fault (sym stopped ∙ reading));
          closed = λ ended. absurd (no-end-stopped fault (ap ended_in (sym stopped) ∙ ended));
          followed = followed;
        },
      ),
    )

    module _ (grown : new.snapshot ≡ with_shown old.snapshot old.pending.items) (kept : new.rows ≡ old.rows) where
      ahead-kept : IsAhead limits remaining new.rows way.given
      ahead-kept = subst (λ rows. IsAhead limits remaining rows way.given) (sym kept) way.answers

      -- at a seal
      pub settled-seal : m ≡ checkpoint.Seal → new.pending.items ≡ unseen_among old.snapshot old.pending.items → new.rows.stage ≡ stage.Reading
          → HasFollowed new → TakesCheckpoint limits remaining taken ahead (Ok checkpoint.Seal) new
      settled-seal at left reading followed =
          let rest = settled_behind new.snapshot new.pending.items way.given in
          let last : behind_now m ≡ after_items (item.Seal ∷ []) rest
          = ap behind_now at ∙ (λ i. after_items (item.Seal ∷ []) (settled_behind (sym grown i) (sym left i) way.given)) in
          let whole : ahead ≡ after_items (way.passed ++ now) (after_items (item.Seal ∷ []) rest) = ahead-now ∙ ap (after_items (way.passed ++ now)) last in
          let all = taken ++ ((way.passed ++ now) ++ item.Seal ∷ []) in
          let pushed : (taken ++ (way.passed ++ now)) ++ item.Seal ∷ [] ≡ all = append_assoc taken (way.passed ++ now) (item.Seal ∷ []) in (
            way.passed ++ now,
            rest,
            (unsealed-now, whole),
            record {
              given = way.given;
              answers = ahead-kept;
              settles = refl;
              snapshot = grown ∙ with-some now ∙ sym (finished_in-push (taken ++ (way.passed ++ now)) item.Seal) ∙ ap finished_in pushed;
              limits_kept = limits-of (taken ++ ahead.items) (all ++ rest.items)
                  (ap (λ (a : Answers). taken ++ a.items) whole ∙ ap (λ items. taken ++ items) (sym (append_assoc (way.passed ++ now) (item.Seal ∷ []) rest.items))
                  ∙ sym (append_assoc taken ((way.passed ++ now) ++ item.Seal ∷ []) rest.items)) way.limits_kept;
              checkpoint = λ _. inr (taken ++ (way.passed ++ now), sym pushed);
              closed = λ ended. absurd (ended-reading new.rows.stage ended reading);
              followed = followed;
            },
          )

      -- at the end
      pub settled-end : m ≡ checkpoint.End → new.pending.items ≡ [] → has_ended new.rows ≡ true → HasFollowed new
          → TakesCheckpoint limits remaining taken ahead (Ok checkpoint.End) new
      settled-end at none ended followed = (
        way.passed ++ now,
        (unsealed-now, ahead-now ∙ ap (λ n. after_items (way.passed ++ now) (behind_now n)) at),
        record {
          given = ending None;
          answers = subst (IsAhead limits remaining new.rows) (way.last at) ahead-kept;
          settles = λ i. settled_behind new.snapshot (sym none i) (ending None);
          snapshot = grown ∙ with-some now;
          limits_kept = limits-of (taken ++ (way.passed ++ now)) ((taken ++ (way.passed ++ now)) ++ []) (sym (append-nil (taken ++ (way.passed ++ now))))
              (limits-now now [] (sym (append-nil now)));
          checkpoint = λ reading. absurd (ended-reading new.rows.stage ended reading);
          closed = λ _. none;
          followed = followed;
        },
      )

  -- after the end there is the end
  pub ended-before : {R B : Type 0} (remaining : R → Option (List ℕ)) (taken : List Item) (ahead : Answers) (recording : RecordingWithin R B)
      → IsRecording limits remaining recording taken ahead → has_ended recording.rows ≡ true → TakesCheckpoint limits remaining taken ahead (Ok checkpoint.End) recording
  ended-before remaining taken ahead recording is ended =
      let none : is.given ≡ ending None = by recording.rows.stage ended is.answers in
      let last : ahead ≡ ending None = is.settles ∙ (λ i. settled_behind recording.snapshot (is.closed ended i) (none i)) in (
        [],
        (refl, last),
        record {
          given = is.given;
          answers = is.answers;
          settles = sym last ∙ is.settles;
          snapshot = is.snapshot ∙ ap finished_in (sym (append-nil taken));
          limits_kept = limits-of (taken ++ ahead.items) ((taken ++ []) ++ [])
              (ap (λ (a : Answers). taken ++ a.items) last ∙ ap (λ items. items ++ []) (sym (append-nil taken))) is.limits_kept;
          checkpoint = λ reading. absurd (ended-reading recording.rows.stage ended reading);
          closed = is.closed;
          followed = is.followed;
        },
      )
    where
      by : (p : RowsStage) → ended_in p ≡ true → IsAheadIn limits p remaining recording.rows is.given → is.given ≡ ending None
      by stage.Reading e at = cc e
      by stage.Ended e at = at
      by (stage.Stopped fault) e at = cc e

  -- one of several is added, as the first of those that are left
  pub adds-one : (s : Sessions) (all rest more kept : List Item) (x : List ℕ × Transaction) → all ≡ kept ++ rest → rest ≡ told x ∷ more
      → (all ≡ (kept ++ told x ∷ []) ++ more) × (with_transaction (fold with_item s kept) x.0 x.1 ≡ fold with_item s (kept ++ told x ∷ []))
  adds-one s all rest more kept x whole first =
      (whole ∙ ap (λ items. kept ++ items) first ∙ sym (append_assoc kept (told x ∷ []) more), sym (fold-append with_item s kept (told x ∷ [])))

  pub room-one : (s : Sessions) (all rest more kept : List Item) (x : List ℕ × Transaction) → all ≡ kept ++ rest → rest ≡ told x ∷ more
      → IsWithinLimits limits (fold with_item s all) → IsWithinLimits limits (with_transaction (fold with_item s kept) x.0 x.1)
  room-one s all rest more kept x whole first kept_limits =
      let (is, one) = adds-one s all rest more kept x whole first in
      subst (IsWithinLimits limits) (sym one)
      (within-before limits (fold with_item s (kept ++ told x ∷ [])) more
      (subst (IsWithinLimits limits) (ap (fold with_item s) is ∙ fold-append with_item s (kept ++ told x ∷ []) more) kept_limits))

  -- what holds for a fault that is passed on
  pub if-err-of : {A : Type 0} (P : RowFault → Type 0) (r : Result A RowFault) (fault : RowFault) → IsErrAnd r (λ why. why ≡ fault) → P fault → IfErr r P
  if-err-of P (Ok _) fault is p = tt
  if-err-of P (Err why) fault is p = subst P (sym is) p

  -- the records that were read are some of all
  pub count-within : {R : Type 0} (remaining : R → Option (List ℕ)) (rows : Rows R) (all : List Record) → IsWithin remaining rows all
      → rows.records.count ≤ length all
  count-within remaining rows all within = by rows.stage within
    where
      by : (p : RowsStage) → StandsBy p remaining rows.records all → rows.records.count ≤ length all
      by stage.Reading stands = omega (arith, stands.counted, ap length stands.whole, length-append stands.first stands.left)
      by stage.Ended stands = omega (arith, stands)
      by (stage.Stopped fault) stands = stands

  pub row-within : {R : Type 0} (remaining : R → Option (List ℕ)) (rows : Rows R) (all : List Record) → IsWithin remaining rows all
      → row_reached rows ≤ length all + 1
  row-within remaining rows all within = by rows.records.stage
    where
      by : (c : RecordsStage) → row_in c rows.records.count ≤ length all + 1
      by records_stage.Going = omega (arith, count-within remaining rows all within)
      by records_stage.Ended = omega (arith, count-within remaining rows all within)
      by records_stage.Failed = omega (arith, count-within remaining rows all within)

  -- a fault that is passed on
  pub err-of : {A : Type 0} (r : Result A RowFault) (fault : RowFault) → IsErrAnd r (λ why. why ≡ fault) → r ≡ Err fault
  err-of (Ok _) fault is = absurd is
  err-of (Err why) fault is = ap Err is

  -- what a recording that gave up says of the records
  pub within-stopped : {R : Type 0} (remaining : R → Option (List ℕ)) (old new : Rows R) (fault : RowFault) (all : List Record)
      → new ≡ record old { stage = stage.Stopped fault }
      → IsWithin remaining old all → IsWithin remaining new all
  within-stopped remaining old new fault all stopped within = rw stopped (count-within remaining old all within)

  -- what stays after a fault and after the end
  pub met-itself : (o : Option RowFault) → IfSome o (λ fault. o ≡ Some fault)
  met-itself None = tt
  met-itself (Some fault) = refl

  pub never-stopped : (first now : Option RowFault) (given : Item) (next : Option RowFault) → IfSome first (λ fault. now ≡ Some fault)
      → IfSome now (λ fault. ◌≡◌ {A = Result Item RowFault} (Ok given) (Err fault)) → IfSome first (λ fault. next ≡ Some fault)
  never-stopped None now given next same stays = tt
  never-stopped (Some fault) None given next same stays = absurd (none-some fault same)
  never-stopped (Some fault) (Some met) given next same stays = cc

  pub not-end : (given : Item) (session : List ℕ) (txn : Transaction) → ◌≡◌ {A = Result Item RowFault} (Ok given) (Ok item.End)
      → given ≡ item.Finished session txn → ⊥
  not-end given session txn end is = apart (ok-of end)
    where
      ok-of : ◌≡◌ {A = Result Item RowFault} (Ok given) (Ok item.End) → given ≡ item.End
      ok-of e = cc

      apart : given ≡ item.End → ⊥
      apart e = cc

  pub not-end-unknown : (given : Item) (session : List ℕ) (txn : Transaction) → ◌≡◌ {A = Result Item RowFault} (Ok given) (Ok item.End)
      → given ≡ item.Unknown session txn → ⊥
  not-end-unknown given session txn end is = apart (ok-of end)
    where
      ok-of : ◌≡◌ {A = Result Item RowFault} (Ok given) (Ok item.End) → given ≡ item.End
      ok-of e = cc

      apart : given ≡ item.End → ⊥
      apart e = cc

  module _ {R B : Type 0} (remaining : R → Option (List ℕ)) (text : List ℕ) (old new : RecordingWithin R B) (way : HasTaken limits remaining old (answers_within limits text)) where
    -- a seal is passed
    pub passes_seal : TakesCheckpoint limits remaining way.0 way.1 (Ok checkpoint.Seal) new → HasTaken limits remaining new (answers_within limits text)
    passes_seal at = (
      way.0 ++ (at.0 ++ item.Seal ∷ []),
      at.1,
      way.2 ∙ ap (after_items way.0) at.2.1
          ∙ ap (λ items. record { items = items; fault = at.1.fault })
          (sym (append_assoc way.0 (at.0 ++ item.Seal ∷ []) at.1.items ∙ ap (λ items. way.0 ++ items) (append_assoc at.0 (item.Seal ∷ []) at.1.items))),
      at.3,
    )

    -- all items are taken
    pub ends : TakesCheckpoint limits remaining way.0 way.1 (Ok checkpoint.End) new → IsRecorded limits text (Ok new.snapshot)
    ends at =
        let whole = way.2 ∙ ap (after_items way.0) at.1.1 in (
          ap (λ (all : Answers). all.fault) whole,
          at.2.snapshot ∙ ap finished_in (sym (ap (λ (all : Answers). all.items) whole ∙ ap (λ items. way.0 ++ items) (append-nil at.0))),
        )

    pub fails : (fault : RowFault) → TakesCheckpoint limits remaining way.0 way.1 (Err fault) new → fault.row ≤ length (records_within limits text) + 1
        → (fault.kind ≡ kind.Read → FailsAtWithin limits fault.row (records_within limits text)) → IsRecorded limits text (Err fault)
    fails fault at within failed =
        let whole = way.2 ∙ ap (after_items way.0) at.2.1 in
        elim at.3 [
          | inl faulty ↦ inl (ap (λ (all : Answers). all.fault) (whole ∙ ap (λ rest. after_items way.0 (after_items at.0 rest)) faulty.0))
          | inr failure ↦ elim failure.0 [
            | inl read ↦ inr (inl (read, failed read))
            | inr memory ↦ inr (inr (memory, within))
          ]
        ]

  -- nothing of a text is taken yet
  pub none-taken : {R B : Type 0} (remaining : R → Option (List ℕ)) (recording : RecordingWithin R B) (all : Answers) → IsRecording limits remaining recording [] all
      → HasTaken limits remaining recording all
  none-taken remaining recording all is = ([], all, refl, is)

  pub matched-err : {A : Type 0} (P : A → Type 0) (Q : RowFault → Type 0) (r : Result A RowFault) (fault : RowFault) → IsErrAnd r (λ why. why ≡ fault)
      → Q fault → MatchResult r P Q
  matched-err P Q (Ok _) fault is q = absurd is
  matched-err P Q (Err why) fault is q = subst Q (sym is) q
