-- The answers that are still to come, after one more record.
use Rattle.std.proofs.Common.{◌≡◌, ℕ, zero, suc, ◌+◌, ◌^◌, ◌<◌, ◌≤◌, ◌⊎◌, List, [], ◌∷◌, length, take, Option, None, Some}
use Rattle.std.proofs.Common.{Result, Ok, Err, refl, sym, ap, ◌∙◌, arith, inl, inr, length-append, length-take, true, false}
use Rattle.std.proofs.Common.{Bool, cond}
use Rattle.std.specs.Prelude.{IfErr, IfOk, IfSome, OnOk}
use Rattle.std.proofs.lemmas.Bool.{cases_lt}
use Rattle.std.proofs.Math.Logic.{⊎_elim}
use Rattle.csv.specs.Machine.{Read, next_record}
use Rattle.csv.specs.Reading.{default_config, is_bom, records, records_from, records_next, strip_bom}
use Rattle.csv.specs.declared.parser.Config.{Config}
use Rattle.csv.specs.declared.parser.State.{State}
use Rattle.csv.specs.declared.parser.State.TheVariants as st
use Rattle.tcc_rows.specs.Ahead.{FaultsIn, IsFailure}
use Rattle.tcc_rows.specs.private.Failing.{FailsIn}
use Rattle.tcc_rows.specs.Midway.{IsMidway}
use Rattle.tcc_rows.specs.Answers.{Answers, after_item, answers_after_within, given_within, ending, fault_at_end, judged_within, records_within}
use Rattle.tcc_rows.specs.ByteLimit.{marked, past_limit}
use Rattle.tcc_txn.specs.Limits.{most_bytes}
use Rattle.tcc_rows.specs.Lines.{Record, is_cut, line_of}
use Rattle.tcc_rows.specs.Past.{fault_within, item_of}
use Rattle.tcc_rows.specs.RecordsLeft.{HasLeft, record_of}
use Rattle.tcc_rows.specs.private.Stages.{TakesRecord, Counts, IsAtLine, TakesFields, TakesLine}
use Rattle.tcc_rows.specs.Reached.{StandsIn, row_in, row_reached}
use Rattle.tcc_rows.specs.SessionStates.{IsAfter}
use Rattle.tcc_rows.specs.private.Passing.{PassesOperation}
use Rattle.tcc_rows.specs.declared.rows.Item.{Item}
use Rattle.tcc_rows.specs.declared.rows.Item.TheVariants as item
use Rattle.tcc_rows.specs.declared.fault.RowFault.{RowFault}
use Rattle.tcc_rows.specs.declared.fault.RowFaultKind.{RowFaultKind}
use Rattle.tcc_rows.specs.declared.fault.RowFaultKind.TheVariants as kind
use Rattle.tcc_rows.specs.declared.rows.Rows.{Rows}
use Rattle.tcc_rows.specs.Line.{Line}
use Rattle.tcc_rows.specs.Line as line
use Rattle.tcc_rows.specs.declared.rows.progress.RowProgress.{RowProgress}
use Rattle.tcc_rows.specs.declared.rows.records.RecordsStage.TheVariants as records_stage
use Rattle.tcc_rows.specs.declared.rows.records.Records.{Records}
use Rattle.tcc_rows.proofs.LimitFacts.{marked-past, marked-within}
use Rattle.tcc_txn.specs.declared.limits.Limits.{Limits}
use Rattle.tcc_txn.specs.declared.limits.Limits.TheVariants.{Small, Large}

-- there are no more records than turns to read them
length-records_from : (cfg : Config) (n : ℕ) (s : State) (text : List ℕ) → length (records_from cfg n s text) ≤ n
unfolding records_from
length-records_from cfg zero s text = omega arith
length-records_from cfg (suc n) s text = by (next_record cfg s [] [] text) (length-records_from cfg n)
  where
    by : (o : Option Read) → ((s : State) (text : List ℕ) → length (records_from cfg n s text) ≤ n) → length (records_next (records_from cfg n) o) ≤ suc n
    by None more = omega arith
    by (Some p) more = omega (arith, more p.1 p.2)

length-strip_bom : (text : List ℕ) → length (strip_bom text) ≤ length text
unfolding strip_bom
length-strip_bom [] = omega arith
length-strip_bom (a ∷ []) = omega arith
length-strip_bom (a ∷ b ∷ []) = omega arith
length-strip_bom (a ∷ b ∷ c ∷ rest) = by (is_bom a b c)
  where
    by : (m : Bool) → length (cond m rest (a ∷ b ∷ c ∷ rest)) ≤ length (a ∷ b ∷ c ∷ rest)
    by true = omega arith
    by false = omega arith

length-marked : (limit : ℕ) (text : List ℕ) → length (marked limit text) ≤ limit + 1
length-marked limit text = ⊎_elim long short (cases_lt limit (length text))
  where
    long : limit < length text → length (marked limit text) ≤ limit + 1
    long h = rw (marked-past limit text h) (omega (arith, length-append (take limit text) (past_limit ∷ []), length-take limit text))

    short : length text ≤ limit → length (marked limit text) ≤ limit + 1
    short h = rw (marked-within limit text h) (omega arith)

few-bytes : (limits : Limits) → most_bytes limits ≤ 2 ^ 34
few-bytes Small = omega arith
few-bytes Large = omega arith

module _ (limits : Limits) where
  -- the records of a text can be counted
  few-records : (text : List ℕ) → length (records_within limits text) + 1 < 2 ^ 64
  few-records text =
      let cut = marked (most_bytes limits) text in
      let turns : length (records_within limits text) ≤ length (strip_bom cut) + 1 =
      length-records_from default_config (length (strip_bom cut) + 1) st.StartRecord (strip_bom cut) in
      omega (arith, turns, length-strip_bom cut, length-marked (most_bytes limits) text, few-bytes limits)

  if-some : {A : Type 0} {P Q : A → Type 0} (o : Option A) → ((x : A) → P x → Q x) → IfSome o P → IfSome o Q
  if-some None f h = tt
  if-some (Some x) f h = f x h

  -- at first all answers to the text are to come
  pub all-ahead : {R : Type 0} (remaining : R → Option (List ℕ)) (reader : R) (rows : Rows R)
      → IfSome (remaining reader) (λ text. HasLeft remaining rows.records (records_within limits text)) → IsAfter limits [] rows.progress
      → rows.records.count ≡ 0 → rows.records.stage ≡ records_stage.Going
      → IfSome (remaining reader) (λ text. IsMidway limits remaining rows (given_within limits text))
  all-ahead remaining reader rows has progress none going =
      if-some (remaining reader) (λ text left. record {
        past = [];
        left = records_within limits text;
        records = left;
        progress = progress;
        counted = none;
        going = going;
        fits = omega (arith, few-records text);
        answers = refl;
      }) has

  -- a reader at its beginning has all its records left
  pub all-left : {R : Type 0} (remaining : R → Option (List ℕ)) (reader : R) (records : Records R)
      → IfSome (remaining reader) (λ text. HasLeft remaining records (records_within limits text)) → records.count ≡ 0 → records.stage ≡ records_stage.Going
      → IfSome (remaining reader) (λ text. StandsIn remaining records (records_within limits text))
  all-left remaining reader records has none going =
      if-some (remaining reader) (λ text left. record { first = []; left = records_within limits text; whole = refl; counted = none; rest = left; last = λ some. absurd (omega (arith, none, some)); going = going }) has

  -- the result of one more record, by what it is judged to be
  lawful : (past : List Line) (fields : Record) (rest : List Record) (last : Line) → judged_within limits past fields ≡ Ok last
      → answers_after_within limits past (fields ∷ rest) ≡ after_item (item_of past last) (answers_after_within limits (last ∷ past) rest)
  lawful past fields rest last e = rw e refl

  faulty : (past : List Line) (fields : Record) (rest : List Record) (k : RowFaultKind) → judged_within limits past fields ≡ Err k
      → answers_after_within limits past (fields ∷ rest) ≡ ending (Some (record { row = length past + 1; kind = k }))
  faulty past fields rest k e = rw e refl

  no-end : (past : List Line) (last : Line) → Some item.End ≡ item_of past last → ⊥
  no-end past line.Seal e = cc e
  no-end past (line.Begin session) e = cc e
  no-end past (line.Finish session committed) e = cc e
  no-end past (line.Unknown session) e = cc e
  no-end past (line.Operation session op) e = cc e

  -- one more lawful record
  going-on : {R : Type 0} (remaining : R → Option (List ℕ)) (new : Rows R) (past : List Line) (left : List Record) (last : Line)
      → HasLeft remaining new.records left → IsAfter limits (last ∷ past) new.progress → new.records.count ≡ length past + 1 → new.records.stage ≡ records_stage.Going
      → length past + length left + 2 < 2 ^ 64 → IsMidway limits remaining new (answers_after_within limits (last ∷ past) left)
  going-on remaining new past left last has progress counted going fits =
      record {
        past = last ∷ past;
        left = left;
        records = has;
        progress = progress;
        counted = counted ∙ omega arith;
        going = going;
        fits = omega (arith, fits);
        answers = refl;
      }

  -- the judgement of a record that the limit does not cut, by its line
  pub judged-lawful : (past : List Line) (fields : Record) (last : Line) → is_cut fields ≡ false → line_of fields ≡ Ok last → fault_within limits past last ≡ None
      → judged_within limits past fields ≡ Ok last
  judged-lawful past fields last whole e free = rw (whole, e, free) refl

  pub judged-faulty : (past : List Line) (fields : Record) (last : Line) (k : RowFaultKind) → is_cut fields ≡ false → line_of fields ≡ Ok last
      → fault_within limits past last ≡ Some k
      → judged_within limits past fields ≡ Err k
  judged-faulty past fields last k whole e fault = rw (whole, e, fault) refl

  pub judged-unlawful : (past : List Line) (fields : Record) (k : RowFaultKind) → is_cut fields ≡ false → line_of fields ≡ Err k → judged_within limits past fields ≡ Err k
  judged-unlawful past fields k whole e = rw (whole, e) refl

  -- the judgement of a record that is not an operation that can be passed
  pub judged-refused : (past : List Line) (fields : Record) (k : RowFaultKind) (p : RowProgress) → is_cut fields ≡ false
      → PassesOperation {U = Unit {0}} limits past fields (Err k) p
      → (judged_within limits past fields ≡ Err k) ⊎ (k ≡ kind.NoMemory)
  judged-refused past fields k p whole (inl unlawful) = inl (judged-unlawful past fields k whole unlawful)
  judged-refused past fields k p whole (inr (inl fault)) = inl (judged-faulty past fields fault.0 k whole fault.1 fault.2)
  judged-refused past fields k p whole (inr (inr want)) = inr want

  -- the answers to the records that were left, once the first of them is read
  answers-read : {R : Type 0} (remaining : R → Option (List ℕ)) (old : Rows R) (records : Records R) (ahead : Answers) (reading : IsMidway limits remaining old ahead)
      (taken : TakesRecord remaining reading.left true records) → ahead ≡ answers_after_within limits reading.past (record_of records ∷ taken.0)
  answers-read remaining old records ahead reading taken = reading.answers ∙ ap (answers_after_within limits reading.past) taken.1

  -- an operation was passed
  pub operation-passed : {R : Type 0} {U : Type 0} (remaining : R → Option (List ℕ)) (old new : Rows R) (records : Records R) (ahead : Answers)
      (reading : IsMidway limits remaining old ahead)
      → TakesRecord remaining reading.left true records → Counts {E = RowFaultKind} old.records (Ok true) records → new.records ≡ records
      → is_cut (record_of records) ≡ false
      → (done : U) → PassesOperation limits reading.past (record_of records) (Ok done) new.progress → IsMidway limits remaining new ahead
  operation-passed remaining old new records ahead reading taken counts kept whole done (session, op, e, free, progress) =
      let last = line.Operation session op in
      let judgement : judged_within limits reading.past (record_of records) ≡ Ok last = judged-lawful reading.past (record_of records) last whole e free in
      let answers : ahead ≡ answers_after_within limits (last ∷ reading.past) taken.0 =
      answers-read remaining old records ahead reading taken ∙ lawful reading.past (record_of records) taken.0 last judgement in
      let counted : new.records.count ≡ length reading.past + 1 = rw kept (counts.0 ∙ ap (λ n. n + 1) reading.counted) in
      let going : new.records.stage ≡ records_stage.Going = rw kept (counts.2 ∙ reading.going) in
      rw answers (going-on remaining new reading.past taken.0 last (rw kept taken.2) progress counted going (omega (arith, reading.fits, ap length taken.1)))

  -- the row after a record was read
  row-read : {R : Type 0} (remaining : R → Option (List ℕ)) (old : Rows R) (records : Records R) (ahead : Answers) (reading : IsMidway limits remaining old ahead)
      → Counts {E = RowFaultKind} old.records (Ok true) records → row_in records.stage records.count ≡ length reading.past + 1
  row-read remaining old records ahead reading counts =
      let going : records.stage ≡ records_stage.Going = counts.2 ∙ reading.going in
      rw going (counts.0 ∙ ap (λ n. n + 1) reading.counted)

  -- a record was read that has a fault, or memory was refused
  pub record-refused : {R : Type 0} (remaining : R → Option (List ℕ)) (old : Rows R) (records : Records R) (ahead : Answers)
      (reading : IsMidway limits remaining old ahead)
      → TakesRecord remaining reading.left true records → Counts {E = RowFaultKind} old.records (Ok true) records
      → (k : RowFaultKind) → (judged_within limits reading.past (record_of records) ≡ Err k) ⊎ (k ≡ kind.NoMemory)
      → FaultsIn limits ahead (record { row = row_in records.stage records.count; kind = k })
  record-refused remaining old records ahead reading taken counts k (inl wrong) =
      rw (row-read remaining old records ahead reading counts)
      (inl (answers-read remaining old records ahead reading taken ∙ faulty reading.past (record_of records) taken.0 k wrong))
  record-refused remaining old records ahead reading taken counts k (inr want) =
      inr (inr want, reading.past, reading.left, reading.answers, row-read remaining old records ahead reading counts)

  -- the reader failed
  pub reading-failed : {R : Type 0} (remaining : R → Option (List ℕ)) (old : Rows R) (records : Records R) (ahead : Answers)
      (reading : IsMidway limits remaining old ahead)
      → (k : RowFaultKind) → Counts old.records (Err k) records → IsFailure k
      → FaultsIn limits ahead (record { row = row_in records.stage records.count; kind = k })
  reading-failed remaining old records ahead reading k counts failure =
      let row : row_in records.stage records.count ≡ length reading.past + 1 = rw counts.1 (omega (arith, counts.0, reading.counted, reading.fits)) in
      inr (failure, reading.past, reading.left, reading.answers, row)

  -- two lists of the records that a reader has left are equal
  same-left : {R : Type 0} (remaining : R → Option (List ℕ)) (records : Records R) (xs ys : List Record) → HasLeft remaining records xs
      → HasLeft remaining records ys → xs ≡ ys
  same-left remaining records xs ys one two = (let both : ◌≡◌ {A = Option (List Record)} (Some xs) (Some ys) = sym one.known ∙ two.known in cc both)

  -- which records were judged before the reading failed
  pub failed-reading : {R : Type 0} (remaining : R → Option (List ℕ)) (old : Rows R) (records : Records R) (all : List Record) (ahead : Answers)
      → IsMidway limits remaining old ahead → StandsIn remaining old.records all → (k : RowFaultKind) → Counts old.records (Err k) records
      → FailsIn limits all ahead (row_in records.stage records.count)
  failed-reading remaining old records all ahead reading stands k counts = record {
    first = stands.first;
    left = stands.left;
    past = reading.past;
    whole = stands.whole;
    long = sym reading.counted ∙ stands.counted;
    answers = reading.answers ∙ ap (answers_after_within limits reading.past) (same-left remaining old.records reading.left stands.left reading.records stands.rest);
    here = rw counts.1 (omega (arith, counts.0, stands.counted, reading.counted, reading.fits));
  }

  -- the row where the records end
  pub row-ended : {R : Type 0} (remaining : R → Option (List ℕ)) (old : Rows R) (records : Records R) (ahead : Answers) (reading : IsMidway limits remaining old ahead)
      → Counts {E = RowFaultKind} old.records (Ok false) records → row_in records.stage records.count ≡ length reading.past
  row-ended remaining old records ahead reading counts = rw counts.1 (counts.0 ∙ reading.counted)

  -- the line of the record that was read is reached
  pub line-met : {R : Type 0} (remaining : R → Option (List ℕ)) (old new : Rows R) (records : Records R) (ahead : Answers)
      (reading : IsMidway limits remaining old ahead)
      → TakesRecord remaining reading.left true records → Counts {E = RowFaultKind} old.records (Ok true) records → new.records ≡ records
      → new.progress ≡ old.progress
      → is_cut (record_of records) ≡ false → (last : Line) → line_of (record_of records) ≡ Ok last → IsAtLine limits remaining new ahead last
  line-met remaining old new records ahead reading taken counts kept same_progress whole last e =
      record {
        past = reading.past;
        fields = record_of records;
        left = taken.0;
        records = rw kept taken.2;
        progress = rw same_progress reading.progress;
        counted = rw kept (counts.0 ∙ ap (λ n. n + 1) reading.counted);
        going = rw kept (counts.2 ∙ reading.going);
        fits = omega (arith, reading.fits, ap length taken.1);
        whole = whole;
        lawful = e;
        answers = answers-read remaining old records ahead reading taken;
      }

  -- the row of a line
  pub row-at : {R : Type 0} (remaining : R → Option (List ℕ)) (at : Rows R) (ahead : Answers) (last : Line) (here : IsAtLine limits remaining at ahead last)
      → row_reached at ≡ length here.past + 1
  row-at remaining at ahead last here = rw here.going here.counted

  -- one more line, whatever its result
  pub line-taken : {R : Type 0} (remaining : R → Option (List ℕ)) (at new : Rows R) (ahead : Answers) (last : Line) (here : IsAtLine limits remaining at ahead last)
      → new.records ≡ at.records → (result : Result (Option Item) RowFault) → TakesFields limits here.past here.fields result new
      → TakesLine limits remaining ahead result new
  line-taken {R = R} remaining at new ahead last here kept result fields = by result fields
    where
      has : HasLeft remaining new.records here.left
      has = rw kept here.records

      counted : new.records.count ≡ length here.past + 1
      counted = rw kept here.counted

      going : new.records.stage ≡ records_stage.Going
      going = rw kept here.going

      by : (result : Result (Option Item) RowFault) → TakesFields limits here.past here.fields result new → TakesLine limits remaining ahead result new
      by (Ok None) f =
          let e : ahead ≡ answers_after_within limits (f.0 ∷ here.past) here.left =
          here.answers ∙ lawful here.past here.fields here.left f.0 f.1 ∙ ap (λ o. after_item o (answers_after_within limits (f.0 ∷ here.past) here.left)) (sym f.2) in
          rw e (going-on remaining new here.past here.left f.0 has f.3 counted going here.fits)
      by (Ok (Some item.End)) f = absurd (no-end here.past f.0 f.2)
      by (Ok (Some item.Seal)) f = (
        answers_after_within limits (f.0 ∷ here.past) here.left,
        here.answers ∙ lawful here.past here.fields here.left f.0 f.1 ∙ ap (λ o. after_item o (answers_after_within limits (f.0 ∷ here.past) here.left)) (sym f.2),
        going-on remaining new here.past here.left f.0 has f.3 counted going here.fits,
      )
      by (Ok (Some (item.Finished name txn))) f = (
        answers_after_within limits (f.0 ∷ here.past) here.left,
        here.answers ∙ lawful here.past here.fields here.left f.0 f.1 ∙ ap (λ o. after_item o (answers_after_within limits (f.0 ∷ here.past) here.left)) (sym f.2),
        going-on remaining new here.past here.left f.0 has f.3 counted going here.fits,
      )
      by (Ok (Some (item.Unknown name txn))) f = (
        answers_after_within limits (f.0 ∷ here.past) here.left,
        here.answers ∙ lawful here.past here.fields here.left f.0 f.1 ∙ ap (λ o. after_item o (answers_after_within limits (f.0 ∷ here.past) here.left)) (sym f.2),
        going-on remaining new here.past here.left f.0 has f.3 counted going here.fits,
      )
      by (Err fault) (inl wrong, row) =
          let same_fault : ◌≡◌ {A = RowFault} (record { row = length here.past + 1; kind = fault.kind }) fault = rw (← row) refl in
          inl (here.answers ∙ faulty here.past here.fields here.left fault.kind wrong ∙ ap (λ f. ending (Some f)) same_fault)
      by (Err fault) (inr want, row) = inr (inr want, here.past, here.fields ∷ here.left, here.answers, row)

  -- the end of the records, whatever its result
  pub end-taken : {R : Type 0} (remaining : R → Option (List ℕ)) (new : Rows R) (ahead : Answers) (past : List Line)
      → ahead ≡ answers_after_within limits past [] → (result : Result (Option Item) RowFault)
      → IfErr result (λ fault. fault_at_end past ≡ Some fault) → OnOk result (fault_at_end past ≡ None) → IfOk result (λ given. given ≡ Some item.End)
      → TakesLine limits remaining ahead result new
  end-taken remaining new ahead past answers result = by result
    where
      by : (result : Result (Option Item) RowFault) → IfErr result (λ fault. fault_at_end past ≡ Some fault) → OnOk result (fault_at_end past ≡ None)
          → IfOk result (λ given. given ≡ Some item.End) → TakesLine limits remaining ahead result new
      by (Ok given) unfinished closed end = rw end (answers ∙ ap ending closed)
      by (Err fault) unfinished closed end = inl (answers ∙ ap ending unfinished)

  -- the fault that the end of the records has after any lines, it has after these
  pub closed-after : {E : Type 0} (result : Result (Option Item) E) (p : RowProgress) (past : List Line) → IsAfter limits past p
      → OnOk result ((given : Limits) (lines : List Line) → IsAfter given lines p → fault_at_end lines ≡ None) → OnOk result (fault_at_end past ≡ None)
  closed-after (Ok given) p past is all = all limits past is
  closed-after (Err e) p past is all = tt

  pub unfinished-after : (result : Result (Option Item) RowFault) (row : ℕ) (p : RowProgress) (past : List Line) → IsAfter limits past p → row ≡ length past
      → IfErr result (λ fault. (given : Limits) (lines : List Line) → IsAfter given lines p → row ≡ length lines → fault_at_end lines ≡ Some fault)
      → IfErr result (λ fault. fault_at_end past ≡ Some fault)
  unfinished-after (Ok given) row p past is counted all = tt
  unfinished-after (Err fault) row p past is counted all = all limits past is counted
