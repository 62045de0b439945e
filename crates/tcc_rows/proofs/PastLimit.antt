-- The last record of a text that is longer than the limit on bytes is cut.
use Rattle.std.proofs.Common.{◌≡◌, ◌≢◌, ℕ, zero, suc, ◌+◌, ◌-◌, ◌<◌, ◌⊎◌, inl, inr, Bool, true, false, cond, List, [], ◌∷◌}
use Rattle.std.proofs.Common.{◌++◌, length, take, refl, sym, ap, subst, ◌∙◌, arith, Option, None, Some, Result, Ok, Err}
use Rattle.std.proofs.Common.{length-append}
use Rattle.std.specs.Prelude.{◌==◌, ◌&&◌}
use Rattle.std.specs.List.{list_any}
use Rattle.std.proofs.lemmas.Bool.{or_left, or_right}
use Rattle.std.proofs.lemmas.List.Folds.{list_any-append}
use Rattle.std.proofs.Math.Seq.{take-append_seam}
use Rattle.csv.specs.Machine.{Read, after_end, ends_at_end, ends_with, field_after, fields_after}
use Rattle.csv.specs.Machine.{in_field, is_end, next_record, start_field, start_record, step}
use Rattle.csv.specs.Reading.{default_config, is_bom, records_from, records_next, strip_bom}
use Rattle.csv.specs.declared.parser.State.{State}
use Rattle.csv.specs.declared.parser.State.TheVariants as st
use Rattle.csv.specs.declared.parser.Action.{Action}
use Rattle.csv.specs.declared.parser.Action.TheVariants as act
use Rattle.csv.specs.declared.parser.Terminator.TheVariants as term
use Rattle.tcc_rows.specs.Answers.{Answers, after_item, answers_of, go_on, records_of}
use Rattle.tcc_rows.specs.private.Words.{answers_after, judged}
use Rattle.tcc_rows.specs.ByteLimit.{marked, past_limit}
use Rattle.tcc_rows.specs.Failing.{AreLawful, records_before}
use Rattle.tcc_rows.specs.Lines.{Record, is_cut}
use Rattle.tcc_txn.specs.declared.limits.TheConstants.{MAX_INPUT_BYTES}
use Rattle.tcc_rows.specs.declared.rows.Item.{Item}
use Rattle.tcc_rows.specs.declared.fault.RowFaultKind.{RowFaultKind}
use Rattle.tcc_rows.specs.declared.fault.RowFaultKind.TheVariants as kind
use Rattle.tcc_rows.specs.Line.{Line}
use Rattle.tcc_rows.specs.Past.{item_of}
use Rattle.tcc_rows.proofs.LimitFacts.{marked-past}
use Rattle.tcc_rows.proofs.RecordSteps.{next_record-leaves, next_record-shorter}

-- ---- no comments

abbrev in_comment : State → Bool
in_comment st.InComment = true
in_comment _ = false

either : (b : Bool) (p q : State × Action) → in_comment p.0 ≡ false → in_comment q.0 ≡ false → in_comment (cond b p q).0 ≡ false
either true p q e f = e
either false p q e f = f

after-end : (c : ℕ) → in_comment (after_end term.CRLF c) ≡ false
after-end c = by (c == 13)
  where
    by : (b : Bool) → in_comment (cond b st.AfterCr st.StartRecord) ≡ false
    by true = refl
    by false = refl

in-field : (c : ℕ) → in_comment (in_field default_config c).0 ≡ false
in-field c =
    either (c == 44) (st.StartField, act.EndField) _ refl
    (either (ends_with term.CRLF c) (after_end term.CRLF c, act.EndRecord) (st.InField, act.Copy) (after-end c) refl)

start-field : (c : ℕ) → in_comment (start_field default_config c).0 ≡ false
start-field c = either (c == 34) (st.InQuoted, act.Skip) (in_field default_config c) refl (in-field c)

start-record : (c : ℕ) → in_comment (start_record default_config c).0 ≡ false
start-record c = either (ends_with term.CRLF c) (st.StartRecord, act.Skip) (start_field default_config c) refl (start-field c)

no-comment : (s : State) (c : ℕ) → in_comment s ≡ false → in_comment (step default_config s c).0 ≡ false
no-comment st.StartRecord c e = start-record c
no-comment st.StartField c e = start-field c
no-comment st.InField c e = in-field c
no-comment st.InQuoted c e = either (c == 34) (st.AfterQuote, act.Skip) (st.InQuoted, act.Copy) refl refl
no-comment st.InEscape c e = refl
no-comment st.AfterQuote c e = either (c == 34) (st.InQuoted, act.Copy) (in_field default_config c) refl (in-field c)
no-comment st.InComment c e = cc e
no-comment st.AfterCr c e = either (c == 10) (st.StartRecord, act.Skip) (start_record default_config c) refl (start-record c)

between-none : (s : State) → ends_at_end s ≡ false → in_comment s ≡ false
between-none st.StartRecord e = refl
between-none st.AfterCr e = refl
between-none st.StartField e = refl
between-none st.InField e = refl
between-none st.InQuoted e = refl
between-none st.AfterQuote e = refl
between-none st.InEscape e = refl
between-none st.InComment e = cc e

-- ---- the mark is in the last record

abbrev is_mark : ℕ → Bool
is_mark byte = byte == past_limit

-- the mark is copied into the field that is being read, after which the text ends in a field
copied : (s : State) → in_comment s ≡ false → ((step default_config s past_limit).1 ≡ act.Copy) × (ends_at_end (step default_config s past_limit).0 ≡ true)
copied st.StartRecord e = (refl, refl)
copied st.StartField e = (refl, refl)
copied st.InField e = (refl, refl)
copied st.InQuoted e = (refl, refl)
copied st.InEscape e = (refl, refl)
copied st.AfterQuote e = (refl, refl)
copied st.InComment e = cc e
copied st.AfterCr e = (refl, refl)

marked-field : (fields : Record) (field : List ℕ) → is_cut (fields ++ (field ++ past_limit ∷ []) ∷ []) ≡ true
marked-field fields field =
    list_any-append (list_any is_mark) fields ((field ++ past_limit ∷ []) ∷ [])
    ∙ or_right (list_any (list_any is_mark) fields) _ (or_left (list_any is_mark (field ++ past_limit ∷ [])) false
    (list_any-append is_mark field (past_limit ∷ []) ∙ or_right (list_any is_mark field) true refl))

-- a record of a text that ends in the mark: it is the last one, and cut; or the mark is still to come
abbrev Goes : Option Read → Type 0
Goes o = (p : Read) × (o ≡ Some p) × (((p.2 ≡ []) × (is_cut p.0 ≡ true)) ⊎ ((rest : List ℕ) × (p.2 ≡ rest ++ past_limit ∷ [])))

goes : (ys : List ℕ) (s : State) (fields : Record) (field : List ℕ) → in_comment s ≡ false
    → Goes (next_record default_config s fields field (ys ++ past_limit ∷ []))
unfolding next_record
goes [] s fields field none =
    let (copy, inside) = copied s none in
    let after : fields_after (step default_config s past_limit).1 fields field ≡ fields = ap (λ a. fields_after a fields field) copy in
    let grown : field_after (step default_config s past_limit).1 past_limit field ≡ field ++ past_limit ∷ [] = ap (λ a. field_after a past_limit field) copy in
    by (step default_config s past_limit) copy inside
  where
    by : (p : State × Action) → p.1 ≡ act.Copy → ends_at_end p.0 ≡ true
        → Goes (cond (is_end p.1) (Some (fields_after p.1 fields field, p.0, []))
        (cond (ends_at_end p.0) (Some (fields_after p.1 fields field ++ field_after p.1 past_limit field ∷ [], st.StartRecord, [])) None))
    by (s', a) copy inside = rw (copy, inside) ((fields ++ (field ++ past_limit ∷ []) ∷ [], st.StartRecord, []), refl, inl (refl, marked-field fields field))
goes (c ∷ ys) s fields field none =
    by (step default_config s c) (no-comment s c none) (λ s' none fields field. goes ys s' fields field none)
  where
    by : (p : State × Action) → in_comment p.0 ≡ false
        → ((s' : State) → in_comment s' ≡ false → (fields : Record) (field : List ℕ)
        → Goes (next_record default_config s' fields field (ys ++ past_limit ∷ [])))
        → Goes (cond (is_end p.1) (Some (fields_after p.1 fields field, p.0, ys ++ past_limit ∷ []))
        (next_record default_config p.0 (fields_after p.1 fields field) (field_after p.1 c field) (ys ++ past_limit ∷ [])))
    by (s', act.EndRecord) none more = ((fields ++ field ∷ [], s', ys ++ past_limit ∷ []), refl, inr (ys, refl))
    by (s', act.Skip) none more = more s' none fields field
    by (s', act.Copy) none more = more s' none fields (field ++ c ∷ [])
    by (s', act.EndField) none more = more s' none (fields ++ field ∷ []) []

-- the last of some records is cut
abbrev EndsCut : List Record → Type 0
EndsCut all = (front : List Record) × (last : Record) × (all ≡ front ++ last ∷ []) × (is_cut last ≡ true)

none-left : (n : ℕ) (s : State) → ends_at_end s ≡ false → records_from default_config n s [] ≡ []
unfolding records_from next_record
none-left zero s between = refl
none-left (suc n) s between = rw between refl

ends-cut : (n : ℕ) (s : State) (ys : List ℕ) → ends_at_end s ≡ false → length (ys ++ past_limit ∷ []) < n
    → EndsCut (records_from default_config n s (ys ++ past_limit ∷ []))
unfolding records_from
ends-cut zero s ys between room = absurd (omega (arith, room))
ends-cut (suc n) s ys between room =
    let (p, is, comes) = goes ys s [] [] (between-none s between) in
    let later : ends_at_end p.1 ≡ false = (next_record-leaves s [] [] (ys ++ past_limit ∷ []) p is).between in
    let shorter : length p.2 < length (ys ++ past_limit ∷ []) = next_record-shorter s (ys ++ past_limit ∷ []) p between is in
    subst (λ o. EndsCut (records_next (records_from default_config n) o)) (sym is) (by p later shorter comes (ends-cut n))
  where
    by : (p : Read) → ends_at_end p.1 ≡ false → length p.2 < length (ys ++ past_limit ∷ [])
        → ((p.2 ≡ []) × (is_cut p.0 ≡ true)) ⊎ ((rest : List ℕ) × (p.2 ≡ rest ++ past_limit ∷ []))
        → ((s : State) (ys : List ℕ) → ends_at_end s ≡ false → length (ys ++ past_limit ∷ []) < n
        → EndsCut (records_from default_config n s (ys ++ past_limit ∷ [])))
        → EndsCut (p.0 ∷ records_from default_config n p.1 p.2)
    by p later shorter (inl (none, cut)) more =
        ([], p.0, ap (λ text. p.0 ∷ records_from default_config n p.1 text) none ∙ ap (λ rest. p.0 ∷ rest) (none-left n p.1 later), cut)
    by p later shorter (inr (rest, is)) more =
        let (front, last, all, cut) = more p.1 rest later (omega (arith, shorter, room, ap length is)) in
        (p.0 ∷ front, last, ap (λ text. p.0 ∷ records_from default_config n p.1 text) is ∙ ap (λ records. p.0 ∷ records) all, cut)

-- a byte order mark does not contain it
bom-kept : (xs : List ℕ) → (ys : List ℕ) × (strip_bom (xs ++ past_limit ∷ []) ≡ ys ++ past_limit ∷ [])
unfolding strip_bom
bom-kept [] = ([], refl)
bom-kept (a ∷ []) = (a ∷ [], refl)
bom-kept (a ∷ b ∷ []) = by ((a == 0xEF) && (b == 0xBB))
  where
    by : (m : Bool) → (ys : List ℕ) × (cond (m && false) [] (a ∷ b ∷ past_limit ∷ []) ≡ ys ++ past_limit ∷ [])
    by true = (a ∷ b ∷ [], refl)
    by false = (a ∷ b ∷ [], refl)
bom-kept (a ∷ b ∷ c ∷ xs) = by (is_bom a b c)
  where
    by : (m : Bool) → (ys : List ℕ) × (cond m (xs ++ past_limit ∷ []) (a ∷ b ∷ c ∷ (xs ++ past_limit ∷ [])) ≡ ys ++ past_limit ∷ [])
    by true = (xs, refl)
    by false = (a ∷ b ∷ c ∷ xs, refl)

last-cut : (text : List ℕ) → MAX_INPUT_BYTES < length text → EndsCut (records_of text)
last-cut text long =
    let (ys, is) = bom-kept (take MAX_INPUT_BYTES text) in
    let whole : strip_bom (marked MAX_INPUT_BYTES text) ≡ ys ++ past_limit ∷ [] = ap strip_bom (marked-past MAX_INPUT_BYTES text long) ∙ is in
    subst (λ bytes. EndsCut (records_from default_config (length bytes + 1) st.StartRecord bytes)) (sym whole)
    (ends-cut (length (ys ++ past_limit ∷ []) + 1) st.StartRecord ys refl (omega arith))

-- ---- so the text has a fault

pub kept-fault : (o : Option Item) (ahead : Answers) → (after_item o ahead).fault ≡ ahead.fault
kept-fault None ahead = refl
kept-fault (Some first) ahead = refl

cut-judged : (past : List Line) (last : Record) → is_cut last ≡ true → judged past last ≡ Err kind.Read
cut-judged past last cut = rw cut refl

always : (front : List Record) (last : Record) (past : List Line) → is_cut last ≡ true → (answers_after past (front ++ last ∷ [])).fault ≢ None
always [] last past cut none =
    (let e : (answers_after past (last ∷ [])).fault ≡ Some (record { row = length past + 1; kind = kind.Read }) = rw (cut-judged past last cut) refl in
    cc (e, none))
always (fields ∷ rest) last past cut none = by (judged past fields) (λ lines. always rest last lines cut) none
  where
    by : (r : Result Line RowFaultKind) → ((lines : List Line) → (answers_after lines (rest ++ last ∷ [])).fault ≢ None)
        → (go_on past (λ lines. answers_after lines (rest ++ last ∷ [])) r).fault ≢ None
    by (Err k) more none = cc none
    by (Ok l) more none = more (l ∷ past) (sym (kept-fault (item_of past l) (answers_after (l ∷ past) (rest ++ last ∷ []))) ∙ none)

at-last : (front : List Record) (last : Record) (past : List Line) (row : ℕ) → is_cut last ≡ true → row ≡ length past + length front + 1 → AreLawful past front
    → (answers_after past (front ++ last ∷ [])).fault ≡ Some (record { row = row; kind = kind.Read })
at-last [] last past row cut here lawful =
    let e : (answers_after past (last ∷ [])).fault ≡ Some (record { row = length past + 1; kind = kind.Read }) = rw (cut-judged past last cut) refl in
    let same : length past + 1 ≡ row = omega (arith, here) in
    e ∙ ap (λ n. Some (record { row = n; kind = kind.Read })) same
at-last (fields ∷ rest) last past row cut here (l, is, lawful) =
    let ahead = answers_after (l ∷ past) (rest ++ last ∷ []) in
    rw is (kept-fault (item_of past l) ahead ∙ at-last rest last (l ∷ past) row cut (omega (arith, here)) lawful)

pub faulty : (text : List ℕ) → MAX_INPUT_BYTES < length text → (answers_of text).fault ≢ None
faulty text long =
    let (front, last, all, cut) = last-cut text long in
    subst (λ records. (answers_after [] records).fault ≢ None) (sym all) (always front last [] cut)

pub read-at : (text : List ℕ) → MAX_INPUT_BYTES < length text → AreLawful [] (records_before (length (records_of text)) (records_of text))
    → (answers_of text).fault ≡ Some (record { row = length (records_of text); kind = kind.Read })
read-at text long lawful =
    let (front, last, all, cut) = last-cut text long in
    let many : length (records_of text) ≡ length front + 1 = ap length all ∙ length-append front (last ∷ []) in
    let before : records_before (length (records_of text)) (records_of text) ≡ front
    = ap (λ records. take (length records - 1) records) all
    ∙ ap (λ n. take n (front ++ last ∷ [])) (omega (arith, length-append front (last ∷ []))) ∙ take-append_seam front (last ∷ []) in
    ap (λ records. (answers_after [] records).fault) all ∙ at-last front last [] (length (records_of text)) cut (omega (arith, many))
    (subst (AreLawful []) before lawful)
