-- What records finish before each seal depends on the records of each session before it alone.
use Rattle.std.proofs.Common.{◌≡◌, ℕ, zero, suc, ◌+◌, ◌≤◌, Bool, true, false, List, [], ◌∷◌, ◌++◌, filter, length, refl, sym, ap, subst, ◌∙◌, arith}
use Rattle.std.proofs.Common.{Option, None, Some, Result, Ok, Err, append_assoc, append-nil}
use Rattle.tcc_rows.specs.Answers.{Answers, after_item, answers_of, given_within, go_on, records_of}
use Rattle.std.specs.FinMap as finite
use Rattle.std.specs.Prelude.{is_none, map}
use Rattle.tcc_txn.specs.Finished.{with_transaction}
use Rattle.tcc_txn.specs.Snapshots.{Sessions}
use Rattle.tcc_rows.specs.Settling.{Pending, seen_among, settled_after, shown, told, unseen_among, with_shown}
use Rattle.tcc_rows.specs.private.Words.{answers_after, judged}
use Rattle.tcc_rows.specs.Items.{finished_in}
use Rattle.tcc_rows.specs.Interleaved.{AreInterleaved, AreSealedAlike, is_by, is_by_none, records_by_none, records_until}
use Rattle.tcc_rows.specs.Lines.{Record, line_of}
use Rattle.tcc_rows.specs.Past.{item_of, seals}
use Rattle.tcc_rows.specs.Recordings.{items_until, seals_in}
use Rattle.tcc_txn.specs.declared.limits.Limits.TheVariants.{Small}
use Rattle.tcc_rows.specs.declared.rows.Item.{Item}
use Rattle.tcc_rows.specs.declared.rows.Item.TheVariants as item
use Rattle.tcc_rows.specs.declared.fault.RowFaultKind.{RowFaultKind}
use Rattle.tcc_rows.specs.Line.{Line}
use Rattle.tcc_rows.specs.Line as line
use Rattle.tcc_rows.proofs.FinishedFacts.{AreLawful, items_in, pushed}
use Rattle.tcc_rows.proofs.Interleaving.{items-of, judged-line, lines_after, noted, same-lines}
use Rattle.tcc_rows.proofs.InterleavedFaults.{clean-after, interleaved-lawful, lawful-before, sealed-by}
use Rattle.tcc_rows.proofs.Outcomes.{settled-same, settled_by}
use Rattle.tcc_rows.proofs.Settled.{seals-settled}

-- ---- one record more

until-other : (fields : Record) (rest : List Record) (k : ℕ) → is_by_none fields ≡ false → records_until (fields ∷ rest) k ≡ fields ∷ records_until rest k
until-other fields rest zero e = rw e refl
until-other fields rest (suc k) e = rw e refl

until-first : (fields : Record) (rest : List Record) → is_by_none fields ≡ true → records_until (fields ∷ rest) zero ≡ []
until-first fields rest e = rw e refl

until-later : (fields : Record) (rest : List Record) (k : ℕ) → is_by_none fields ≡ true → records_until (fields ∷ rest) (suc k) ≡ fields ∷ records_until rest k
until-later fields rest k e = rw e refl

-- ---- one line more

item-other : (base : List Item) (past : List Line) (l : Line) (ahead : Answers) (k : ℕ) → seals l ≡ false
    → base ++ items_until (after_item (item_of past l) ahead).items k ≡ pushed (item_of past l) base ++ items_until ahead.items k
item-other base past line.Seal ahead k e = cc e
item-other base past (line.Begin session) ahead k e = refl
item-other base past (line.Operation session op) ahead k e = refl
item-other base past (line.Finish session committed) ahead zero e = sym (append_assoc base _ (items_until ahead.items zero))
item-other base past (line.Unknown session) ahead zero e = sym (append_assoc base _ (items_until ahead.items zero))
item-other base past (line.Finish session committed) ahead (suc k) e = sym (append_assoc base _ (items_until ahead.items (suc k)))
item-other base past (line.Unknown session) ahead (suc k) e = sym (append_assoc base _ (items_until ahead.items (suc k)))

item-first : (past : List Line) (l : Line) (ahead : Answers) → seals l ≡ true → items_until (after_item (item_of past l) ahead).items zero ≡ []
item-first past line.Seal ahead e = refl
item-first past (line.Begin session) ahead e = cc e
item-first past (line.Finish session committed) ahead e = cc e
item-first past (line.Unknown session) ahead e = cc e
item-first past (line.Operation session op) ahead e = cc e

item-later : (base : List Item) (past : List Line) (l : Line) (ahead : Answers) (k : ℕ) → seals l ≡ true
    → base ++ items_until (after_item (item_of past l) ahead).items (suc k) ≡ pushed (item_of past l) base ++ items_until ahead.items k
item-later base past line.Seal ahead k e = sym (append_assoc base (item.Seal ∷ []) (items_until ahead.items k))
item-later base past (line.Begin session) ahead k e = cc e
item-later base past (line.Finish session committed) ahead k e = cc e
item-later base past (line.Unknown session) ahead k e = cc e
item-later base past (line.Operation session op) ahead k e = cc e

seal-other : (past : List Line) (l : Line) (ahead : Answers) → seals l ≡ false → seals_in (after_item (item_of past l) ahead).items ≡ seals_in ahead.items
seal-other past line.Seal ahead e = cc e
seal-other past (line.Begin session) ahead e = refl
seal-other past (line.Finish session committed) ahead e = refl
seal-other past (line.Unknown session) ahead e = refl
seal-other past (line.Operation session op) ahead e = refl

seal-first : (past : List Line) (l : Line) (ahead : Answers) → seals l ≡ true
    → seals_in (after_item (item_of past l) ahead).items ≡ item.Seal ∷ seals_in ahead.items
seal-first past line.Seal ahead e = refl
seal-first past (line.Begin session) ahead e = cc e
seal-first past (line.Finish session committed) ahead e = cc e
seal-first past (line.Unknown session) ahead e = cc e
seal-first past (line.Operation session op) ahead e = cc e

same-fault : (o : Option Item) (ahead : Answers) → (after_item o ahead).fault ≡ ahead.fault
same-fault None ahead = refl
same-fault (Some first) ahead = refl

lines-more : (past : List Line) (fields : Record) (l : Line) (rest : List Record) → line_of fields ≡ Ok l → lines_after (l ∷ past) rest ≡ lines_after past (fields ∷ rest)
lines-more past fields l rest is = ap (λ r. lines_after (noted r past) rest) (sym is)

-- ---- the first of lawful records

-- what holds for the answers by its line holds for the record's answers
by-line : (past : List Line) (fields : Record) (rest : List Record) (P : Answers → Type 0) → (answers_after past (fields ∷ rest)).fault ≡ None
    → ((last : Line) → line_of fields ≡ Ok last → (answers_after (last ∷ past) rest).fault ≡ None
    → P (after_item (item_of past last) (answers_after (last ∷ past) rest)))
    → P (answers_after past (fields ∷ rest))
by-line past fields rest P free lawful = by (judged past fields) refl free
  where
    by : (r : Result Line RowFaultKind) → judged past fields ≡ r → (go_on past (λ lines. answers_after lines rest) r).fault ≡ None
        → P (go_on past (λ lines. answers_after lines rest) r)
    by (Err e) is free = cc free
    by (Ok last) is free =
        lawful last (judged-line Small past fields last is) (sym (same-fault (item_of past last) (answers_after (last ∷ past) rest)) ∙ free)

-- ---- the items before a seal are those of the records before it

items-until : (left : List Record) (k : ℕ) (past : List Line) → (answers_after past left).fault ≡ None
    → items_in past ++ items_until (answers_after past left).items k ≡ items_in (lines_after past (records_until left k))
items-until [] k past free = append-nil (items_in past)
items-until (fields ∷ rest) k past free =
    by-line past fields rest (λ ahead. items_in past ++ items_until ahead.items k ≡ items_in (lines_after past (records_until (fields ∷ rest) k))) free
    (λ last line clean. by last line (is_by_none fields) refl k (λ j. items-until rest j (last ∷ past) clean))
  where
    by : (last : Line) → line_of fields ≡ Ok last → (b : Bool) → is_by_none fields ≡ b → (j : ℕ)
        → ((j : ℕ) → items_in (last ∷ past) ++ items_until (answers_after (last ∷ past) rest).items j
        ≡ items_in (lines_after (last ∷ past) (records_until rest j)))
        → items_in past ++ items_until (after_item (item_of past last) (answers_after (last ∷ past) rest)).items j
        ≡ items_in (lines_after past (records_until (fields ∷ rest) j))
    by last line false none j next =
        item-other (items_in past) past last (answers_after (last ∷ past) rest) j (sealed-by fields last line ∙ none)
        ∙ next j
        ∙ ap items_in (lines-more past fields last (records_until rest j) line)
        ∙ ap (λ records. items_in (lines_after past records)) (sym (until-other fields rest j none))
    by last line true none zero next =
        ap (λ items. items_in past ++ items) (item-first past last (answers_after (last ∷ past) rest) (sealed-by fields last line ∙ none))
        ∙ append-nil (items_in past)
        ∙ ap (λ records. items_in (lines_after past records)) (sym (until-first fields rest none))
    by last line true none (suc j) next =
        item-later (items_in past) past last (answers_after (last ∷ past) rest) j (sealed-by fields last line ∙ none)
        ∙ next j
        ∙ ap items_in (lines-more past fields last (records_until rest j) line)
        ∙ ap (λ records. items_in (lines_after past records)) (sym (until-later fields rest j none))

-- ---- the seals are those records that name no session

abbrev sealed : List Record → List Item
sealed [] = []
sealed (fields ∷ rest) = item.Seal ∷ sealed rest

first-none : (fields : Record) (rest : List Record) → is_by_none fields ≡ true → sealed (records_by_none (fields ∷ rest)) ≡ item.Seal ∷ sealed (records_by_none rest)
first-none fields rest e = rw e refl

first-other : (fields : Record) (rest : List Record) → is_by_none fields ≡ false → sealed (records_by_none (fields ∷ rest)) ≡ sealed (records_by_none rest)
first-other fields rest e = rw e refl

seals-of : (left : List Record) (past : List Line) → (answers_after past left).fault ≡ None → seals_in (answers_after past left).items ≡ sealed (records_by_none left)
seals-of [] past free = refl
seals-of (fields ∷ rest) past free =
    by-line past fields rest (λ ahead. seals_in ahead.items ≡ sealed (records_by_none (fields ∷ rest))) free
    (λ last line clean. by last line (is_by_none fields) refl (seals-of rest (last ∷ past) clean))
  where
    by : (last : Line) → line_of fields ≡ Ok last → (b : Bool) → is_by_none fields ≡ b
        → seals_in (answers_after (last ∷ past) rest).items ≡ sealed (records_by_none rest)
        → seals_in (after_item (item_of past last) (answers_after (last ∷ past) rest)).items ≡ sealed (records_by_none (fields ∷ rest))
    by last line false none next =
        seal-other past last (answers_after (last ∷ past) rest) (sealed-by fields last line ∙ none) ∙ next ∙ sym (first-other fields rest none)
    by last line true none next =
        seal-first past last (answers_after (last ∷ past) rest) (sealed-by fields last line ∙ none)
        ∙ ap (λ items. item.Seal ∷ items) next ∙ sym (first-none fields rest none)

-- ---- the law

until-all : (records : List Record) (k : ℕ) → length records ≤ k → records_until records k ≡ records
until-all [] k h = refl
until-all (fields ∷ rest) zero h = absurd (omega arith)
until-all (fields ∷ rest) (suc k) h = by (is_by_none fields) refl (until-all rest k (omega arith)) (until-all rest (suc k) (omega arith))
  where
    by : (b : Bool) → is_by_none fields ≡ b → records_until rest k ≡ rest → records_until rest (suc k) ≡ rest → records_until (fields ∷ rest) (suc k) ≡ fields ∷ rest
    by true e one other = until-later fields rest k e ∙ ap (λ records. fields ∷ records) one
    by false e one other = until-other fields rest (suc k) e ∙ ap (λ records. fields ∷ records) other

pub alike-interleaved : (some other : List Record) → AreSealedAlike some other → AreInterleaved some other
alike-interleaved some other alike q =
    ap (filter (is_by q)) (sym (until-all some (length some + length other) (omega arith)))
    ∙ alike.each (length some + length other) q
    ∙ ap (filter (is_by q)) (until-all other (length some + length other) (omega arith))

pub sealed-lawful : (text other : List ℕ) → AreSealedAlike (records_of text) (records_of other) → (answers_of text).fault ≡ None → (answers_of other).fault ≡ None
sealed-lawful text other alike free = interleaved-lawful text other (alike-interleaved (records_of text) (records_of other) alike) alike.seals free

pub sealed-seals : (text other : List ℕ) → AreSealedAlike (records_of text) (records_of other) → (answers_of text).fault ≡ None
    → seals_in (answers_of text).items ≡ seals_in (answers_of other).items
sealed-seals text other alike free =
    seals-settled _ (given_within Small text).items finite.empty [] ∙ seals-of (records_of text) [] free ∙ ap sealed alike.seals
    ∙ sym (seals-settled _ (given_within Small other).items finite.empty [] ∙ seals-of (records_of other) [] (sealed-lawful text other alike free))

-- the records before a seal are the first of all
until-first-of : (records : List Record) (k : ℕ) → (rest : List Record) × (records ≡ records_until records k ++ rest)
until-first-of [] k = ([], refl)
until-first-of (fields ∷ rest) zero = by (is_by_none fields) refl (until-first-of rest zero)
  where
    by : (b : Bool) → is_by_none fields ≡ b → (more : List Record) × (rest ≡ records_until rest zero ++ more)
        → (more : List Record) × (fields ∷ rest ≡ records_until (fields ∷ rest) zero ++ more)
    by true e (more, is) = (fields ∷ rest, ap (λ records. records ++ fields ∷ rest) (sym (until-first fields rest e)))
    by false e (more, is) = (more, ap (λ records. fields ∷ records) is ∙ ap (λ records. records ++ more) (sym (until-other fields rest zero e)))
until-first-of (fields ∷ rest) (suc k) = by (is_by_none fields) refl (until-first-of rest k) (until-first-of rest (suc k))
  where
    by : (b : Bool) → is_by_none fields ≡ b → (more : List Record) × (rest ≡ records_until rest k ++ more)
        → (more : List Record) × (rest ≡ records_until rest (suc k) ++ more)
        → (more : List Record) × (fields ∷ rest ≡ records_until (fields ∷ rest) (suc k) ++ more)
    by true e (more, is) other = (more, ap (λ records. fields ∷ records) is ∙ ap (λ records. records ++ more) (sym (until-later fields rest k e)))
    by false e one (more, is) = (more, ap (λ records. fields ∷ records) is ∙ ap (λ records. records ++ more) (sym (until-other fields rest (suc k) e)))

lines-append : (xs ys : List Record) (past : List Line) → lines_after past (xs ++ ys) ≡ lines_after (lines_after past xs) ys
lines-append [] ys past = refl
lines-append (fields ∷ xs) ys past = lines-append xs ys (noted (line_of fields) past)

lawful-until : (text : List ℕ) (k : ℕ) → (answers_of text).fault ≡ None → AreLawful Small (lines_after [] (records_until (records_of text) k))
lawful-until text k free =
    let (rest, is) = until-first-of (records_of text) k in
    lawful-before rest (lines_after [] (records_until (records_of text) k))
    (subst (AreLawful Small) (ap (lines_after []) is ∙ lines-append (records_until (records_of text) k) rest []) (clean-after (records_of text) [] tt free).lawful)

-- settled items before a seal are those of the items before it
until-told : (xs : Pending) (items : List Item) (k : ℕ) → items_until (map told xs ++ items) k ≡ map told xs ++ items_until items k
until-told [] items k = refl
until-told (x ∷ xs) items zero = ap (λ rest. told x ∷ rest) (until-told xs items zero)
until-told (x ∷ xs) items (suc k) = ap (λ rest. told x ∷ rest) (until-told xs items (suc k))

until-settled : (items : List Item) (k : ℕ) (s : Sessions) (pending : Pending)
    → items_until (settled_after true s pending items) k ≡ settled_after true s pending (items_until items k)
until-settled [] k s pending =
    ap (λ items. items_until items k) (sym (append-nil (shown s pending))) ∙ until-told (seen_among s pending) [] k ∙ append-nil (shown s pending)
until-settled (item.Finished session txn ∷ items) zero s pending =
    ap (λ rest. item.Finished session txn ∷ rest) (until-settled items zero (with_transaction s session txn) pending)
until-settled (item.Finished session txn ∷ items) (suc k) s pending =
    ap (λ rest. item.Finished session txn ∷ rest) (until-settled items (suc k) (with_transaction s session txn) pending)
until-settled (item.Unknown session txn ∷ items) zero s pending = until-settled items zero s (pending ++ (session, txn) ∷ [])
until-settled (item.Unknown session txn ∷ items) (suc k) s pending = until-settled items (suc k) s (pending ++ (session, txn) ∷ [])
until-settled (item.Seal ∷ items) zero s pending = until-told (seen_among s pending) _ zero ∙ append-nil (shown s pending)
until-settled (item.Seal ∷ items) (suc k) s pending =
    until-told (seen_among s pending) _ (suc k)
    ∙ ap (λ rest. shown s pending ++ item.Seal ∷ rest) (until-settled items k (with_shown s pending) (unseen_among s pending))
until-settled (item.End ∷ items) zero s pending = ap (λ rest. item.End ∷ rest) (until-settled items zero s pending)
until-settled (item.End ∷ items) (suc k) s pending = ap (λ rest. item.End ∷ rest) (until-settled items (suc k) s pending)

-- for records without a fault
whole-items : (text : List ℕ) → (answers_of text).fault ≡ None
    → (answers_of text).items ≡ settled_after true finite.empty [] (given_within Small text).items
whole-items text free = ap (λ o. settled_after (is_none o) finite.empty [] (given_within Small text).items) free

finished-until : (text : List ℕ) → (answers_of text).fault ≡ None → (k : ℕ)
    → finished_in (items_until (answers_of text).items k) ≡ settled_by (lines_after [] (records_until (records_of text) k))
finished-until text free k =
    ap (λ items. finished_in (items_until items k)) (whole-items text free)
    ∙ ap finished_in (until-settled (given_within Small text).items k finite.empty [])
    ∙ ap (λ items. finished_in (settled_after true finite.empty [] items)) (items-until (records_of text) k [] free)

pub sealed-finished : (text other : List ℕ) → AreSealedAlike (records_of text) (records_of other) → (answers_of text).fault ≡ None → (k : ℕ)
    → finished_in (items_until (answers_of text).items k) ≡ finished_in (items_until (answers_of other).items k)
sealed-finished text other alike free k =
    let clean = sealed-lawful text other alike free in
    finished-until text free k
    ∙ settled-same Small (lines_after [] (records_until (records_of text) k)) (lines_after [] (records_until (records_of other) k))
    (lawful-until text k free) (lawful-until other k clean)
    (same-lines (records_until (records_of text) k) (records_until (records_of other) k) (alike.each k))
    ∙ sym (finished-until other clean k)

-- ---- wherever they seal

finished-of : (text : List ℕ) → (answers_of text).fault ≡ None → finished_in (answers_of text).items ≡ settled_by (lines_after [] (records_of text))
finished-of text free =
    ap finished_in (whole-items text free)
    ∙ ap (λ items. finished_in (settled_after true finite.empty [] items)) (items-of (records_of text) [] free)

pub interleaved-finished : (text other : List ℕ) → AreInterleaved (records_of text) (records_of other)
    → (answers_of text).fault ≡ None → (answers_of other).fault ≡ None → finished_in (answers_of text).items ≡ finished_in (answers_of other).items
interleaved-finished text other interleaved free clean =
    finished-of text free
    ∙ settled-same Small (lines_after [] (records_of text)) (lines_after [] (records_of other)) (clean-after (records_of text) [] tt free).lawful
    (clean-after (records_of other) [] tt clean).lawful (same-lines (records_of text) (records_of other) interleaved)
    ∙ sym (finished-of other clean)
