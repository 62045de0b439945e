-- One record taken off the records that a reader has left.
use Rattle.std.proofs.Common.{◌≡◌, ℕ, zero, suc, ◌+◌, ◌<◌, ◌≤◌, Bool, true, false, List, [], ◌∷◌, ◌++◌, length, Option}
use Rattle.std.proofs.Common.{option_map, None, Some, refl, sym, ap, inl, inr, ◌∙◌, arith, append_assoc, cond, add-one}
use Rattle.std.proofs.Common.{length-append}
use Rattle.std.specs.Prelude.{◌-◌, ◌==◌, IfErr, MatchResult, OnOk, Result, Ok, Err, get_or}
use Rattle.std.proofs.Math.Seq.{get_or-append_seam}
use Rattle.csv.specs.Machine.{Read, step, next_record, ends_at_end, is_end, fields_after}
use Rattle.csv.specs.Machine.{field_after, in_field, start_field, start_record, after_end}
use Rattle.csv.specs.Machine.{ends_with}
use Rattle.csv.specs.Reading.{ReadRecord, Reached, default_config, reader_state, records_from, records_next}
use Rattle.csv.specs.declared.parser.State.{State}
use Rattle.csv.specs.declared.parser.State.TheVariants as st
use Rattle.csv.specs.declared.parser.Action.{Action}
use Rattle.csv.specs.declared.parser.Action.TheVariants as act
use Rattle.csv.specs.declared.parser.Terminator.TheVariants as term
use Rattle.csv.proofs.ReadFacts.{rows-end, rows-more}
use Rattle.tcc_rows.specs.Lines.{Record}
use Rattle.tcc_rows.specs.ByteLimit.{limited_remaining}
use Rattle.tcc_rows.specs.Reached.{StandsBy, StandsIn, is_of_record, record_at}
use Rattle.tcc_rows.specs.RecordsLeft.{HasLeft, IsPlain, record_of, records_after}
use Rattle.tcc_rows.specs.Ahead.{IsFailure}
use Rattle.tcc_rows.specs.private.Stages.{StopsIn, TakesRecord}
use Rattle.tcc_rows.specs.declared.fault.RowFault.{RowFault}
use Rattle.tcc_rows.specs.declared.fault.RowFaultKind.{RowFaultKind}
use Rattle.tcc_rows.specs.declared.rows.RowsStage.TheVariants as stage
use Rattle.tcc_rows.specs.declared.rows.Rows.{Rows}
use Rattle.tcc_rows.specs.declared.rows.records.Records.{Records}

-- a step of the machine that ends a record leaves a state between two records
IsBetween : State × Action → Type 0
IsBetween p = is_end p.1 ≡ true → ends_at_end p.0 ≡ false

-- of two such steps either is one
either-between : (b : Bool) (p q : State × Action) → IsBetween p → IsBetween q → IsBetween (cond b p q)
either-between true p q a b = a
either-between false p q a b = b

goes-on : (s : State) (a : Action) → is_end a ≡ false → IsBetween (s, a)
unfolding IsBetween
goes-on s a e t = cc (e, t)

ends-between : (c : ℕ) → IsBetween (after_end term.CRLF c, act.EndRecord)
unfolding IsBetween
ends-between c t = by (c == 13)
  where
    by : (b : Bool) → ends_at_end (cond b st.AfterCr st.StartRecord) ≡ false
    by true = refl
    by false = refl

in_field-between : (c : ℕ) → IsBetween (in_field default_config c)
in_field-between c =
    either-between (c == 44) (st.StartField, act.EndField) (cond (ends_with term.CRLF c) (after_end term.CRLF c, act.EndRecord) (st.InField, act.Copy))
    (goes-on st.StartField act.EndField refl)
    (either-between (ends_with term.CRLF c) (after_end term.CRLF c, act.EndRecord) (st.InField, act.Copy) (ends-between c) (goes-on st.InField act.Copy refl))

start_field-between : (c : ℕ) → IsBetween (start_field default_config c)
start_field-between c =
    either-between (c == 34) (st.InQuoted, act.Skip) (in_field default_config c) (goes-on st.InQuoted act.Skip refl) (in_field-between c)

start_record-between : (c : ℕ) → IsBetween (start_record default_config c)
start_record-between c =
    either-between (ends_with term.CRLF c) (st.StartRecord, act.Skip) (start_field default_config c) (goes-on st.StartRecord act.Skip refl)
    (start_field-between c)

step-between : (s : State) (c : ℕ) → IsBetween (step default_config s c)
step-between st.StartRecord c = start_record-between c
step-between st.StartField c = start_field-between c
step-between st.InField c = in_field-between c
step-between st.InQuoted c =
    either-between (c == 34) (st.AfterQuote, act.Skip) (st.InQuoted, act.Copy) (goes-on st.AfterQuote act.Skip refl) (goes-on st.InQuoted act.Copy refl)
step-between st.InEscape c = goes-on st.InQuoted act.Copy refl
step-between st.AfterQuote c =
    either-between (c == 34) (st.InQuoted, act.Copy) (in_field default_config c) (goes-on st.InQuoted act.Copy refl) (in_field-between c)
step-between st.InComment c =
    either-between (c == 10) (st.StartRecord, act.Skip) (st.InComment, act.Skip) (goes-on st.StartRecord act.Skip refl) (goes-on st.InComment act.Skip refl)
step-between st.AfterCr c =
    either-between (c == 10) (st.StartRecord, act.Skip) (start_record default_config c) (goes-on st.StartRecord act.Skip refl) (start_record-between c)

-- what a read of a record leaves: a state between two records, and no more bytes than there were
pub record Leaves (text : List ℕ) (p : Read) : Type 0 where
  pub between : ends_at_end p.1 ≡ false
  pub shorter : length p.2 ≤ length text

at-text-end : (fields : List (List ℕ)) (p : Read) → ◌≡◌ {A = Option Read} (Some (fields, st.StartRecord, [])) (Some p) → Leaves [] p
at-text-end fields p e =
    let same : ◌≡◌ {A = Read} (fields, st.StartRecord, []) p = cc e in
    rw (← same) (record { between = refl; shorter = omega arith })

at-record-end : (s : State) (c : ℕ) (rest : List ℕ) (fields : List (List ℕ)) (p : Read) → is_end (step default_config s c).1 ≡ true
    → ◌≡◌ {A = Option Read} (Some (fields, (step default_config s c).0, rest)) (Some p) → Leaves (c ∷ rest) p
unfolding IsBetween
at-record-end s c rest fields p t e =
    let same : ◌≡◌ {A = Read} (fields, (step default_config s c).0, rest) p = cc e in
    rw (← same) (record { between = step-between s c t; shorter = omega arith })

longer : (c : ℕ) (rest : List ℕ) (p : Read) → Leaves rest p → Leaves (c ∷ rest) p
longer c rest p h = record { between = h.between; shorter = omega (arith, h.shorter) }

no-record : (fields : List (List ℕ)) {b : Bool} (p : Read) → b ≡ false → ◌≡◌ {A = Option Read} (cond b (Some (fields, st.StartRecord, [])) None) (Some p) → ⊥
no-record fields p f e = cc (rw f at e)

some-rest : (fields : List (List ℕ)) (s : State) (rest : List ℕ) (p : Read) → ◌≡◌ {A = Option Read} (Some (fields, s, rest)) (Some p) → rest ≡ p.2
some-rest fields s rest p e = let same : ◌≡◌ {A = Read} (fields, s, rest) p = cc e in ap (λ q. q.2) same

pub next_record-leaves : (s : State) (fields : List (List ℕ)) (field text : List ℕ) (p : Read)
    → next_record default_config s fields field text ≡ Some p → Leaves text p
unfolding next_record
next_record-leaves s fields field [] p e = by (ends_at_end s) e
  where
    by : (b : Bool) → cond b (Some (fields ++ field ∷ [], st.StartRecord, [])) None ≡ Some p → Leaves [] p
    by true e = at-text-end _ p e
    by false e = cc e
next_record-leaves s fields field (c ∷ rest) p e =
    by (is_end (step default_config s c).1) refl e
    (next_record-leaves (step default_config s c).0 (fields_after (step default_config s c).1 fields field)
    (field_after (step default_config s c).1 c field) rest p)
  where
    by : (b : Bool) → is_end (step default_config s c).1 ≡ b
        → cond b (Some (fields_after (step default_config s c).1 fields field, (step default_config s c).0, rest))
        (next_record default_config (step default_config s c).0 (fields_after (step default_config s c).1 fields field)
        (field_after (step default_config s c).1 c field) rest) ≡ Some p
        → (next_record default_config (step default_config s c).0 (fields_after (step default_config s c).1 fields field)
        (field_after (step default_config s c).1 c field) rest ≡ Some p → Leaves rest p)
        → Leaves (c ∷ rest) p
    by true t e more = at-record-end s c rest _ p t e
    by false t e more = longer c rest p (more e)

between-records : (s : State) (text : List ℕ) (p : Read) → next_record default_config s [] [] text ≡ Some p → ends_at_end p.1 ≡ false
between-records s text p e = (next_record-leaves s [] [] text p e).between

-- between two records each record takes a byte at least
pub next_record-shorter : (s : State) (text : List ℕ) (p : Read) → ends_at_end s ≡ false
    → next_record default_config s [] [] text ≡ Some p → length p.2 < length text
unfolding next_record
next_record-shorter s [] p between e = absurd (no-record _ p between e)
next_record-shorter s (c ∷ rest) p between e =
    by (is_end (step default_config s c).1) refl e
  where
    by : (b : Bool) → is_end (step default_config s c).1 ≡ b
        → cond b (Some (fields_after (step default_config s c).1 [] [], (step default_config s c).0, rest))
        (next_record default_config (step default_config s c).0 (fields_after (step default_config s c).1 [] [])
        (field_after (step default_config s c).1 c []) rest) ≡ Some p
        → length p.2 < length (c ∷ rest)
    by true t e = let at : rest ≡ p.2 = some-rest _ _ _ p e in omega (arith, ap length at)
    by false t e = let h : length p.2 ≤ length rest = (next_record-leaves _ _ _ rest p e).shorter in omega arith

-- if there are more turns than bytes, their number makes no difference
records_from-turns : (m n : ℕ) (s : State) (text : List ℕ) → ends_at_end s ≡ false → length text < m → length text < n
    → records_from default_config m s text ≡ records_from default_config n s text
unfolding records_from
records_from-turns zero n s text between a b = absurd (omega arith)
records_from-turns (suc m) zero s text between a b = absurd (omega arith)
records_from-turns (suc m) (suc n) s text between a b =
    by (next_record default_config s [] [] text) refl (λ p. records_from-turns m n p.1 p.2)
  where
    by : (o : Option Read) → next_record default_config s [] [] text ≡ o
        → ((p : Read) → ends_at_end p.1 ≡ false → length p.2 < m → length p.2 < n
        → records_from default_config m p.1 p.2 ≡ records_from default_config n p.1 p.2)
        → records_next (records_from default_config m) o ≡ records_next (records_from default_config n) o
    by None e more = refl
    by (Some p) e more =
        let left : length p.2 < length text = next_record-shorter s text p between e in
        ap (λ rest. p.0 ∷ rest) (more p (next_record-leaves s [] [] text p e).between (omega arith) (omega arith))

-- a record, and then those after it
pub records_after-some : (s : State) (text : List ℕ) (p : Read) → ends_at_end s ≡ false → next_record default_config s [] [] text ≡ Some p
    → records_after s text ≡ p.0 ∷ records_after p.1 p.2
unfolding records_from
records_after-some s text p between e =
    let turns : length text + 1 ≡ suc (length text) = add-one _ in
    let left : length p.2 < length text = next_record-shorter s text p between e in
    rw (turns, e) (ap (λ rest. p.0 ∷ rest) (records_from-turns (length text) (length p.2 + 1) p.1 p.2 (next_record-leaves s [] [] text p e).between left
    (omega arith)))

-- no record, and none after it
pub records_after-none : (s : State) (text : List ℕ) → next_record default_config s [] [] text ≡ None → records_after s text ≡ []
unfolding records_from
records_after-none s text e =
    let turns : length text + 1 ≡ suc (length text) = add-one _ in
    rw (turns, e) refl

-- what an option's mapped value says of the option
from-map : {A B : Type 0} (f : A → B) (o : Option A) (b : B) → option_map f o ≡ Some b → (a : A) × (o ≡ Some a) × (f a ≡ b)
from-map f None b e = cc e
from-map f (Some a) b e = (a, refl, cc e)

same-records : (a b : Record) (s t : State) (xs ys : List ℕ) → b ≡ a → s ≡ t → xs ≡ ys → a ∷ records_after s xs ≡ b ∷ records_after t ys
same-records a b s t xs ys e f h = rw (e, f, h) refl

-- what a read of a record does to the records that are left
pub takes-record : {R : Type 0} (remaining : R → Option (List ℕ)) (old new : Records R) (left : List Record) (found : Bool)
    → HasLeft remaining old left → ReadRecord (limited_remaining remaining) old.reader new.reader found (record_of new) → IsPlain new.reader
    → TakesRecord remaining left found new
unfolding Reached
takes-record remaining old new left true has read plain =
    let (text, known, all) = from-map _ _ _ has.known in
    let (rest, known_rest, reached) =
    rows-more (limited_remaining remaining) old.reader new.reader (record_of new) default_config
    (reader_state old.reader) text text [] has.plain.config known (refl, refl) read in
    let (p, next, fields, at) = reached in
    let first : records_after (reader_state old.reader) text ≡ p.0 ∷ records_after p.1 p.2 = records_after-some _ text p has.between next in
    let later : ends_at_end p.1 ≡ false = between-records _ text p next in (
      records_after (reader_state new.reader) rest,
      sym all ∙ first ∙ same-records p.0 (record_of new) p.1 (reader_state new.reader) p.2 rest fields at.0 at.1,
      record { plain = plain; between = rw at.0 at later; known = ap (option_map (records_after (reader_state new.reader))) known_rest },
    )
takes-record remaining old new left false has read plain =
    let (text, known, all) = from-map _ _ _ has.known in
    let none = rows-end (limited_remaining remaining) old.reader new.reader (record_of new) default_config text has.plain.config known read in
    sym all ∙ records_after-none _ text none

-- one more record of a text was read
pub stands-on : {R : Type 0} (remaining : R → Option (List ℕ)) (old new : Records R) (all : List Record) (stands : StandsIn remaining old all)
    → TakesRecord remaining stands.left true new → new.count ≡ old.count + 1 → new.stage ≡ old.stage → StandsIn remaining new all
stands-on remaining old new all stands taken count kept =
    let last : List Record = record_of new ∷ [] in
    let whole : all ≡ stands.first ++ (record_of new ∷ taken.0) = stands.whole ∙ ap (λ rest. stands.first ++ rest) taken.1 in
    let here : length stands.first ≡ new.count - 1 = omega (arith, count, stands.counted) in
    record {
      first = stands.first ++ last;
      left = taken.0;
      whole = stands.whole ∙ ap (λ rest. stands.first ++ rest) taken.1 ∙ sym (append_assoc stands.first last taken.0);
      counted = omega (arith, count, stands.counted, length-append stands.first last);
      rest = taken.2;
      last = λ some. sym (get_or-append_seam stands.first (record_of new) taken.0 []) ∙ ap (λ n. get_or (stands.first ++ record_of new ∷ taken.0) n []) here
          ∙ ap (λ rows. record_at new.count rows) (sym whole);
      going = kept ∙ stands.going;
    }

-- all records of a text were read
pub stands-ended : {R : Type 0} (remaining : R → Option (List ℕ)) (records : Records R) (all : List Record) (stands : StandsIn remaining records all)
    → stands.left ≡ [] → records.count ≡ length all
stands-ended remaining records all stands none =
    omega (arith, stands.counted, ap length stands.whole, length-append stands.first stands.left, ap length none)

-- no more records of a text were read than it has
pub stands-within : {R : Type 0} (remaining : R → Option (List ℕ)) (records : Records R) (all : List Record) → StandsIn remaining records all
    → records.count ≤ length all
stands-within remaining records all stands =
    omega (arith, stands.counted, ap length stands.whole, length-append stands.first stands.left)

-- the reading of a record failed, or memory was refused: the fault is not one of a record
pub failure-of-none : (k : RowFaultKind) → IsFailure k → is_of_record k ≡ true → ⊥
failure-of-none k (inl read) is = cc (rw read at is)
failure-of-none k (inr memory) is = cc (rw memory at is)

pub stops-unread : {R : Type 0} (records : Records R) (all : List Record) (k : RowFaultKind) → IsFailure k → records.count ≤ length all → StopsIn k all records
stops-unread records all k failure within = (within, λ is. absurd (failure-of-none k failure is))

-- the record that was read last is the one at the row that was reached
pub stops-at : {R : Type 0} (remaining : R → Option (List ℕ)) (records : Records R) (all : List Record) (k : RowFaultKind) → StandsIn remaining records all
    → 0 < records.count → StopsIn k all records
stops-at remaining records all k stands some = (stands-within remaining records all stands, λ is. rw stands.going (stands.last some))

-- the result for a line, or for the end, leaves the records as they are
pub line-stands : {R T : Type 0} (remaining : R → Option (List ℕ)) (old new : Rows R) (all : List Record) (result : Result T RowFault)
    → StandsIn remaining old.records all → 0 < old.records.count → new.records ≡ old.records → OnOk result (new.stage ≡ stage.Reading)
    → MatchResult result (λ _. StandsBy new.stage remaining new.records all) (λ fault. StopsIn fault.kind all new.records)
line-stands remaining old new all (Ok given) stands some kept reading = rw (reading, kept) stands
line-stands remaining old new all (Err fault) stands some kept reading = rw kept (stops-at remaining old.records all fault.kind stands some)

pub all-read : {R T : Type 0} (remaining : R → Option (List ℕ)) (old new : Rows R) (all : List Record) (result : Result T RowFault)
    → old.records.count ≡ length all → new.records ≡ old.records → OnOk result (new.stage ≡ stage.Ended)
    → IfErr result (λ fault. is_of_record fault.kind ≡ false)
    → MatchResult result (λ _. StandsBy new.stage remaining new.records all) (λ fault. StopsIn fault.kind all new.records)
all-read remaining old new all (Ok given) counted kept ended other = rw (ended, kept) counted
all-read remaining old new all (Err fault) counted kept ended other =
    rw kept (omega (arith, counted), λ is. absurd (cc (other, is)))
