-- The fields of a record, and the number that a field denotes.
use Rattle.std.proofs.Common.{◌≡◌, ℕ, zero, suc, ◌+◌, ◌*◌, ◌-◌, ◌<◌, ◌≤◌, ◌^◌, Bool, true, false, List, [], ◌∷◌}
use Rattle.std.proofs.Common.{length, take, drop, get_or, refl, ap, rules, arith, cond, nat_lt, ltb, inl, inr}
use Rattle.std.proofs.Common.{◌∙◌}
use Rattle.std.specs.Prelude.{IsSome, option_map, Option, None, Some, Result, Ok, Err, ◌&&◌, is_some, codes}
use Rattle.std.specs.Char.{digit_value, is_ascii_digit}
use Rattle.std.specs.Str.{all_ascii_digits}
use Rattle.std.specs.Str.Parse.{digits_value}
use Rattle.std.proofs.lemmas.Bool.Decides.{nat_tests}
use Rattle.std.proofs.lemmas.Int.Digits.{digits_value_more}
use Rattle.std.proofs.lemmas.List.{at_drop_more, drop_all, take_all}
use Rattle.std.proofs.lemmas.Str.Parse.{digits_value-take-le}
use Rattle.csv.specs.Records.{field_at}
use Rattle.tcc_txn.specs.Bytes.{same}
use Rattle.tcc_rows.specs.Lines.{Record, digits_of, in_session, line_of, op_of}
use Rattle.tcc_rows.specs.private.Words.{access_of, session_of}
use Rattle.tcc_txn.specs.Names.{name_fault}
use Rattle.tcc_rows.specs.private.Passing.{PassesLine, PassesOperation}
use Rattle.tcc_txn.specs.declared.limits.Limits.{Limits}
use Rattle.tcc_txn.specs.declared.op.Op.{Op}
use Rattle.tcc_rows.specs.declared.fault.RowFaultKind.{RowFaultKind}
use Rattle.tcc_rows.specs.Line.{Line}
use Rattle.tcc_rows.specs.Line as line
use Rattle.tcc_rows.specs.declared.fault.RowFaultKind.TheVariants as kind
use Rattle.tcc_rows.specs.declared.rows.progress.RowProgress.{RowProgress}

digits-by : (a b : Bool) (n : ℕ) → (a ≡ true → b ≡ true → ⊥) → cond (a && b) (Some n) None ≡ None
digits-by true true n h = absurd (h refl refl)
digits-by true false n h = refl
digits-by false b n h = refl

below : (m n : ℕ) → nat_lt m n ≡ true → m < n
below m n e = grind (arith, nat_tests)

-- bytes with another byte than a digit denote no number
pub digits_of-other : (bytes : List ℕ) → all_ascii_digits bytes ≡ false → digits_of bytes ≡ None
digits_of-other [] other = refl
digits_of-other (c ∷ cs) other = rw other refl

-- digits that denote more than 64 bits hold
pub digits_of-large : (bytes : List ℕ) → 2 ^ 64 ≤ digits_value 10 bytes → digits_of bytes ≡ None
digits_of-large [] large = refl
digits_of-large (c ∷ cs) large =
    digits-by (all_ascii_digits (c ∷ cs)) (nat_lt (digits_value 10 (c ∷ cs)) (2 ^ 64)) _ (λ _ small. absurd (omega (arith, large, below _ _ small)))

-- digits that 64 bits can hold
pub digits_of-all : (bytes : List ℕ) (value : ℕ) → 0 < length bytes → all_ascii_digits bytes ≡ true → value ≡ digits_value 10 bytes → value < 2 ^ 64
    → Some value ≡ digits_of bytes
digits_of-all [] value some digits is room = absurd (omega (arith, some))
digits_of-all (c ∷ cs) value some digits is room =
    let small : nat_lt (digits_value 10 (c ∷ cs)) (2 ^ 64) ≡ true = grind (arith, nat_tests, is, room) in
    rw (digits, small) (ap Some is)

-- one more digit
pub digits-more : (ds : List ℕ) (i : ℕ) → i < length ds → is_ascii_digit (get_or ds i 0) ≡ true
    → all_ascii_digits (drop i ds) ≡ all_ascii_digits (drop (i + 1) ds)
digits-more ds i lt is = at_drop_more all_ascii_digits ds i 0 lt ∙ rw is refl

pub digits-end : (ds : List ℕ) (i : ℕ) → i < length ds → is_ascii_digit (get_or ds i 0) ≡ false → all_ascii_digits (drop i ds) ≡ false
digits-end ds i lt isnt = at_drop_more all_ascii_digits ds i 0 lt ∙ rw isnt refl

pub digit-bounds : (c : ℕ) → is_ascii_digit c ≡ true → (48 ≤ c) × (c ≤ 57)
digit-bounds c is = (grind (arith, nat_tests), grind (arith, nat_tests))

digit-value : (c : ℕ) → 48 ≤ c → c ≤ 57 → digit_value c ≡ c - 48
digit-value c low high =
    let above : ltb c 48 ≡ false = grind (arith, nat_tests) in
    let within : ltb c 58 ≡ true = grind (arith, nat_tests) in
    rw (above, within) refl

pub value-more : (ds : List ℕ) (i value : ℕ) → i < length ds → is_ascii_digit (get_or ds i 0) ≡ true → value ≡ digits_value 10 (take i ds)
    → value * 10 + (get_or ds i 0 - 48) ≡ digits_value 10 (take (i + 1) ds)
value-more ds i value lt is so_far =
    let bounds = digit-bounds (get_or ds i 0) is in
    let digit = digit-value (get_or ds i 0) bounds.0 bounds.1 in
    rw (digits_value_more 10 ds i lt, digit) (omega (arith, so_far))

-- at the end all bytes are digits, and all are read
pub digits-whole : (ds : List ℕ) (i : ℕ) → length ds ≤ i → all_ascii_digits (drop i ds) ≡ true
digits-whole ds i end = ap all_ascii_digits (drop_all i ds end) ∙ refl

pub value-whole : (ds : List ℕ) (i : ℕ) → length ds ≤ i → digits_value 10 (take i ds) ≡ digits_value 10 ds
value-whole ds i end = ap (digits_value 10) (take_all i ds end)

-- the number of a prefix of the digits fits, if the number of all digits fits
pub value-large : (ds : List ℕ) (i : ℕ) → 2 ^ 64 ≤ digits_value 10 (take i ds) → 2 ^ 64 ≤ digits_value 10 ds
value-large ds i large = omega (arith, large, digits_value-take-le 10 ds i (omega arith))

-- a record has a field at each index below its length
pub field-there : {A : Type 0} (f : A → List ℕ) (o : Option A) (fields : Record) (index : ℕ) → index < length fields
    → option_map f o ≡ field_at fields index → IsSome o
unfolding field_at
field-there f (Some a) fields index within e = search rules
field-there f None [] index within e = absurd (omega arith)
field-there f None (field ∷ fields) zero within e = cc e
field-there f None (field ∷ fields) (suc index) within e = field-there f None fields index (omega arith) e

-- a record of one field, of two and of four
pub one-field : (fields : Record) (a : List ℕ) → length fields ≡ 1 → Some a ≡ field_at fields 0 → a ∷ [] ≡ fields
unfolding field_at
one-field [] a count e = absurd (omega arith)
one-field (f ∷ []) a count e = cc e
one-field (f ∷ g ∷ more) a count e = absurd (omega arith)

pub two-fields : (fields : Record) (a b : List ℕ) → length fields ≡ 2 → Some a ≡ field_at fields 0 → Some b ≡ field_at fields 1 → a ∷ b ∷ [] ≡ fields
unfolding field_at
two-fields [] a b count d e = absurd (omega arith)
two-fields (f ∷ []) a b count d e = absurd (omega arith)
two-fields (f ∷ g ∷ []) a b count d e = cc (d, e)
two-fields (f ∷ g ∷ h ∷ more) a b count d e = absurd (omega arith)

pub four-fields : (fields : Record) (a b c d : List ℕ) → length fields ≡ 4
    → Some a ≡ field_at fields 0 → Some b ≡ field_at fields 1 → Some c ≡ field_at fields 2 → Some d ≡ field_at fields 3 → a ∷ b ∷ c ∷ d ∷ [] ≡ fields
unfolding field_at
four-fields [] a b c d count e0 e1 e2 e3 = absurd (omega arith)
four-fields (f ∷ []) a b c d count e0 e1 e2 e3 = absurd (omega arith)
four-fields (f ∷ g ∷ []) a b c d count e0 e1 e2 e3 = absurd (omega arith)
four-fields (f ∷ g ∷ h ∷ []) a b c d count e0 e1 e2 e3 = absurd (omega arith)
four-fields (f ∷ g ∷ h ∷ i ∷ []) a b c d count e0 e1 e2 e3 = cc (e0, e1, e2, e3)
four-fields (f ∷ g ∷ h ∷ i ∷ j ∷ more) a b c d count e0 e1 e2 e3 = absurd (omega arith)

-- the line of four fields, by what each of them is read as
pub refused-session : (a b c d : List ℕ) (k : RowFaultKind) → session_of a ≡ Err k → line_of (a ∷ b ∷ c ∷ d ∷ []) ≡ Err k
refused-session a b c d k e = by (is_some (name_fault a)) _ e
  where
    by : (n : Bool) (rest : Result Line RowFaultKind) → cond n (Err kind.BadSession) (Ok a) ≡ Err k → cond n (Err kind.BadSession) rest ≡ Err k
    by true rest e = let same_kind : kind.BadSession ≡ k = cc e in ap Err same_kind
    by false rest e = cc e

named-session : (a s : List ℕ) → session_of a ≡ Ok s → (is_some (name_fault a) ≡ false) × (a ≡ s)
named-session a s e = by (is_some (name_fault a)) refl e
  where
    by : (n : Bool) → is_some (name_fault a) ≡ n → cond n (Err kind.BadSession) (Ok a) ≡ Ok s → (is_some (name_fault a) ≡ false) × (a ≡ s)
    by true is e = cc e
    by false is e = (is, cc e)

pub refused-word : (a b c d s : List ℕ) (k : RowFaultKind) → session_of a ≡ Ok s → access_of b ≡ Err k → line_of (a ∷ b ∷ c ∷ d ∷ []) ≡ Err k
refused-word a b c d s k session e = let is = (named-session a s session).0 in rw is (by (same b (codes "r")) (same b (codes "w")) _ _ e)
  where
    by : (r w : Bool) (x y : Result Line RowFaultKind) → cond r (Ok false) (cond w (Ok true) (Err kind.UnknownWord)) ≡ Err k
        → cond r x (cond w y (Err kind.UnknownWord)) ≡ Err k
    by true w x y e = cc e
    by false true x y e = cc e
    by false false x y e = let same_kind : kind.UnknownWord ≡ k = cc e in ap Err same_kind

accessed-line : (a b c d s : List ℕ) (writes : Bool) → session_of a ≡ Ok s → access_of b ≡ Ok writes
    → line_of (a ∷ b ∷ c ∷ d ∷ []) ≡ in_session s (op_of writes c d)
accessed-line a b c d s writes session e =
    let is = named-session a s session in
    rw (is.0, ← is.1) (by (same b (codes "r")) (same b (codes "w")) e)
  where
    by : (r w : Bool) → cond r (Ok false) (cond w (Ok true) (Err kind.UnknownWord)) ≡ Ok writes
        → cond r (in_session a (op_of false c d)) (cond w (in_session a (op_of true c d)) (Err kind.UnknownWord)) ≡ in_session a (op_of writes c d)
    by true w e = let at : false ≡ writes = cc e in ap (λ it. in_session a (op_of it c d)) at
    by false true e = let at : true ≡ writes = cc e in ap (λ it. in_session a (op_of it c d)) at
    by false false e = cc e

pub refused-op : (a b c d s : List ℕ) (writes : Bool) (k : RowFaultKind) → session_of a ≡ Ok s → access_of b ≡ Ok writes → op_of writes c d ≡ Err k
    → line_of (a ∷ b ∷ c ∷ d ∷ []) ≡ Err k
refused-op a b c d s writes k session access e = accessed-line a b c d s writes session access ∙ ap (in_session s) e

pub operation-line : (a b c d s : List ℕ) (writes : Bool) (op : Op) → session_of a ≡ Ok s → access_of b ≡ Ok writes → op_of writes c d ≡ Ok op
    → line_of (a ∷ b ∷ c ∷ d ∷ []) ≡ Ok (line.Operation s op)
operation-line a b c d s writes op session access e = accessed-line a b c d s writes session access ∙ ap (in_session s) e

-- the result of an operation, from that of its line
pub operation-passes : (limits : Limits) {U : Type 0} (past : List Line) (fields : Record) (session : List ℕ) (op : Op) (result : Result U RowFaultKind) (p : RowProgress)
    → line_of fields ≡ Ok (line.Operation session op) → PassesLine limits past (line.Operation session op) result p → PassesOperation limits past fields result p
operation-passes limits past fields session op (Ok done) p lawful (free, is) = (session, op, lawful, free, is)
operation-passes limits past fields session op (Err k) p lawful (inl fault) = inr (inl (line.Operation session op, lawful, fault))
operation-passes limits past fields session op (Err k) p lawful (inr want) = inr (inr want)
