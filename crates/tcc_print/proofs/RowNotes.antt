-- What is shown of a record.
use Rattle.std.proofs.Common.{◌≡◌, ◌<◌, ◌≤◌, ◌++◌, ◌∙◌, ℕ, zero, suc, Bool, true, false, List, [], ◌∷◌, Some, nat_eq, nat_le, nat_lt, map, length, take, drop, flat_map}
use Rattle.std.proofs.Common.{arith, refl, ap, sym, append_assoc, length-append, codes, decimal, Bor}
use Rattle.std.proofs.lemmas.Bool.Decides.{nat_tests}
use Rattle.std.proofs.lemmas.Grind.{flat_map-append}
use Rattle.std.proofs.lemmas.List.{length-take-le, take-append-drop, take-append-le, take_all}
use Rattle.std.proofs.lemmas.List.Concat.{flat_map-cons}
use Rattle.std.specs.Prelude.{slice_get, slice_index_or}
use Rattle.tcc_txn.specs.declared.limits.Limits.{Limits}
use Rattle.tcc_rows.specs.declared.fault.RowFault.{RowFault}
use Rattle.tcc_rows.specs.declared.fault.RowFaultKind.{RowFaultKind}
use Rattle.tcc_rows.specs.declared.fault.RowFaultKind.TheVariants as row_kind
use Rattle.tcc_print.specs.RowNotes.{expected_text, field_of, field_shown, line_shown, quoted, record_shown, row_note}
use Rattle.tcc_print.specs.RowNotes.{session_among, session_named, session_shown, shown_of, shown_text}

at-place : (fields : List (Bor (List ℕ))) (place : ℕ) (field : Bor (List ℕ)) → place < length fields → field ≡ slice_index_or fields place field
    → slice_get (map (λ f. f.now) fields) place ≡ Some field.now
at-place [] place field below is = absurd (let there = below in omega (arith, there))
at-place (f ∷ fs) zero field below is = ap (λ (g : Bor (List ℕ)). Some g.now) (sym is)
at-place (f ∷ fs) (suc place) field below is = at-place fs place field (let there = below in omega (arith, there)) is

-- a field that is there is shown
pub field-there : (fields : List (Bor (List ℕ))) (place : ℕ) (field : Bor (List ℕ)) → place < length fields → field ≡ slice_index_or fields place field
    → field_shown place (map (λ f. f.now) fields)
    ≡ quoted field.now ++ (session_shown place (map (λ f. f.now) fields) ++ codes ": ")
field-there fields place field below is = ap (field_of place (map (λ f. f.now) fields)) (at-place fields place field below is)

past-test : (place : ℕ) → 0 < place → nat_lt 0 place ≡ true
past-test place past = grind (arith, nat_tests, past)

-- a session that is named is shown with another field
pub session-there : (fields : List (List ℕ)) (place : ℕ) (session : List ℕ) → 0 < place → Some session ≡ session_among fields
    → session_shown place fields ≡ codes " of session " ++ quoted session
session-there fields place session past is = rw (past-test place past) (ap session_named (sym is))

-- ---- records of many fields

-- a field after the first, as it is in the line of its record
abbrev later : List ℕ → List ℕ
later field = codes "," ++ take 49 field

-- each of them has a comma at least
as-long : (fields : List (List ℕ)) → length fields ≤ length (flat_map later fields)
as-long [] = omega arith
as-long (f ∷ fs) =
    omega (arith, as-long fs, ap length (flat_map-cons later f fs), length-append (later f) (flat_map later fs))

-- where a text has more bytes than are shown, more of them after it change nothing
same-quoted : (front rest : List ℕ) → 48 < length front → quoted front ≡ quoted (front ++ rest)
same-quoted front rest long = rw (first, more front long, more (front ++ rest) (omega (arith, long, length-append front rest))) refl
  where
    first : take 48 (front ++ rest) ≡ take 48 front
    first = take-append-le 48 front rest (omega (arith, long))

    more : (bytes : List ℕ) → 48 < length bytes → nat_lt 48 (length bytes) ≡ true
    more bytes past = grind (arith, nat_tests, past)

-- a record of many fields is shown as its first 64 are
same-record : (first : List ℕ) (others : List (List ℕ)) → 63 ≤ length others → record_shown (first ∷ take 63 others) ≡ record_shown (first ∷ others)
same-record first others many =
    ap (λ text. text ++ codes ": ") (same-quoted (line_shown first (take 63 others)) (flat_map later (drop 63 others)) long ∙ ap quoted whole)
  where
    long : 48 < length (line_shown first (take 63 others))
    long = omega (arith, as-long (take 63 others), length-take-le 63 others many, length-append (take 49 first) (flat_map later (take 63 others)))

    whole : line_shown first (take 63 others) ++ flat_map later (drop 63 others) ≡ line_shown first others
    whole =
        append_assoc (take 49 first) (flat_map later (take 63 others)) (flat_map later (drop 63 others))
        ∙ ap (λ text. take 49 first ++ text) (sym (flat_map-append later (take 63 others) (drop 63 others)) ∙ ap (flat_map later) (take-append-drop 63 others))

unlike : (n m : ℕ) → m < n → nat_eq n m ≡ false
unlike n m less = grind (arith, nat_tests, less)

-- the note of a record needs no fields after the first 64
pub note-of-first : (limits : Limits) (fault : RowFault) (fields : List (List ℕ)) → row_note limits fault (take 64 fields) ≡ row_note limits fault fields
note-of-first limits fault [] = refl
note-of-first limits fault (a ∷ []) = refl
note-of-first limits fault (a ∷ b ∷ []) = refl
note-of-first limits fault (a ∷ b ∷ c ∷ []) = refl
note-of-first limits fault (a ∷ b ∷ c ∷ d ∷ []) = refl
note-of-first limits fault (a ∷ b ∷ c ∷ d ∷ e ∷ rest) =
    ap (λ text. codes "row " ++ (decimal fault.row ++ (codes ": " ++ text)))
    (λ i. shown i ++ (expected i ++ codes "\n"))
  where
    fields : List (List ℕ)
    fields = a ∷ b ∷ c ∷ d ∷ e ∷ rest

    few : List (List ℕ)
    few = take 64 fields

    record-same : record_shown few ≡ record_shown fields
    record-same = by (nat_le 63 (length (b ∷ c ∷ d ∷ e ∷ rest))) refl
      where
        by : (t : Bool) → nat_le 63 (length (b ∷ c ∷ d ∷ e ∷ rest)) ≡ t → record_shown few ≡ record_shown fields
        by true is = same-record a (b ∷ c ∷ d ∷ e ∷ rest) (grind (arith, nat_tests, is))
        by false is = ap record_shown (take_all 64 fields (grind (arith, nat_tests, is)))

    shown : shown_text (shown_of fault.kind (length few)) few ≡ shown_text (shown_of fault.kind (length fields)) fields
    shown = by fault.kind
      where
        by : (k : RowFaultKind) → shown_text (shown_of k (length few)) few ≡ shown_text (shown_of k (length fields)) fields
        by row_kind.UnknownWord = rw (unlike (length few) 1 (omega arith), unlike (length fields) 1 (omega arith)) refl
        by _ = cc record-same

    expected : expected_text limits fault.kind (length few) ≡ expected_text limits fault.kind (length fields)
    expected = by fault.kind
      where
        by : (k : RowFaultKind) → expected_text limits k (length few) ≡ expected_text limits k (length fields)
        by row_kind.UnknownWord = rw (
          unlike (length few) 1 (omega arith),
          unlike (length few) 2 (omega arith),
          unlike (length few) 4 (omega arith),
          unlike (length fields) 1 (omega arith),
          unlike (length fields) 2 (omega arith),
          unlike (length fields) 4 (omega arith),
        ) refl
        by _ = refl
