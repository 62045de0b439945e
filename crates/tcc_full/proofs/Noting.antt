-- What a table has after one record more.
use Rattle.std.proofs.Common.{◌≡◌, ℕ, zero, suc, get_or, set, map, ◌&&◌, ◌+◌, Bool, true, false, cond, filter, List, [], ◌∷◌, ◌++◌, length, Option, None, Some, Ok, Err, refl, sym, ap, ◌∙◌, arith, add-zero, length-append, inl}
use Rattle.std.specs.BTreeMap.{BTreeMap, IsEmpty, Updates, get}
use Rattle.std.specs.Cmp.Lexicographic.{slice_cmp, texts_ties}
use Rattle.std.specs.Global.{Vec}
use Rattle.std.specs.Option.{option_map_or}
use Rattle.std.specs.Prelude.{OnOk, Result, codes}
use Rattle.std.specs.Ordering.{nat_cmp}
use Rattle.csv.proofs.ReadFacts.{rows-end, rows-more}
use Rattle.csv.specs.Reading.{ReadRecord, default_config, has_failed, is_flexible, reader_config, reader_state, reader_trim, strip_bom, took_first}
use Rattle.csv.specs.declared.parser.State.TheVariants.{StartRecord}
use Rattle.csv.specs.Records.{field_at}
use Rattle.csv.specs.declared.reader.Reader.{Reader}
use Rattle.tcc_rows.specs.Lines.{Record}
use Rattle.tcc_rows.specs.RecordsLeft.{IsPlain}
use Rattle.tcc_txn.specs.Bytes.{same}
use Rattle.tcc_txn.specs.Names.{name_fault}
use Rattle.tcc_txn.specs.declared.name.NameFault.{NameFault}
use Rattle.tcc_txn.proofs.SortedParts.{same_names}
use Rattle.tcc_full.specs.Rows.{HasRowsOf, Rows, add_last, after_record, after_records, is_write, keep_writes, operation_at, rows_in, session_rows}
use Rattle.tcc_full.specs.private.Noting.{Changes, IsNoted, NotesRecord, is_word}
use Rattle.tcc_full.specs.declared.rows.OperationRow.{OperationRow}
use Rattle.tcc_full.specs.declared.rows.OperationRows.{OperationRows}

-- each session with the rows of its transactions
abbrev Table : Type 0
Table = BTreeMap (List ℕ) (Vec (Vec OperationRow))

abbrev shown : Vec (Vec OperationRow) → Rows
shown rows = map (λ transaction. transaction.items) rows.items

abbrev rows_at : Option (Vec (Vec OperationRow)) → Rows
rows_at found = option_map_or shown found []

-- a session has its rows changed
pub changed : (old new : Table) (session : List ℕ) (change : Rows → Rows) (rows : Vec (Vec OperationRow))
    → shown rows ≡ change (rows_at (get (slice_cmp nat_cmp) old session))
    → Updates (slice_cmp nat_cmp) old new session (Some rows) → Changes session change (record { sessions = old }) (record { sessions = new })
changed old new session change rows more updates = λ name lawful.
    ap rows_at (updates.0 name ∙ ap (λ b. cond b (Some rows) (get (slice_cmp nat_cmp) old name)) (sym (texts_ties session name)))
    ∙ by name (same session name) refl
  where
    by : (name : List ℕ) (b : Bool) → same session name ≡ b
        → rows_at (cond b (Some rows) (get (slice_cmp nat_cmp) old name))
        ≡ cond b (change (rows_at (get (slice_cmp nat_cmp) old name))) (rows_at (get (slice_cmp nat_cmp) old name))
    by name true is = more ∙ ap (λ s. change (rows_at (get (slice_cmp nat_cmp) old s))) (same_names session name is)
    by name false is = refl

-- a session without rows, where that gives nothing
pub unchanged : (table : Table) (session : List ℕ) (change : Rows → Rows) → change [] ≡ []
    → get (slice_cmp nat_cmp) table session ≡ None → Changes session change (record { sessions = table }) (record { sessions = table })
unchanged table session change nothing none = λ name lawful. by name (same session name) refl
  where
    by : (name : List ℕ) (b : Bool) → same session name ≡ b
        → rows_at (get (slice_cmp nat_cmp) table name) ≡ cond b (change (rows_at (get (slice_cmp nat_cmp) table name))) (rows_at (get (slice_cmp nat_cmp) table name))
    by name true is =
        let empty : rows_at (get (slice_cmp nat_cmp) table name) ≡ [] = ap (λ s. rows_at (get (slice_cmp nat_cmp) table s)) (sym (same_names session name is)) ∙ ap rows_at none in
        empty ∙ sym (ap change empty ∙ nothing)
    by name false is = refl

pub no_rows : (table : Table) → IsEmpty table → (name : List ℕ) → rows_in (record { sessions = table }) name ≡ []
no_rows table none name = rw none refl

-- the last of some transactions gets one operation more
pub last_added : (transactions : List (Vec OperationRow)) (k : ℕ) (one : OperationRow) (last : Vec OperationRow) (d : Vec OperationRow) → length transactions ≡ k + 1
    → last.items ≡ (get_or transactions k d).items ++ one ∷ []
    → map (λ (t : Vec OperationRow). t.items) (set transactions k last) ≡ add_last one (map (λ (t : Vec OperationRow). t.items) transactions)
last_added [] k one last d long more = absurd (omega (arith, long))
last_added (t ∷ []) zero one last d long more = ap (λ items. items ∷ []) more
last_added (t ∷ []) (suc k) one last d long more = absurd (omega (arith, long))
last_added (t ∷ next ∷ later) zero one last d long more = absurd (omega (arith, long))
last_added (t ∷ next ∷ later) (suc k) one last d long more =
    ap (λ rest. t.items ∷ rest) (last_added (next ∷ later) k one last d (omega (arith, long)) more)

-- of the last of some transactions the writes are left
pub last_kept : (transactions : List (Vec OperationRow)) (k : ℕ) (last : Vec OperationRow) (d : Vec OperationRow) → length transactions ≡ k + 1
    → last.items ≡ filter (λ one. one.writes) (get_or transactions k d).items
    → map (λ (t : Vec OperationRow). t.items) (set transactions k last) ≡ keep_writes (map (λ (t : Vec OperationRow). t.items) transactions)
last_kept [] k last d long kept = absurd (omega (arith, long))
last_kept (t ∷ []) zero last d long kept = ap (λ items. items ∷ []) kept
last_kept (t ∷ []) (suc k) last d long kept = absurd (omega (arith, long))
last_kept (t ∷ next ∷ later) zero last d long kept = absurd (omega (arith, long))
last_kept (t ∷ next ∷ later) (suc k) last d long kept =
    ap (λ rest. t.items ∷ rest) (last_kept (next ∷ later) k last d (omega (arith, long)) kept)

-- ---- what a record is

pub fieldless : (name : List ℕ) (row : ℕ) (fields : Record) (before : Rows) → field_at fields 0 ≡ None → after_record name row fields before ≡ before
unfolding field_at
fieldless name row [] before none = refl
fieldless name row (first ∷ rest) before none = cc none

-- the record of a session that isn't this one
pub of_other : (name session : List ℕ) (row : ℕ) (fields : Record) (before : Rows) → Some session ≡ field_at fields 0 → same session name ≡ false
    → after_record name row fields before ≡ before
unfolding field_at
of_other name session row [] before first other = refl
of_other name session row (a ∷ []) before first other = refl
of_other name session row (a ∷ b ∷ []) before first other = let at : a ≡ session = cc first in rw (at, other) refl
of_other name session row (a ∷ b ∷ c ∷ []) before first other = refl
of_other name session row (a ∷ b ∷ c ∷ d ∷ []) before first other = let at : a ≡ session = cc first in rw (at, other) refl
of_other name session row (a ∷ b ∷ c ∷ d ∷ e ∷ rest) before first other = refl

-- an operation
pub operates : (name session : List ℕ) (row : ℕ) (fields : Record) (before : Rows) → length fields ≡ 4 → Some session ≡ field_at fields 0
    → after_record name row fields before ≡ cond (same session name) (add_last (operation_at row fields) before) before
unfolding field_at
operates name session row [] before four first = absurd (omega (arith, four))
operates name session row (a ∷ []) before four first = absurd (omega (arith, four))
operates name session row (a ∷ b ∷ []) before four first = absurd (omega (arith, four))
operates name session row (a ∷ b ∷ c ∷ []) before four first = absurd (omega (arith, four))
operates name session row (a ∷ b ∷ c ∷ d ∷ []) before four first =
    let at : a ≡ session = cc first in ap (λ s. cond (same s name) (add_last (operation_at row (a ∷ b ∷ c ∷ d ∷ [])) before) before) at
operates name session row (a ∷ b ∷ c ∷ d ∷ e ∷ rest) before four first = absurd (omega (arith, four))

-- a begin
pub begins : (name session : List ℕ) (row : ℕ) (fields : Record) (before : Rows) → is_word (codes "begin") fields ≡ true → Some session ≡ field_at fields 0
    → after_record name row fields before ≡ cond (same session name) (before ++ [] ∷ []) before
unfolding field_at
begins name session row [] before is first = cc is
begins name session row (a ∷ []) before is first = cc is
begins name session row (a ∷ b ∷ []) before is first = let at : a ≡ session = cc first in rw (at, is) (by (same session name) (same b (codes "unknown")))
  where
    by : (v u : Bool) → cond (v && true) (before ++ [] ∷ []) (cond (v && u) (keep_writes before) before) ≡ cond v (before ++ [] ∷ []) before
    by true u = refl
    by false u = refl
begins name session row (a ∷ b ∷ c ∷ rest) before is first = cc is

-- nobody told how the transaction ended
pub leaves : (name session : List ℕ) (row : ℕ) (fields : Record) (before : Rows) → is_word (codes "begin") fields ≡ false → is_word (codes "unknown") fields ≡ true
    → Some session ≡ field_at fields 0 → after_record name row fields before ≡ cond (same session name) (keep_writes before) before
unfolding field_at
leaves name session row [] before other is first = cc is
leaves name session row (a ∷ []) before other is first = cc is
leaves name session row (a ∷ b ∷ []) before other is first = let at : a ≡ session = cc first in rw (at, other, is) (by (same session name))
  where
    by : (v : Bool) → cond (v && false) (before ++ [] ∷ []) (cond (v && true) (keep_writes before) before) ≡ cond v (keep_writes before) before
    by true = refl
    by false = refl
leaves name session row (a ∷ b ∷ c ∷ rest) before other is first = cc is

-- another record
pub neither : (name : List ℕ) (row : ℕ) (fields : Record) (before : Rows) → (length fields ≡ 4 → ⊥) → is_word (codes "begin") fields ≡ false
    → is_word (codes "unknown") fields ≡ false → after_record name row fields before ≡ before
neither name row [] before not_four not_begin not_unknown = refl
neither name row (a ∷ []) before not_four not_begin not_unknown = refl
neither name row (a ∷ b ∷ []) before not_four not_begin not_unknown = rw (not_begin, not_unknown) (by (same a name))
  where
    by : (v : Bool) → cond (v && false) (before ++ [] ∷ []) (cond (v && false) (keep_writes before) before) ≡ before
    by true = refl
    by false = refl
neither name row (a ∷ b ∷ c ∷ []) before not_four not_begin not_unknown = refl
neither name row (a ∷ b ∷ c ∷ d ∷ []) before not_four not_begin not_unknown = absurd (not_four refl)
neither name row (a ∷ b ∷ c ∷ d ∷ e ∷ rest) before not_four not_begin not_unknown = refl

pub not_two : (said : List ℕ) (fields : Record) → (length fields ≡ 2 → ⊥) → false ≡ is_word said fields
not_two said [] other = refl
not_two said (a ∷ []) other = refl
not_two said (a ∷ b ∷ []) other = absurd (other refl)
not_two said (a ∷ b ∷ c ∷ rest) other = refl

pub by_word : (said : List ℕ) (fields : Record) (word : List ℕ) → length fields ≡ 2 → Some word ≡ field_at fields 1 → same word said ≡ is_word said fields
unfolding field_at
by_word said [] word two second = absurd (omega (arith, two))
by_word said (a ∷ []) word two second = absurd (omega (arith, two))
by_word said (a ∷ b ∷ []) word two second = let at : word ≡ b = cc second in ap (λ w. same w said) at
by_word said (a ∷ b ∷ c ∷ rest) word two second = absurd (omega (arith, two))

pub wordless : (said : List ℕ) (fields : Record) → length fields ≡ 2 → None ≡ field_at fields 1 → false ≡ is_word said fields
unfolding field_at
wordless said [] two none = refl
wordless said (a ∷ []) two none = refl
wordless said (a ∷ b ∷ []) two none = cc none
wordless said (a ∷ b ∷ c ∷ rest) two none = refl

-- whether an operation is a write
pub written : (fields : Record) (word : List ℕ) → length fields ≡ 4 → Some word ≡ field_at fields 1 → same word (codes "w") ≡ is_write fields
unfolding field_at
written [] word four second = absurd (omega (arith, four))
written (a ∷ []) word four second = absurd (omega (arith, four))
written (a ∷ b ∷ rest) word four second = let at : word ≡ b = cc second in ap (λ w. same w (codes "w")) at

pub unwritten : (fields : Record) → length fields ≡ 4 → None ≡ field_at fields 1 → false ≡ is_write fields
unfolding field_at
unwritten [] four none = absurd (omega (arith, four))
unwritten (a ∷ []) four none = absurd (omega (arith, four))
unwritten (a ∷ b ∷ rest) four none = cc none

-- bytes that are a name are that name
named : (bytes name : List ℕ) (fault : Option NameFault) → option_map_or Err fault (Ok bytes) ≡ Ok name → bytes ≡ name
named bytes name None is = cc is
named bytes name (Some fault) is = cc is

unlike : (bytes name : List ℕ) (fault : NameFault) (found : Option NameFault) → name_fault bytes ≡ found → option_map_or Err found (Ok bytes) ≡ Err fault
    → name_fault name ≡ None → same bytes name ≡ false
unlike bytes name fault None at is lawful = cc is
unlike bytes name fault (Some other) at is lawful = by (same bytes name) refl
  where
    by : (b : Bool) → same bytes name ≡ b → b ≡ false
    by true equal = let alike = ap name_fault (same_names bytes name equal) in cc
    by false equal = refl

-- an operation or a begin, whose session has a name
pub noted_operation : (old new : OperationRows) (fields : Record) (row : ℕ) (one : OperationRow) (bytes session : List ℕ) → length fields ≡ 4
    → Some bytes ≡ field_at fields 0 → option_map_or Err (name_fault bytes) (Ok bytes) ≡ Ok session → one ≡ operation_at row fields
    → Changes session (add_last one) old new → NotesRecord fields row old new
noted_operation old new fields row one bytes session four first is here changes = λ name lawful.
    changes name lawful ∙ ap (λ s. cond (same s name) (add_last one (rows_in old name)) (rows_in old name)) (sym (named bytes session (name_fault bytes) is))
    ∙ ap (λ x. cond (same bytes name) (add_last x (rows_in old name)) (rows_in old name)) here
    ∙ sym (operates name bytes row fields (rows_in old name) four first)

pub noted_begin : (old new : OperationRows) (fields : Record) (row : ℕ) (bytes session : List ℕ) → is_word (codes "begin") fields ≡ true
    → Some bytes ≡ field_at fields 0
    → option_map_or Err (name_fault bytes) (Ok bytes) ≡ Ok session → Changes session (λ transactions. transactions ++ [] ∷ []) old new
    → NotesRecord fields row old new
noted_begin old new fields row bytes session begin first is changes = λ name lawful.
    changes name lawful ∙ ap (λ s. cond (same s name) (rows_in old name ++ [] ∷ []) (rows_in old name)) (sym (named bytes session (name_fault bytes) is))
    ∙ sym (begins name bytes row fields (rows_in old name) begin first)

pub noted_unknown : (old new : OperationRows) (fields : Record) (row : ℕ) (bytes session : List ℕ) → is_word (codes "begin") fields ≡ false
    → is_word (codes "unknown") fields ≡ true → Some bytes ≡ field_at fields 0
    → option_map_or Err (name_fault bytes) (Ok bytes) ≡ Ok session → Changes session keep_writes old new → NotesRecord fields row old new
noted_unknown old new fields row bytes session other unknown first is changes = λ name lawful.
    changes name lawful ∙ ap (λ s. cond (same s name) (keep_writes (rows_in old name)) (rows_in old name)) (sym (named bytes session (name_fault bytes) is))
    ∙ sym (leaves name bytes row fields (rows_in old name) other unknown first)

pub noted_none : (old : OperationRows) (fields : Record) (row : ℕ) → (length fields ≡ 4 → ⊥) → is_word (codes "begin") fields ≡ false
    → is_word (codes "unknown") fields ≡ false → NotesRecord fields row old old
noted_none old fields row not_four not_begin not_unknown = λ name lawful. sym (neither name row fields (rows_in old name) not_four not_begin not_unknown)

-- a record whose session has no name
pub nameless : (old : OperationRows) (fields : Record) (row : ℕ) (bytes : List ℕ) (fault : NameFault) → Some bytes ≡ field_at fields 0
    → option_map_or Err (name_fault bytes) (Ok bytes) ≡ Err fault → NotesRecord fields row old old
nameless old fields row bytes fault first is = λ name lawful.
    sym (of_other name bytes row fields (rows_in old name) first (unlike bytes name fault (name_fault bytes) refl is lawful))

pub on_ok : {U E P Q : Type 0} (result : Result U E) → (P → Q) → OnOk result P → OnOk result Q
on_ok (Ok done) more is = more is
on_ok (Err fault) more is = tt

-- ---- the records one after the other

later : (name : List ℕ) (fields : Record) (row : ℕ) (first : List Record) (before : Rows)
    → after_records name row (first ++ fields ∷ []) before ≡ after_record name (row + length first) fields (after_records name row first before)
later name fields row [] before = ap (λ n. after_record name n fields before) (sym (add-zero row))
later name fields row (one ∷ first) before =
    later name fields (row + 1) first (after_record name row one before)
    ∙ ap (λ n. after_record name n fields (after_records name (row + 1) first (after_record name row one before))) (more row (length first))
  where
    more : (m n : ℕ) → m + 1 + n ≡ m + suc n
    more m n = omega arith

pub noted_on : {R : Type 0} (remaining : R → Option (List ℕ)) (text : List ℕ) (old new : Reader R) (fields : Record) (row : ℕ) (before after : OperationRows)
    → IsNoted remaining text old row before → ReadRecord remaining old new true fields → IsPlain new → NotesRecord fields row before after
    → IsNoted remaining text new (row + 1) after
noted_on remaining text old new fields row before after is read plain notes =
    let (rest, known, reached) =
    rows-more remaining old new fields default_config StartRecord (strip_bom text) is.rest is.first is.plain.config is.known is.reached read in
    let at : row ≡ 1 + length is.first = omega (arith, is.counted) in
    record {
      first = is.first ++ fields ∷ [];
      rest = rest;
      plain = plain;
      reached = reached;
      known = known;
      counted = omega (arith, is.counted, length-append is.first (fields ∷ []));
      noted = λ name lawful.
          notes name lawful
          ∙ ap (after_record name row fields) (is.noted name lawful)
          ∙ ap (λ n. after_record name n fields (session_rows name is.first)) at
          ∙ sym (later name fields 1 is.first []);
    }

pub all_noted : {R : Type 0} (remaining : R → Option (List ℕ)) (text : List ℕ) (old new : Reader R) (fields : Record) (row : ℕ) (table : OperationRows)
    → IsNoted remaining text old row table → ReadRecord remaining old new false fields → HasRowsOf text table
all_noted remaining text old new fields row table is read = (
  is.first,
  (reader_state old, is.rest, is.reached, rows-end remaining old new fields default_config is.rest is.plain.config is.known read),
  is.noted,
)

-- a reader that keeps its settings and has not failed stays a plain one
pub still_plain : {R : Type 0} (old new : Reader R) → IsPlain old → took_first new ≡ true → reader_config new ≡ reader_config old
    → reader_trim new ≡ reader_trim old → is_flexible new ≡ is_flexible old → has_failed new ≡ has_failed old → IsPlain new
still_plain old new plain ready config trim flexible going = record {
  ready = inl ready;
  config = config ∙ plain.config;
  trim = trim ∙ plain.trim;
  flexible = flexible ∙ plain.flexible;
  going = going ∙ plain.going;
}
