-- If the reading of a text fails, the items taken are those of the records before.
use Rattle.std.proofs.Common.{◌≡◌, ℕ, suc, ◌+◌, ◌-◌, ◌≤◌, ◌<◌, ◌⊎◌, inl, inr, Bool, true, false, not, cond, List, [], ◌∷◌, ◌++◌}
use Rattle.std.proofs.Common.{length, take, drop, refl, sym, ap, subst, ◌∙◌, arith, Option, None, Some, Result, Ok, Err}
use Rattle.std.proofs.Common.{length-append, nat_lt}
use Rattle.std.specs.Prelude.{codes, is_none, is_some, option_map, ◌==◌}
use Rattle.std.specs.FinMap as finite
use Rattle.std.proofs.lemmas.List.Elements.{filter-append}
use Rattle.std.specs.Option.{option_map_or}
use Rattle.std.proofs.Math.Seq.{take-append_seam}
use Rattle.std.proofs.lemmas.List.{take-append-drop}
use Rattle.tcc_rows.specs.Answers.{Answers, after_item, answers_after_within, answers_to, go_on, judged_within}
use Rattle.tcc_rows.specs.private.Failing as failing
use Rattle.tcc_rows.specs.Failing.{AreLawfulWithin, FailsAtWithin, given_before_within, items_before_within, records_before}
use Rattle.tcc_txn.specs.Limits.{most_keys, most_seals, most_sessions, most_transactions}
use Rattle.tcc_txn.specs.Bytes.{same}
use Rattle.tcc_rows.specs.Lines.{Record, accessed, in_session, is_cut, line_of, op_of, value_of}
use Rattle.tcc_txn.specs.Names.{name_fault}
use Rattle.tcc_rows.specs.Past.{begin_count, fault_in_time, fault_within, is_begun, is_late, item_of, keys, least, open_sessions, ops_since, seal_count, sessions}
use Rattle.tcc_rows.specs.Recordings.{HasSealsBefore, after_items, is_seal, seals_in}
use Rattle.tcc_rows.specs.Settling.{settled_after}
use Rattle.tcc_rows.proofs.Settled.{held_after, settled-append}
use Rattle.tcc_txn.specs.declared.limits.TheConstants.{MAX_OPERATIONS}
use Rattle.tcc_txn.specs.declared.limits.Limits.{Limits}
use Rattle.tcc_txn.specs.declared.op.Op.{Op}
use Rattle.tcc_txn.specs.declared.op.Op.TheVariants.{Put}
use Rattle.tcc_rows.specs.declared.rows.Item.{Item}
use Rattle.tcc_rows.specs.declared.rows.Item.TheVariants as item
use Rattle.tcc_rows.specs.declared.fault.RowFault.{RowFault}
use Rattle.tcc_rows.specs.declared.fault.RowFaultKind.{RowFaultKind}
use Rattle.tcc_rows.specs.declared.fault.RowFaultKind.TheVariants as kind
use Rattle.tcc_rows.specs.Line.{Line}
use Rattle.tcc_rows.specs.Line as line
use Rattle.tcc_rows.proofs.Interleaving.{judged-line}

-- ---- no single record has the fault of an unfinished transaction

abbrev at_end : RowFaultKind → Bool
at_end (kind.Unfinished session) = true
at_end _ = false

-- whatever the result, it is not the fault of the end
abbrev is_of_record : {A : Type 0} → Result A RowFaultKind → Bool
is_of_record (Ok a) = true
is_of_record (Err k) = not (at_end k)

either : {A : Type 0} (b : Bool) (x y : Result A RowFaultKind) → is_of_record x ≡ true → is_of_record y ≡ true → is_of_record (cond b x y) ≡ true
either true x y e f = e
either false x y e f = f

op-of_record : (writes : Bool) (key value : List ℕ) → is_of_record (op_of writes key value) ≡ true
op-of_record writes key value = either (is_some (name_fault key)) (Err kind.BadKey) _ refl (valued (value_of value))
  where
    accesses : (writes : Bool) (v : ℕ) → is_of_record (accessed writes key v) ≡ true
    accesses true v = either (v == 0) (Err kind.WriteOfZero) (Ok (Put key v)) refl refl
    accesses false v = refl

    valued : (o : Option ℕ) → is_of_record (option_map_or (accessed writes key) o (Err kind.BadValue)) ≡ true
    valued None = refl
    valued (Some v) = accesses writes v

in-of_record : (session : List ℕ) (r : Result Op RowFaultKind) → is_of_record r ≡ true → is_of_record (in_session session r) ≡ true
in-of_record session (Ok op) e = refl
in-of_record session (Err k) e = e

line-of_record : (fields : Record) → is_of_record (line_of fields) ≡ true
line-of_record [] = refl
line-of_record (word ∷ []) = either (same word (codes "seal")) (Ok line.Seal) (Err kind.UnknownWord) refl refl
line-of_record (session ∷ word ∷ []) =
    either (is_some (name_fault session)) (Err kind.BadSession) _ refl
    (either (same word (codes "begin")) (Ok (line.Begin session)) _ refl
    (either (same word (codes "commit")) (Ok (line.Finish session true)) _ refl
    (either (same word (codes "abort")) (Ok (line.Finish session false)) _ refl
    (either (same word (codes "unknown")) (Ok (line.Unknown session)) (Err kind.UnknownWord) refl refl))))
line-of_record (a ∷ b ∷ c ∷ []) = refl
line-of_record (session ∷ word ∷ key ∷ value ∷ []) =
    either (is_some (name_fault session)) (Err kind.BadSession) _ refl
    (either (same word (codes "r")) (in_session session (op_of false key value)) _ (in-of_record session _ (op-of_record false key value))
    (either (same word (codes "w")) (in_session session (op_of true key value)) (Err kind.UnknownWord)
    (in-of_record session _ (op-of_record true key value)) refl))
line-of_record (a ∷ b ∷ c ∷ d ∷ e ∷ more) = refl

-- no kind, or one that is not the kind at the end of the input
abbrev none_at_end : Option RowFaultKind → Bool
none_at_end None = true
none_at_end (Some k) = not (at_end k)

one-of : (b : Bool) (x y : Option RowFaultKind) → none_at_end x ≡ true → none_at_end y ≡ true → none_at_end (cond b x y) ≡ true
one-of true x y e f = e
one-of false x y e f = f

module _ (limits : Limits) where
  fault-in_time : (past : List Line) (last : Line) → none_at_end (fault_in_time limits past last) ≡ true
  fault-in_time past line.Seal = one-of (nat_lt (most_seals limits) (seal_count (line.Seal ∷ past))) (Some kind.TooManySeals) None refl refl
  fault-in_time past (line.Begin session) =
      one-of (is_begun session past) (Some kind.AlreadyBegun) _ refl
      (one-of (nat_lt (most_sessions limits) (length (sessions (line.Begin session ∷ past)))) (Some kind.TooManySessions) _ refl
      (one-of (nat_lt (most_transactions limits) (begin_count (line.Begin session ∷ past))) (Some kind.TooManyTransactions) None refl refl))
  fault-in_time past (line.Finish session committed) = one-of (is_begun session past) None (Some kind.NotBegun) refl refl
  fault-in_time past (line.Unknown session) = one-of (is_begun session past) None (Some kind.NotBegun) refl refl
  fault-in_time past (line.Operation session op) =
      one-of (not (is_begun session past)) (Some kind.NotBegun) _ refl
      (one-of (nat_lt MAX_OPERATIONS (length (ops_since session (line.Operation session op ∷ past)))) (Some kind.TooManyOps) _ refl
      (one-of (nat_lt (most_keys limits) (length (keys (line.Operation session op ∷ past)))) (Some kind.TooManyKeys) None refl refl))

  fault-of_record : (past : List Line) (last : Line) → none_at_end (fault_within limits past last) ≡ true
  fault-of_record past last = one-of (is_late past last) (Some kind.SessionEnded) (fault_in_time limits past last) refl (fault-in_time past last)

  judged-of_record : (past : List Line) (fields : Record) (k : RowFaultKind) → judged_within limits past fields ≡ Err k → at_end k ≡ false
  judged-of_record past fields k e = by (is_cut fields) (line_of fields) refl refl (line-of_record fields)
    where
      no : (a : Bool) → not a ≡ true → a ≡ false
      no true e = cc e
      no false e = refl

      of : (found : Line) (o : Option RowFaultKind) → none_at_end o ≡ true → option_map_or Err o (Ok found) ≡ Err k → at_end k ≡ false
      of found None sound e = cc e
      of found (Some j) sound e = let is : j ≡ k = cc e in subst (λ x. at_end x ≡ false) is (no (at_end j) sound)

      by : (cut : Bool) (r : Result Line RowFaultKind) → is_cut fields ≡ cut → line_of fields ≡ r → is_of_record r ≡ true → at_end k ≡ false
      by true r whole is sound =
          (let faulty : judged_within limits past fields ≡ Err kind.Read = rw whole refl in let same_kind : kind.Read ≡ k = cc (faulty, e) in
          subst (λ x. at_end x ≡ false) same_kind refl)
      by false (Err j) whole is sound =
          let faulty : judged_within limits past fields ≡ Err j = rw (whole, is) refl in
          let same_kind : j ≡ k = cc (faulty, e) in
          subst (λ x. at_end x ≡ false) same_kind (no (at_end j) sound)
      by false (Ok found) whole is sound =
          let after : judged_within limits past fields ≡ option_map_or Err (fault_within limits past found) (Ok found) = rw (whole, is) refl in
          of found (fault_within limits past found) (fault-of_record past found) (sym after ∙ e)

  -- ---- at which row the fault of some answers is

  -- a fault that records show is at a row after the lines before them, unless it is the fault of the end
  abbrev StandsBehind : ℕ → Option RowFault → Type 0
  StandsBehind n None = Unit {0}
  StandsBehind n (Some fault) = (at_end fault.kind ≡ true) ⊎ (n < fault.row)

  same-fault : (o : Option Item) (ahead : Answers) → (after_item o ahead).fault ≡ ahead.fault
  same-fault None ahead = refl
  same-fault (Some first) ahead = refl

  behind : (left : List Record) (past : List Line) → StandsBehind (length past) (answers_after_within limits past left).fault
  behind [] past = by (least (open_sessions past))
    where
      by : (o : Option (List ℕ))
          → StandsBehind (length past) (option_map {U = RowFault} (λ session. record { row = length past; kind = kind.Unfinished session }) o)
      by None = tt
      by (Some session) = inl refl
  behind (fields ∷ rest) past = by (judged_within limits past fields) (behind rest)
    where
      earlier : (n : ℕ) (o : Option RowFault) → StandsBehind (suc n) o → StandsBehind n o
      earlier n None b = tt
      earlier n (Some fault) (inl e) = inl e
      earlier n (Some fault) (inr l) = inr (omega (arith, l))

      by : (r : Result Line RowFaultKind) → ((lines : List Line) → StandsBehind (length lines) (answers_after_within limits lines rest).fault)
          → StandsBehind (length past) (go_on past (λ lines. answers_after_within limits lines rest) r).fault
      by (Err k) next = inr (omega arith)
      by (Ok last) next =
          subst (StandsBehind (length past)) (sym (same-fault (item_of past last) (answers_after_within limits (last ∷ past) rest)))
          (earlier (length past) _ (next (last ∷ past)))

  -- the fault of a record is not among the answers to what follows it, or is at a later row
  not-later : (n row : ℕ) (k : RowFaultKind) (o : Option RowFault) → o ≡ Some (record { row = row; kind = k }) → at_end k ≡ false → row ≤ n → StandsBehind n o → ⊥
  not-later n row k None e record_fault early b = cc e
  not-later n row k (Some fault) e record_fault early b =
      let here : fault ≡ record { row = row; kind = k } = cc e in
      by (subst (λ (f : RowFault). (at_end f.kind ≡ true) ⊎ (n < f.row)) here b)
    where
      by : (at_end k ≡ true) ⊎ (n < row) → ⊥
      by (inl e) = cc (e, record_fault)
      by (inr l) = absurd (omega (arith, l, early))

  -- ---- the number of items, and of seals, does not depend on the lines before

  same-line : (p q : List Line) (fields : Record) (l m : Line) → judged_within limits p fields ≡ Ok l → judged_within limits q fields ≡ Ok m → l ≡ m
  same-line p q fields l m e f =
      (let both : ◌≡◌ {A = Result Line RowFaultKind} (Ok l) (Ok m) = sym (judged-line limits p fields l e) ∙ judged-line limits q fields m f in cc both)

  -- what is the same for the items of each line is the same for all
  module _ {X : Type 0} (of_items : List Item → X) (one : (p q : List Line) (l : Line) (a b : Answers) → of_items a.items ≡ of_items b.items
      → of_items (after_item (item_of p l) a).items ≡ of_items (after_item (item_of q l) b).items) where
    as-same : (left : List Record) (p q : List Line) → length p ≡ length q → (answers_after_within limits p left).fault ≡ (answers_after_within limits q left).fault
        → of_items (answers_after_within limits p left).items ≡ of_items (answers_after_within limits q left).items
    as-same [] p q long fault = refl
    as-same (fields ∷ rest) p q long fault = by (judged_within limits p fields) (judged_within limits q fields) refl refl fault (as-same rest)
      where
        apart : (p q : List Line) (k : RowFaultKind) (m : Line) → length p ≡ length q → judged_within limits p fields ≡ Err k
            → Some (record { row = length p + 1; kind = k }) ≡ (after_item (item_of q m) (answers_after_within limits (m ∷ q) rest)).fault → ⊥
        apart p q k m long e fault =
            not-later (length (m ∷ q)) (length p + 1) k (answers_after_within limits (m ∷ q) rest).fault (sym (fault ∙ same-fault (item_of q m) (answers_after_within limits (m ∷ q) rest)))
            (judged-of_record p fields k e) (omega (arith, long)) (behind rest (m ∷ q))

        by : (r s : Result Line RowFaultKind) → judged_within limits p fields ≡ r → judged_within limits q fields ≡ s
            → (go_on p (λ lines. answers_after_within limits lines rest) r).fault ≡ (go_on q (λ lines. answers_after_within limits lines rest) s).fault
            → ((p q : List Line) → length p ≡ length q → (answers_after_within limits p rest).fault ≡ (answers_after_within limits q rest).fault
            → of_items (answers_after_within limits p rest).items ≡ of_items (answers_after_within limits q rest).items)
            → of_items (go_on p (λ lines. answers_after_within limits lines rest) r).items ≡ of_items (go_on q (λ lines. answers_after_within limits lines rest) s).items
        by (Err j) (Err k) e f fault next = refl
        by (Err k) (Ok m) e f fault next = absurd (apart p q k m long e fault)
        by (Ok l) (Err k) e f fault next = absurd (apart q p k l (sym long) f (sym fault))
        by (Ok l) (Ok m) e f fault next =
            let is : l ≡ m = same-line p q fields l m e f in
            let faults : (answers_after_within limits (l ∷ p) rest).fault ≡ (answers_after_within limits (m ∷ q) rest).fault
            = sym (same-fault (item_of p l) (answers_after_within limits (l ∷ p) rest)) ∙ fault ∙ same-fault (item_of q m) (answers_after_within limits (m ∷ q) rest) in
            one p q l (answers_after_within limits (l ∷ p) rest) (answers_after_within limits (m ∷ q) rest) (next (l ∷ p) (m ∷ q) (ap suc long) faults)
            ∙ ap (λ x. of_items (after_item (item_of q x) (answers_after_within limits (m ∷ q) rest)).items) is

  of-one : (p q : List Line) (l : Line) (a b : Answers) → length a.items ≡ length b.items
      → length (after_item (item_of p l) a).items ≡ length (after_item (item_of q l) b).items
  of-one p q line.Seal a b e = omega (arith, e)
  of-one p q (line.Begin session) a b e = e
  of-one p q (line.Finish session committed) a b e = omega (arith, e)
  of-one p q (line.Unknown session) a b e = omega (arith, e)
  of-one p q (line.Operation session op) a b e = e

  as-many : (left : List Record) (p q : List Line) → length p ≡ length q → (answers_after_within limits p left).fault ≡ (answers_after_within limits q left).fault
      → length (answers_after_within limits p left).items ≡ length (answers_after_within limits q left).items
  as-many = as-same length of-one

  sealed-one : (p q : List Line) (l : Line) (a b : Answers) → seals_in a.items ≡ seals_in b.items
      → seals_in (after_item (item_of p l) a).items ≡ seals_in (after_item (item_of q l) b).items
  sealed-one p q line.Seal a b e = ap (λ items. item.Seal ∷ items) e
  sealed-one p q (line.Begin session) a b e = e
  sealed-one p q (line.Finish session committed) a b e = e
  sealed-one p q (line.Unknown session) a b e = e
  sealed-one p q (line.Operation session op) a b e = e

  as-sealed : (left : List Record) (p q : List Line) → length p ≡ length q → (answers_after_within limits p left).fault ≡ (answers_after_within limits q left).fault
      → seals_in (answers_after_within limits p left).items ≡ seals_in (answers_after_within limits q left).items
  as-sealed = as-same seals_in sealed-one

  -- ---- the records before the row

  -- if the answers end as others do that come later, the first records are lawful, and their items come first
  record Split (q : List Line) (first left : List Record) (n : ℕ) : Type 0 where
    lawful : AreLawfulWithin limits q first
    lines : List Line
    long : length lines ≡ n
    items : (answers_after_within limits q (first ++ left)).items ≡ (answers_after_within limits q first).items ++ (answers_after_within limits lines left).items
    fault : (answers_after_within limits q (first ++ left)).fault ≡ (answers_after_within limits lines left).fault

  item-before : (o : Option Item) (a : Answers) (xs ys : List Item) → a.items ≡ xs ++ ys
      → (after_item o a).items ≡ (after_item o (record { items = xs; fault = None })).items ++ ys
  item-before None a xs ys e = e
  item-before (Some first) a xs ys e = ap (λ items. first ∷ items) e

  plain-item : (o : Option Item) (a : Answers) → (after_item o a).items ≡ (after_item o (record { items = a.items; fault = None })).items
  plain-item None a = refl
  plain-item (Some first) a = refl

  split : (left : List Record) (past : List Line) (first : List Record) (q : List Line) → length past ≡ length q + length first
      → (answers_after_within limits q (first ++ left)).fault ≡ (answers_after_within limits past left).fault → Split q first left (length past)
  split left past [] q long fault = record { lawful = tt; lines = q; long = omega (arith, long); items = refl; fault = refl }
  split left past (fields ∷ rest) q long fault = by (judged_within limits q fields) refl fault (split left past rest)
    where
      by : (r : Result Line RowFaultKind) → judged_within limits q fields ≡ r
          → (go_on q (λ lines. answers_after_within limits lines (rest ++ left)) r).fault ≡ (answers_after_within limits past left).fault
          → ((q : List Line) → length past ≡ length q + length rest → (answers_after_within limits q (rest ++ left)).fault ≡ (answers_after_within limits past left).fault
          → Split q rest left (length past))
          → Split q (fields ∷ rest) left (length past)
      by (Err k) e fault next =
          absurd (not-later (length past) (length q + 1) k (answers_after_within limits past left).fault (sym fault) (judged-of_record q fields k e) (omega (arith, long))
          (behind left past))
      by (Ok last) e fault next =
          let ahead = answers_after_within limits (last ∷ q) (rest ++ left) in
          let after = next (last ∷ q) (omega (arith, long)) (sym (same-fault (item_of q last) ahead) ∙ fault) in
          record {
            lawful = (last, e, after.lawful);
            lines = after.lines;
            long = after.long;
            items =
                rw e (item-before (item_of q last) ahead _ _ after.items
                ∙ ap (λ xs. xs ++ (answers_after_within limits after.lines left).items) (sym (plain-item (item_of q last) (answers_after_within limits (last ∷ q) rest))));
            fault = rw e (same-fault (item_of q last) ahead ∙ after.fault);
          }

  same-front : {X : Type 0} (xs ys us vs : List X) → xs ++ us ≡ ys ++ vs → length us ≡ length vs → xs ≡ ys
  same-front xs ys us vs e long =
      let short : length xs ≡ length ys = omega (arith, ap length e, length-append xs us, length-append ys vs, long) in
      sym (take-append_seam xs us) ∙ ap (take (length xs)) e ∙ ap (λ n. take n (ys ++ vs)) short ∙ take-append_seam ys vs

  -- the items that were taken are those of the records before the row, and these are lawful
  pub fails-at : (all : List Record) (taken : List Item) (ahead : Answers) (row : ℕ) → answers_after_within limits [] all ≡ after_items taken ahead
      → failing.FailsIn limits all ahead row
      → FailsAtWithin limits row all × (taken ≡ given_before_within limits row all)
  fails-at all taken ahead row answers at =
      let fault : (answers_after_within limits [] (at.first ++ at.left)).fault ≡ (answers_after_within limits at.past at.left).fault
      = ap (λ records. (answers_after_within limits [] records).fault) (sym at.whole) ∙ ap (λ (a : Answers). a.fault) (answers ∙ ap (after_items taken) at.answers) in
      let front = split at.left at.past at.first [] (omega (arith, at.long)) fault in
      let many : length (answers_after_within limits at.past at.left).items ≡ length (answers_after_within limits front.lines at.left).items
      = as-many at.left at.past front.lines (sym front.long) (sym fault ∙ front.fault) in
      let both : taken ++ (answers_after_within limits at.past at.left).items ≡ (answers_after_within limits [] at.first).items ++ (answers_after_within limits front.lines at.left).items
      =
      sym (ap (λ (a : Answers). a.items) (answers ∙ ap (after_items taken) at.answers)) ∙ ap (λ records. (answers_after_within limits [] records).items) at.whole
      ∙ front.items in
      let before : at.first ≡ records_before row all
      = sym (take-append_seam at.first at.left) ∙ ap (take (length at.first)) (sym at.whole) ∙ ap (λ n. take n all) (omega (arith, at.here)) in (
        (
          omega (arith, at.here, ap length at.whole, length-append at.first at.left),
          subst (AreLawfulWithin limits []) before front.lawful,
        ),
        same-front taken (answers_after_within limits [] at.first).items _ _ both many ∙ ap (λ records. (answers_after_within limits [] records).items) before,
      )

  -- as many seals come before the row
  pub fails-sealed : (all : List Record) (ahead : Answers) (row : ℕ) → (answers_after_within limits [] all).fault ≡ ahead.fault
      → failing.FailsIn limits all ahead row
      → FailsAtWithin limits row all × HasSealsBefore limits row all ahead
  fails-sealed all ahead row faults at =
      let fault : (answers_after_within limits [] (at.first ++ at.left)).fault ≡ (answers_after_within limits at.past at.left).fault
      = ap (λ records. (answers_after_within limits [] records).fault) (sym at.whole) ∙ faults ∙ ap (λ (a : Answers). a.fault) at.answers in
      let front = split at.left at.past at.first [] (omega (arith, at.long)) fault in
      let same : seals_in (answers_after_within limits at.past at.left).items ≡ seals_in (answers_after_within limits front.lines at.left).items
      = as-sealed at.left at.past front.lines (sym front.long) (sym fault ∙ front.fault) in
      let before : at.first ≡ records_before row all
      = sym (take-append_seam at.first at.left) ∙ ap (take (length at.first)) (sym at.whole) ∙ ap (λ n. take n all) (omega (arith, at.here)) in (
        (
          omega (arith, at.here, ap length at.whole, length-append at.first at.left),
          subst (AreLawfulWithin limits []) before front.lawful,
        ),
        ap (λ records. seals_in (answers_after_within limits [] records).items) at.whole ∙ ap seals_in front.items
            ∙ filter-append is_seal (answers_after_within limits [] at.first).items (answers_after_within limits front.lines at.left).items
            ∙ ap (λ items. seals_in (answers_after_within limits [] at.first).items ++ items) (sym same ∙ ap (λ (a : Answers). seals_in a.items) (sym at.answers))
            ∙ ap (λ records. seals_in (answers_after_within limits [] records).items ++ seals_in ahead.items) before,
      )

  -- the items of lawful records come first
  front : (left first : List Record) (q : List Line) → AreLawfulWithin limits q first
      → (lines : List Line) × ((answers_after_within limits q (first ++ left)).items ≡ (answers_after_within limits q first).items ++ (answers_after_within limits lines left).items)
  front left [] q lawful = (q, refl)
  front left (fields ∷ rest) q (last, e, lawful) =
      let (lines, is) = front left rest (last ∷ q) lawful in
      let ahead = answers_after_within limits (last ∷ q) (rest ++ left) in (
        lines,
        rw e (item-before (item_of q last) ahead _ _ is ∙ ap (λ xs. xs ++ (answers_after_within limits lines left).items)
            (sym (plain-item (item_of q last) (answers_after_within limits (last ∷ q) rest)))),
      )

  -- the items of the records before a row are the first of all items
  pub items-before : (row : ℕ) (all : List Record) → AreLawfulWithin limits [] (records_before row all)
      → (rest : List Item) × ((answers_to limits all).items ≡ items_before_within limits row all ++ rest)
  items-before row all lawful =
      let (lines, is) = front (drop (row - 1) all) (records_before row all) [] lawful in
      let last = (answers_after_within limits lines (drop (row - 1) all)).items in
      let whole : (answers_after_within limits [] all).items ≡ given_before_within limits row all ++ last
      = ap (λ records. (answers_after_within limits [] records).items) (sym (take-append-drop (row - 1) all)) ∙ is in
      let ends = is_none (answers_after_within limits [] all).fault in
      let held = held_after finite.empty [] (given_before_within limits row all) in (
        settled_after ends held.0 held.1 last,
        ap (settled_after ends finite.empty []) whole ∙ settled-append ends (given_before_within limits row all) last finite.empty [],
      )

  pub first-items : (row : ℕ) (all : List Record) → AreLawfulWithin limits [] (records_before row all)
      → take (length (items_before_within limits row all)) (answers_to limits all).items ≡ items_before_within limits row all
  first-items row all lawful =
      let (rest, is) = items-before row all lawful in
      ap (take (length (items_before_within limits row all))) is ∙ take-append_seam (items_before_within limits row all) rest
