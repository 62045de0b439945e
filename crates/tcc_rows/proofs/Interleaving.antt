-- What records finish depends on the records of each session alone, however these are interleaved.
use Rattle.std.proofs.Common.{◌≡◌, ℕ, Bool, true, false, cond, List, [], ◌∷◌, ◌++◌, filter, refl}
use Rattle.std.proofs.Common.{sym, ap, ◌∙◌, Option, None, Some, Result, Ok, Err, append_assoc}
use Rattle.std.proofs.Common.{append-nil}
use Rattle.std.specs.Prelude.{codes, is_some, unwrap_or}
use Rattle.std.specs.Option.{option_map_or}
use Rattle.std.specs.FinMap as finite
use Rattle.std.specs.Cmp.Lexicographic.{nat_list_cmp_total}
use Rattle.std.proofs.lemmas.Map.Lookups.{exact_bytes}
use Rattle.tcc_rows.specs.Answers.{Answers, after_item, go_on, judged_within}
use Rattle.tcc_rows.specs.private.Words.{answers_after, judged}
use Rattle.tcc_rows.specs.Interleaved.{AreInterleaved, is_by}
use Rattle.tcc_txn.specs.Bytes.{same}
use Rattle.tcc_rows.specs.Lines.{Record, in_session, is_cut, line_of, op_of}
use Rattle.tcc_txn.specs.Names.{name_fault}
use Rattle.tcc_rows.specs.Past.{is_begun, item_of, ops_since, fault_within}
use Rattle.tcc_txn.specs.Transactions.{Transaction}
use Rattle.tcc_txn.specs.declared.limits.Limits.{Limits}
use Rattle.tcc_txn.specs.declared.limits.Limits.TheVariants.{Small}
use Rattle.tcc_txn.specs.declared.op.Op.{Op}
use Rattle.tcc_rows.specs.declared.rows.Item.{Item}
use Rattle.tcc_rows.specs.declared.rows.Item.TheVariants as item
use Rattle.tcc_rows.specs.declared.fault.RowFaultKind.{RowFaultKind}
use Rattle.tcc_rows.specs.declared.fault.RowFaultKind.TheVariants as kind
use Rattle.tcc_rows.specs.Line.{Line}
use Rattle.tcc_rows.specs.Line as line
use Rattle.tcc_rows.proofs.FinishedFacts.{finished_by, finished_in-push, items_in, pushed, tied-same}
use Rattle.tcc_rows.proofs.PastFacts.{same-name}

-- ---- the lines of records, and those of one session

-- the line is one of the session
abbrev pub does : List ℕ → Line → Bool
does q line.Seal = false
does q (line.Begin session) = same session q
does q (line.Finish session committed) = same session q
does q (line.Unknown session) = same session q
does q (line.Operation session op) = same session q

abbrev pub noted : Result Line RowFaultKind → List Line → List Line
noted (Ok last) past = last ∷ past
noted (Err k) past = past

-- the lines of records, newest first, after others
abbrev pub lines_after : List Line → List Record → List Line
lines_after past [] = past
lines_after past (fields ∷ rest) = lines_after (noted (line_of fields) past) rest

-- the session of a line, by its record
operation-of : (q session : List ℕ) (r : Result Op RowFaultKind) (l : Line) → in_session session r ≡ Ok l → does q l ≡ same session q
operation-of q session (Ok op) l e = let at : line.Operation session op ≡ l = cc e in rw (← at) refl
operation-of q session (Err k) l e = cc e

pub whose : (q : List ℕ) (fields : Record) (l : Line) → line_of fields ≡ Ok l → does q l ≡ is_by q fields
whose q [] l e = cc e
whose q (word ∷ []) l e = by (same word (codes "seal")) e
  where
    by : (b : Bool) → cond b (Ok line.Seal) (Err kind.UnknownWord) ≡ Ok l → does q l ≡ false
    by true e = let at : line.Seal ≡ l = cc e in rw (← at) refl
    by false e = cc e
whose q (session ∷ word ∷ []) l e =
    by (is_some (name_fault session)) (same word (codes "begin")) (same word (codes "commit")) (same word (codes "abort")) (same word (codes "unknown")) e
  where
    by : (a b c d f : Bool)
        → cond a (Err kind.BadSession)
        (cond b (Ok (line.Begin session)) (cond c (Ok (line.Finish session true)) (cond d (Ok (line.Finish session false)) (cond f (Ok (line.Unknown session)) (Err kind.UnknownWord))))) ≡ Ok l
        → does q l ≡ same session q
    by true b c d f e = cc e
    by false true c d f e = let at : line.Begin session ≡ l = cc e in rw (← at) refl
    by false false true d f e = let at : line.Finish session true ≡ l = cc e in rw (← at) refl
    by false false false true f e = let at : line.Finish session false ≡ l = cc e in rw (← at) refl
    by false false false false true e = let at : line.Unknown session ≡ l = cc e in rw (← at) refl
    by false false false false false e = cc e
whose q (a ∷ b ∷ c ∷ []) l e = cc e
whose q (session ∷ word ∷ key ∷ value ∷ []) l e =
    by (is_some (name_fault session)) (same word (codes "r")) (same word (codes "w")) e
  where
    by : (a b c : Bool) → cond a (Err kind.BadSession) (cond b (in_session session (op_of false key value))
        (cond c (in_session session (op_of true key value)) (Err kind.UnknownWord))) ≡ Ok l → does q l ≡ same session q
    by true b c e = cc e
    by false true c e = operation-of q session _ l e
    by false false true e = operation-of q session _ l e
    by false false false e = cc e
whose q (a ∷ b ∷ c ∷ d ∷ f ∷ more) l e = cc e

pub keeps : {X : Type 0} (p : X → Bool) (x : X) (xs : List X) → p x ≡ true → filter p (x ∷ xs) ≡ x ∷ filter p xs
keeps p x xs t = rw t refl

pub drops : {X : Type 0} (p : X → Bool) (x : X) (xs : List X) → p x ≡ false → filter p (x ∷ xs) ≡ filter p xs
drops p x xs t = rw t refl

-- a test of lines that agrees with one of records: the lines that pass it are those of the records that pass
module _ (p : Line → Bool) (s : Record → Bool) (agree : (fields : Record) (l : Line) → line_of fields ≡ Ok l → p l ≡ s fields) where
  pub lines-filter : (left : List Record) (past : List Line) → filter p (lines_after past left) ≡ lines_after (filter p past) (filter s left)
  lines-filter [] past = refl
  lines-filter (fields ∷ rest) past = by (line_of fields) refl (s fields) refl (lines-filter rest)
    where
      first : (r : Result Line RowFaultKind) → line_of fields ≡ r → (lines : List Line)
          → lines_after (noted r lines) (filter s rest) ≡ lines_after lines (fields ∷ filter s rest)
      first r e lines = ap (λ x. lines_after (noted x lines) (filter s rest)) (sym e)

      by : (r : Result Line RowFaultKind) → line_of fields ≡ r → (b : Bool) → s fields ≡ b
          → ((past : List Line) → filter p (lines_after past rest) ≡ lines_after (filter p past) (filter s rest))
          → filter p (lines_after (noted r past) rest) ≡ lines_after (filter p past) (cond b (fields ∷ filter s rest) (filter s rest))
      by (Ok l) e true t more =
          more (l ∷ past) ∙ ap (λ lines. lines_after lines (filter s rest)) (keeps p l past (agree fields l e ∙ t)) ∙ first (Ok l) e (filter p past)
      by (Ok l) e false t more = more (l ∷ past) ∙ ap (λ lines. lines_after lines (filter s rest)) (drops p l past (agree fields l e ∙ t))
      by (Err k) e true t more = more past ∙ first (Err k) e (filter p past)
      by (Err k) e false t more = more past

-- each session has the same lines in both
abbrev pub SameLines : List Line → List Line → Type 0
SameLines some other = (q : List ℕ) → filter (does q) some ≡ filter (does q) other

pub same-lines : (some other : List Record) → AreInterleaved some other → SameLines (lines_after [] some) (lines_after [] other)
same-lines some other interleaved = λ q.
    lines-filter (does q) (is_by q) (whose q) some [] ∙ ap (lines_after []) (interleaved q) ∙ sym (lines-filter (does q) (is_by q) (whose q) other [])

-- ---- what lines say of a session

-- a list with one more element, if there is one to add
abbrev one_more : Bool → Transaction → Option (List Transaction) → Option (List Transaction)
one_more here txn list = cond here (Some (unwrap_or list [] ++ txn ∷ [])) list

abbrev done : List ℕ → List Line → Option (List Transaction)
done q [] = None
done q (line.Seal ∷ past) = done q past
done q (line.Begin s ∷ past) = done q past
done q (line.Finish s committed ∷ past) = one_more (same s q) (record { ops = ops_since q past; committed = committed }) (done q past)
done q (line.Unknown s ∷ past) = done q past
done q (line.Operation s op ∷ past) = done q past

-- what lines say of a session: whether it has begun a transaction, its operations since its last mark, and what it has
-- finished
abbrev Said : Type 0
Said = Bool × List Op × Option (List Transaction)

abbrev said : List ℕ → List Line → Said
said q past = (is_begun q past, ops_since q past, done q past)

-- the same after one more line
abbrev after_line : List ℕ → Line → Said → Said
after_line q line.Seal x = (x.0, x.1 ++ [], x.2)
after_line q (line.Begin s) x = (cond (same s q) true x.0, cond (same s q) [] (x.1 ++ []), x.2)
after_line q (line.Finish s committed) x = (
  cond (same s q) false x.0,
  cond (same s q) [] (x.1 ++ []),
  one_more (same s q) (record { ops = x.1; committed = committed }) x.2,
)
after_line q (line.Unknown s) x = (cond (same s q) false x.0, cond (same s q) [] (x.1 ++ []), x.2)
after_line q (line.Operation s op) x = (x.0, x.1 ++ cond (same s q) (op ∷ []) [], x.2)

said-line : (q : List ℕ) (l : Line) (past : List Line) → said q (l ∷ past) ≡ after_line q l (said q past)
said-line q line.Seal past = refl
said-line q (line.Begin s) past = refl
said-line q (line.Finish s committed) past = refl
said-line q (line.Unknown s) past = refl
said-line q (line.Operation s op) past = refl

nothing-more : (x : Said) → (x.0, x.1 ++ [], x.2) ≡ x
nothing-more x = λ i. (x.0, append-nil x.1 i, x.2)

-- lines of other sessions change nothing of it
said-other : (q : List ℕ) (l : Line) (x : Said) → does q l ≡ false → after_line q l x ≡ x
said-other q line.Seal x e = nothing-more x
said-other q (line.Begin s) x e = rw e (nothing-more x)
said-other q (line.Finish s committed) x e = rw e (nothing-more x)
said-other q (line.Unknown s) x e = rw e (nothing-more x)
said-other q (line.Operation s op) x e = rw e (nothing-more x)

said-kept : (q : List ℕ) (past : List Line) → said q past ≡ said q (filter (does q) past)
said-kept q [] = refl
said-kept q (l ∷ past) = by (does q l) refl (said-kept q past)
  where
    by : (b : Bool) → does q l ≡ b → said q past ≡ said q (filter (does q) past)
        → said q (l ∷ past) ≡ said q (cond b (l ∷ filter (does q) past) (filter (does q) past))
    by true e more = said-line q l past ∙ ap (after_line q l) more ∙ sym (said-line q l (filter (does q) past))
    by false e more = said-line q l past ∙ said-other q l (said q past) e ∙ more

pub begun-kept : (q : List ℕ) (past : List Line) → is_begun q past ≡ is_begun q (filter (does q) past)
begun-kept q past = ap (λ (x : Said). x.0) (said-kept q past)

pub ops-kept : (q : List ℕ) (past : List Line) → ops_since q past ≡ ops_since q (filter (does q) past)
ops-kept q past = ap (λ (x : Said). x.1) (said-kept q past)

done-kept : (q : List ℕ) (past : List Line) → done q past ≡ done q (filter (does q) past)
done-kept q past = ap (λ (x : Said). x.2) (said-kept q past)

-- the list of a session in what some lines finish
get-done : (past : List Line) (q : List ℕ) → finite.get (finished_by past) q ≡ done q past
get-done [] q = finite.get-empty _ q
get-done (line.Seal ∷ past) q = ap (λ s. finite.get s q) (finished_in-push (items_in past) item.Seal) ∙ get-done past q
get-done (line.Begin s ∷ past) q = get-done past q
get-done (line.Operation s op ∷ past) q = get-done past q
get-done (line.Unknown s ∷ past) q = ap (λ m. finite.get m q) (finished_in-push (items_in past) _) ∙ get-done past q
get-done (line.Finish s committed ∷ past) q =
    let txn : Transaction = record { ops = ops_since s past; committed = committed } in
    let m = finished_by past in
    ap (λ all. finite.get all q) (finished_in-push (items_in past) (item.Finished s txn))
    ∙ finite.get-insert nat_list_cmp_total m s (unwrap_or (finite.get m s) [] ++ txn ∷ []) q
    ∙ ap (λ b. cond b (Some (unwrap_or (finite.get m s) [] ++ txn ∷ [])) (finite.get m q)) (tied-same q s)
    ∙ by (same s q) refl (get-done past q)
  where
    by : (b : Bool) → same s q ≡ b → finite.get (finished_by past) q ≡ done q past
        → cond b (Some (unwrap_or (finite.get (finished_by past) s) [] ++ record { ops = ops_since s past; committed = committed } ∷ []))
        (finite.get (finished_by past) q)
        ≡ one_more b (record { ops = ops_since q past; committed = committed }) (done q past)
    by true e more =
        ap (λ n. Some (unwrap_or (finite.get (finished_by past) n) [] ++ record { ops = ops_since n past; committed = committed } ∷ [])) (same-name s q e)
        ∙ ap (one_more true (record { ops = ops_since q past; committed = committed })) more
    by false e more = more

pub finished-same : (some other : List Line) → SameLines some other → finished_by some ≡ finished_by other
finished-same some other lines =
    finite.same_map nat_list_cmp_total exact_bytes (finished_by some) (finished_by other)
    (λ q. get-done some q ∙ done-kept q some ∙ ap (done q) (lines q) ∙ sym (done-kept q other) ∙ sym (get-done other q))

-- ---- the answers to records without a fault

module _ (limits : Limits) where
  pub judged-line : (past : List Line) (fields : Record) (last : Line) → judged_within limits past fields ≡ Ok last → line_of fields ≡ Ok last
  judged-line past fields last = by (is_cut fields) (line_of fields) refl refl
    where
      of : (found : Line) (o : Option RowFaultKind) → option_map_or Err o (Ok found) ≡ Ok last → found ≡ last
      of found None e = cc e
      of found (Some k) e = cc e

      by : (cut : Bool) (r : Result Line RowFaultKind) → is_cut fields ≡ cut → line_of fields ≡ r → judged_within limits past fields ≡ Ok last → line_of fields ≡ Ok last
      by true r whole is e = (let faulty : judged_within limits past fields ≡ Err kind.Read = rw whole refl in cc)
      by false (Err k) whole is e = (let faulty : judged_within limits past fields ≡ Err k = rw (whole, is) refl in cc)
      by false (Ok found) whole is e =
          let after : judged_within limits past fields ≡ option_map_or Err (fault_within limits past found) (Ok found) = rw (whole, is) refl in
          is ∙ ap Ok (of found (fault_within limits past found) (sym after ∙ e))

pub items-of : (left : List Record) (past : List Line) → (answers_after past left).fault ≡ None
    → items_in past ++ (answers_after past left).items ≡ items_in (lines_after past left)
items-of [] past free = append-nil (items_in past)
items-of (fields ∷ rest) past free = by (judged past fields) refl free (items-of rest)
  where
    more : (o : Option Item) (items : List Item) (ahead : Answers) → items ++ (after_item o ahead).items ≡ pushed o items ++ ahead.items
    more None items ahead = refl
    more (Some first) items ahead = sym (append_assoc items (first ∷ []) ahead.items)

    same-fault : (o : Option Item) (ahead : Answers) → (after_item o ahead).fault ≡ ahead.fault
    same-fault None ahead = refl
    same-fault (Some first) ahead = refl

    by : (r : Result Line RowFaultKind) → judged past fields ≡ r → (go_on past (λ lines. answers_after lines rest) r).fault ≡ None
        → ((lines : List Line) → (answers_after lines rest).fault ≡ None
        → items_in lines ++ (answers_after lines rest).items ≡ items_in (lines_after lines rest))
        → items_in past ++ (go_on past (λ lines. answers_after lines rest) r).items ≡ items_in (lines_after (noted (line_of fields) past) rest)
    by (Err k) e free next = cc free
    by (Ok last) e free next =
        let ahead = answers_after (last ∷ past) rest in
        rw (judged-line Small past fields last e)
        (more (item_of past last) (items_in past) ahead ∙ next (last ∷ past) (sym (same-fault (item_of past last) ahead) ∙ free))
