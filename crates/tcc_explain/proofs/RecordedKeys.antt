-- What records finish has names for keys: a field for a key is accepted only where it is a name.
use Rattle.std.proofs.Common.{ℕ, ◌≡◌, ◌==◌, Bool, true, false, cond, List, [], ◌∷◌, ◌++◌, length}
use Rattle.std.proofs.Common.{All, Option, None, Some, Result, Ok, Err, refl, sym, subst, ◌∙◌}
use Rattle.std.proofs.Common.{arith}
use Rattle.std.specs.Prelude.{filter, fold, is_none, is_some, map, not, unwrap_or, codes, take}
use Rattle.std.specs.Option.{option_map_or}
use Rattle.std.specs.FinMap as finite
use Rattle.std.specs.FinMap.Entries.{by_order, find, put}
use Rattle.std.specs.Cmp.Lexicographic.{nat_list_cmp_total, slice_cmp}
use Rattle.std.specs.Ordering.{nat_cmp, eq_by_cmp}
use Rattle.std.specs.declared.cmp.Ordering.{Ordering}
use Rattle.std.specs.declared.cmp.Ordering.TheVariants.{Less, Equal, Greater}
use Rattle.std.proofs.lemmas.List.Elements.{All-nil, All-cons, All-head, All-tail, All-append, All-take}
use Rattle.tcc_rows.specs.Answers.{Answers, after_item, answers_after_within, answers_of, answers_within, given_within, go_on, judged_within, records_within}
use Rattle.tcc_rows.specs.Settling.{is_seen, settled_after, shown, told, unseen_among, with_shown}
use Rattle.tcc_txn.specs.Finished.{with_transaction}
use Rattle.tcc_rows.specs.Items.{finished_in, with_item}
use Rattle.tcc_txn.specs.Bytes.{same}
use Rattle.tcc_rows.specs.Lines.{Record, is_cut, line_of, accessed, op_of, in_session, value_of}
use Rattle.tcc_txn.specs.Names.{name_fault}
use Rattle.tcc_rows.specs.Past.{begins, fault_within, is_mark, is_write, item_of, ops_in, ops_since, writes_of}
use Rattle.tcc_txn.specs.Snapshots.{Sessions}
use Rattle.tcc_txn.specs.declared.limits.Limits.{Limits}
use Rattle.tcc_txn.specs.declared.limits.Limits.TheVariants.{Small}
use Rattle.tcc_txn.specs.Transactions.{Transaction}
use Rattle.tcc_txn.specs.declared.name.NameFault.{NameFault}
use Rattle.tcc_txn.specs.declared.op.Op.{Op}
use Rattle.tcc_txn.specs.declared.op.Op.TheVariants.{Get, Put}
use Rattle.tcc_rows.specs.declared.rows.Item.{Item}
use Rattle.tcc_rows.specs.declared.rows.Item.TheVariants as item
use Rattle.tcc_rows.specs.declared.fault.RowFaultKind.{RowFaultKind}
use Rattle.tcc_rows.specs.declared.fault.RowFaultKind.TheVariants as kind
use Rattle.tcc_cert.specs.Texts.{IsKey}
use Rattle.tcc_explain.specs.Keys.{NamesKey, NamesKeys, HasNames}

-- the type of the argument of a function
abbrev taken_by : {A B : Type 0} → (A → B) → Type 0
taken_by {A} {B} f = A

-- a line, which has no name outside its crate
abbrev Line : Type 0
Line = taken_by begins

-- ---- what is required of a line

-- what a session does by the line
abbrev LineNames : Line → Type 0
LineNames l = (name : List ℕ) → All NamesKey (ops_in name l)

abbrev ItemNames : Item → Type 0
ItemNames (item.Finished session txn) = NamesKeys txn
ItemNames (item.Unknown session txn) = NamesKeys txn
ItemNames item.Seal = Unit {0}
ItemNames item.End = Unit {0}

-- the operations of a line have names for keys, and so has what it finishes after others
abbrev IsSound : Line → Type 0
IsSound l =
    LineNames l × ((past : List Line) → All LineNames past → (rest : Answers) → All ItemNames rest.items
    → All ItemNames (after_item (item_of past l) rest).items)

ops_named : (name : List ℕ) (past : List Line) → All LineNames past → All NamesKey (ops_since name past)
ops_named name [] all = All-nil NamesKey
ops_named name (last ∷ past) all = go (is_mark name last) (ops_named name past (All-tail LineNames last past all))
  where
    go : (b : Bool) → All NamesKey (ops_since name past) → All NamesKey (cond b [] (ops_since name past ++ ops_in name last))
    go true before = All-nil NamesKey
    go false before = All-append NamesKey (ops_since name past) (ops_in name last) before (All-head LineNames last past all name)

writes_named : (ops : List Op) → All NamesKey ops → All NamesKey (writes_of ops)
writes_named [] all = All-nil NamesKey
writes_named (op ∷ ops) all = go (is_write op) (writes_named ops (All-tail NamesKey op ops all))
  where
    go : (b : Bool) → All NamesKey (writes_of ops) → All NamesKey (cond b (op ∷ writes_of ops) (writes_of ops))
    go true later = All-cons NamesKey op (writes_of ops) (All-head NamesKey op ops all) later
    go false later = later

-- ---- the line of a record

no_fault : (o : Option NameFault) → is_some o ≡ false → o ≡ None
no_fault None e = refl
no_fault (Some fault) e = cc e

accessed_named : (writes : Bool) (key : List ℕ) (value : ℕ) (op : Op) → IsKey key → accessed writes key value ≡ Ok op → NamesKey op
accessed_named false key value op named e = let at : Get key value ≡ op = cc e in rw (← at) named
accessed_named true key value op named e = go (value == 0) e
  where
    go : (b : Bool) → cond b (Err kind.WriteOfZero) (Ok (Put key value)) ≡ Ok op → NamesKey op
    go true e = cc e
    go false e = let at : Put key value ≡ op = cc e in rw (← at) named

op_named : (writes : Bool) (key value : List ℕ) (op : Op) → op_of writes key value ≡ Ok op → NamesKey op
op_named writes key value op e = go (is_some (name_fault key)) refl (value_of value) e
  where
    go : (b : Bool) → is_some (name_fault key) ≡ b → (o : Option ℕ)
        → cond b (Err kind.BadKey) (option_map_or (accessed writes key) o (Err kind.BadValue)) ≡ Ok op → NamesKey op
    go true is o e = cc e
    go false is None e = cc e
    go false is (Some v) e = accessed_named writes key v op (no_fault (name_fault key) is) e

one_op : (op : Op) → NamesKey op → (b : Bool) → All NamesKey (cond b (op ∷ []) [])
one_op op named true = All-cons NamesKey op [] named (All-nil NamesKey)
one_op op named false = All-nil NamesKey

module _ {X : Type 0} (P : X → Type 0) where
  abbrev done : X → Result X RowFaultKind
  done x = Ok x

  of_ok : (x l : X) → done x ≡ done l → P x → P l
  of_ok x l e here = let same : x ≡ l = cc e in subst P same here

  -- the answer to a word, or to one of three
  of_word : (x l : X) (k : RowFaultKind) (b : Bool) → cond b (Ok x) (Err k) ≡ Ok l → P x → P l
  of_word x l k true e here = of_ok x l e here
  of_word x l k false e here = cc e

  of_words : (w x y z l : X) (j k : RowFaultKind) (a b c d f : Bool)
      → cond a (Err j) (cond b (Ok w) (cond c (Ok x) (cond d (Ok y) (cond f (Ok z) (Err k))))) ≡ Ok l → P w → P x → P y → P z → P l
  of_words w x y z l j k true b c d f e first second third fourth = cc e
  of_words w x y z l j k false true c d f e first second third fourth = of_ok w l e first
  of_words w x y z l j k false false true d f e first second third fourth = of_ok x l e second
  of_words w x y z l j k false false false true f e first second third fourth = of_ok y l e third
  of_words w x y z l j k false false false false f e first second third fourth = of_word z l k f e fourth

  of_either : (r s : Result X RowFaultKind) (l : X) (j k : RowFaultKind) (a b c : Bool) → cond a (Err j) (cond b r (cond c s (Err k))) ≡ Ok l
      → (r ≡ Ok l → P l) → (s ≡ Ok l → P l) → P l
  of_either r s l j k true b c e first second = cc e
  of_either r s l j k false true c e first second = first e
  of_either r s l j k false false true e first second = second e
  of_either r s l j k false false false e first second = cc e

in_session_sound : (session : List ℕ) (r : Result Op RowFaultKind) (l : Line) → ((op : Op) → r ≡ Ok op → NamesKey op) → in_session session r ≡ Ok l → IsSound l
in_session_sound session (Ok op) l named e =
    of_ok IsSound _ l e ((λ name. one_op op (named op refl) (same session name)), (λ past all rest others. others))
in_session_sound session (Err k) l named e = cc e

line_sound : (fields : Record) (l : Line) → line_of fields ≡ Ok l → IsSound l
line_sound [] l e = cc e
line_sound (word ∷ []) l e =
    of_word IsSound _ l _ (same word (codes "seal")) e
    ((λ name. All-nil NamesKey), (λ past all rest others. All-cons ItemNames item.Seal rest.items tt others))
line_sound (session ∷ word ∷ []) l e =
    of_words IsSound _ _ _ _ l _ _ (is_some (name_fault session)) (same word (codes "begin")) (same word (codes "commit")) (same word (codes "abort"))
    (same word (codes "unknown")) e
    ((λ name. All-nil NamesKey), (λ past all rest others. others))
    ((λ name. All-nil NamesKey), (λ past all rest others. All-cons ItemNames _ rest.items (ops_named session past all) others))
    ((λ name. All-nil NamesKey), (λ past all rest others. All-cons ItemNames _ rest.items (ops_named session past all) others))
    ((λ name. All-nil NamesKey), (λ past all rest others. All-cons ItemNames _ rest.items (writes_named (ops_since session past) (ops_named session past all)) others))
line_sound (a ∷ b ∷ c ∷ []) l e = cc e
line_sound (session ∷ word ∷ key ∷ value ∷ []) l e =
    of_either IsSound (in_session session (op_of false key value)) (in_session session (op_of true key value)) l _ _
    (is_some (name_fault session)) (same word (codes "r")) (same word (codes "w")) e
    (in_session_sound session (op_of false key value) l (op_named false key value))
    (in_session_sound session (op_of true key value) l (op_named true key value))
line_sound (a ∷ b ∷ c ∷ d ∷ f ∷ more) l e = cc e

judged_sound : (limits : Limits) (past : List Line) (fields : Record) (last : Line) → judged_within limits past fields ≡ Ok last → IsSound last
judged_sound limits past fields last = go (is_cut fields) (line_of fields) refl refl
  where
    of : (found : Line) (o : Option RowFaultKind) → IsSound found → option_map_or Err o (Ok found) ≡ Ok last → IsSound last
    of found None sound e = of_ok IsSound found last e sound
    of found (Some k) sound e = cc e

    go : (cut : Bool) (r : Result Line RowFaultKind) → is_cut fields ≡ cut → line_of fields ≡ r → judged_within limits past fields ≡ Ok last → IsSound last
    go true r whole is e = (let faulty : judged_within limits past fields ≡ Err kind.Read = rw whole refl in cc (faulty, e))
    go false (Err k) whole is e = (let faulty : judged_within limits past fields ≡ Err k = rw (whole, is) refl in cc (faulty, e))
    go false (Ok found) whole is e =
        let after : judged_within limits past fields ≡ option_map_or Err (fault_within limits past found) (Ok found) = rw (whole, is) refl in
        of found (fault_within limits past found) (line_sound fields found is) (sym after ∙ e)

-- ---- items

items_named : (limits : Limits) (left : List Record) (past : List Line) → All LineNames past → All ItemNames (answers_after_within limits past left).items
items_named limits [] past all = All-nil ItemNames
items_named limits (fields ∷ rest) past all = go (judged_within limits past fields) refl (items_named limits rest)
  where
    go : (r : Result Line RowFaultKind) → judged_within limits past fields ≡ r → ((lines : List Line) → All LineNames lines → All ItemNames (answers_after_within limits lines rest).items)
        → All ItemNames (go_on past (λ lines. answers_after_within limits lines rest) r).items
    go (Err k) e later = All-nil ItemNames
    go (Ok last) e later =
        let sound : IsSound last = judged_sound limits past fields last e in
        sound.1 past all (answers_after_within limits (last ∷ past) rest) (later (last ∷ past) (All-cons LineNames last past sound.0 all))

-- ---- settled items

abbrev AreWaiting : List ℕ × Transaction → Type 0
AreWaiting p = NamesKeys p.1

told_named : (test : List ℕ × Transaction → Bool) (pending : List (List ℕ × Transaction)) → All AreWaiting pending
    → All ItemNames (map told (filter test pending)) × All AreWaiting (filter test pending)
told_named test [] all = (All-nil ItemNames, All-nil AreWaiting)
told_named test (p ∷ ps) all = go (test p) (told_named test ps (All-tail AreWaiting p ps all))
  where
    go : (b : Bool) → All ItemNames (map told (filter test ps)) × All AreWaiting (filter test ps)
        → All ItemNames (map told (cond b (p ∷ filter test ps) (filter test ps))) × All AreWaiting (cond b (p ∷ filter test ps) (filter test ps))
    go true later = (
      All-cons ItemNames (told p) (map told (filter test ps)) (All-head AreWaiting p ps all) later.0,
      All-cons AreWaiting p (filter test ps) (All-head AreWaiting p ps all) later.1,
    )
    go false later = later

settled_named : (ends : Bool) (items : List Item) (s : Sessions) (pending : List (List ℕ × Transaction)) → All AreWaiting pending → All ItemNames items
    → All ItemNames (settled_after ends s pending items)
settled_named true [] s pending waiting all = (told_named (λ p. is_seen s p.1) pending waiting).0
settled_named false [] s pending waiting all = All-nil ItemNames
settled_named ends (item.Finished session txn ∷ items) s pending waiting all =
    All-cons ItemNames (item.Finished session txn) _ (All-head ItemNames _ items all)
    (settled_named ends items (with_transaction s session txn) pending waiting (All-tail ItemNames _ items all))
settled_named ends (item.Unknown session txn ∷ items) s pending waiting all =
    settled_named ends items s (pending ++ (session, txn) ∷ [])
    (All-append AreWaiting pending ((session, txn) ∷ []) waiting
    (All-cons AreWaiting (session, txn) [] (All-head ItemNames (item.Unknown session txn) items all) (All-nil AreWaiting)))
    (All-tail ItemNames _ items all)
settled_named ends (item.Seal ∷ items) s pending waiting all =
    All-append ItemNames (shown s pending) (item.Seal ∷ settled_after ends (with_shown s pending) (unseen_among s pending) items)
    (told_named (λ p. is_seen s p.1) pending waiting).0
    (All-cons ItemNames item.Seal (settled_after ends (with_shown s pending) (unseen_among s pending) items) tt
    (settled_named ends items (with_shown s pending) (unseen_among s pending) (told_named (λ p. not (is_seen s p.1)) pending waiting).1
    (All-tail ItemNames _ items all)))
settled_named ends (item.End ∷ items) s pending waiting all =
    All-cons ItemNames item.End _ tt (settled_named ends items s pending waiting (All-tail ItemNames _ items all))

-- ---- what they finish

abbrev name_cmp : List ℕ → List ℕ → Ordering
name_cmp = slice_cmp nat_cmp

abbrev AreNamed : List ℕ × List Transaction → Type 0
AreNamed named = All NamesKeys named.1

put_named : (session : List ℕ) (txns : List Transaction) (es : List (List ℕ × List Transaction)) → All NamesKeys txns → All AreNamed es
    → All AreNamed (put name_cmp session txns es)
put_named session txns [] named all = All-cons AreNamed (session, txns) [] named (All-nil AreNamed)
put_named session txns (e ∷ es) named all = go (name_cmp session e.0) (put_named session txns es named (All-tail AreNamed e es all))
  where
    go : (o : Ordering) → All AreNamed (put name_cmp session txns es)
        → All AreNamed (by_order o ((session, txns) ∷ e ∷ es) ((e.0, txns) ∷ es) (e ∷ put name_cmp session txns es))
    go Less later = All-cons AreNamed (session, txns) (e ∷ es) named all
    go Equal later = All-cons AreNamed (e.0, txns) es named (All-tail AreNamed e es all)
    go Greater later = All-cons AreNamed e (put name_cmp session txns es) (All-head AreNamed e es all) later

found_named : (session : List ℕ) (es : List (List ℕ × List Transaction)) → All AreNamed es → All NamesKeys (unwrap_or (find name_cmp session es) [])
found_named session [] all = All-nil NamesKeys
found_named session (e ∷ es) all = go (eq_by_cmp name_cmp session e.0) (found_named session es (All-tail AreNamed e es all))
  where
    go : (b : Bool) → All NamesKeys (unwrap_or (find name_cmp session es) []) → All NamesKeys (unwrap_or (cond b (Some e.1) (find name_cmp session es)) [])
    go true others = All-head AreNamed e es all
    go false others = others

with_named : (s : Sessions) (session : List ℕ) (txn : Transaction) → HasNames s → NamesKeys txn → HasNames (with_transaction s session txn)
with_named s session txn named here =
    subst (All AreNamed) (sym (finite.entries-insert nat_list_cmp_total s session (unwrap_or (finite.get s session) [] ++ txn ∷ [])))
    (put_named session (unwrap_or (finite.get s session) [] ++ txn ∷ []) (finite.entries s)
    (All-append NamesKeys (unwrap_or (finite.get s session) []) (txn ∷ [])
    (subst (λ found. All NamesKeys (unwrap_or found [])) (sym (finite.get-entries s session)) (found_named session (finite.entries s) named))
    (All-cons NamesKeys txn [] here (All-nil NamesKeys)))
    named)

fold_named : (items : List Item) (s : Sessions) → HasNames s → All ItemNames items → HasNames (fold with_item s items)
fold_named [] s named all = named
fold_named (item.Finished session txn ∷ items) s named all =
    fold_named items (with_transaction s session txn) (with_named s session txn named (All-head ItemNames _ items all)) (All-tail ItemNames _ items all)
fold_named (item.Unknown session txn ∷ items) s named all = fold_named items s named (All-tail ItemNames _ items all)
fold_named (item.Seal ∷ items) s named all = fold_named items s named (All-tail ItemNames _ items all)
fold_named (item.End ∷ items) s named all = fold_named items s named (All-tail ItemNames _ items all)

no_entries : {X : Type 0} (es : List X) → length es ≡ 0 → es ≡ []
no_entries [] e = refl
no_entries (x ∷ es) e = absurd (omega arith)

none_named : HasNames finite.empty
none_named =
    subst (All AreNamed)
    (sym (no_entries (finite.entries finite.empty) (sym (finite.len-entries finite.empty) ∙ finite.len-empty name_cmp (List Transaction))))
    (All-nil AreNamed)

-- what the first items of a text finish, however many, within the default or the large limits
pub recorded_within : (limits : Limits) (text : List ℕ) (n : ℕ) → HasNames (finished_in (take n (answers_within limits text).items))
recorded_within limits text n =
    fold_named (take n (answers_within limits text).items) finite.empty none_named
    (All-take ItemNames n (answers_within limits text).items
    (settled_named (is_none (given_within limits text).fault) (given_within limits text).items finite.empty [] (All-nil AreWaiting)
    (items_named limits (records_within limits text) [] (All-nil LineNames))))

pub recorded : (text : List ℕ) (n : ℕ) → HasNames (finished_in (take n (answers_of text).items))
recorded text n = recorded_within Small text n
