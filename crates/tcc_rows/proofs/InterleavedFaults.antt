-- Records without a fault have none, however they are interleaved.
use Rattle.std.proofs.Common.{◌≡◌, ℕ, zero, suc, ◌+◌, ◌≤◌, Bool, true, false, not, cond, ◌||◌, List, [], ◌∷◌, ◌++◌}
use Rattle.std.proofs.Common.{filter, length, refl, sym, ap, subst, ◌∙◌, arith, Option, None, Some, Result, Ok, Err}
use Rattle.std.proofs.Common.{nat_lt}
use Rattle.std.specs.Prelude.{codes, is_none, is_some, option_map}
use Rattle.std.specs.List.{AllByRecursion, Contains, IsDistinct, list_any}
use Rattle.std.specs.Cmp.Lexicographic.{nat_list_eq_equiv}
use Rattle.std.proofs.lemmas.Bool.{or_left, or_right}
use Rattle.std.proofs.lemmas.Bool.Decides.{nat_tests}
use Rattle.std.proofs.lemmas.List.Elements.{filter-append}
use Rattle.std.proofs.lemmas.Map.Keys.{IsDistinct-cons}
use Rattle.std.proofs.lemmas.Map.Made.{length-le_from_is_member}
use Rattle.tcc_rows.specs.Answers.{Answers, after_item, answers_of, fault_at_end, given_within, go_on, records_of}
use Rattle.tcc_rows.proofs.Settled.{none-sealed, seals-settled, unsealed-none}
use Rattle.std.specs.FinMap as finite
use Rattle.tcc_rows.specs.private.Words.{answers_after, judged}
use Rattle.tcc_rows.specs.Interleaved.{AreInterleaved, is_by, is_by_none, records_by_none}
use Rattle.tcc_txn.specs.Bytes.{same}
use Rattle.tcc_rows.specs.Lines.{Record, in_session, is_cut, line_of, op_of}
use Rattle.tcc_txn.specs.Names.{name_fault}
use Rattle.tcc_rows.specs.Past.{begin_count, begins, ends, fault_in_time, fault_of, is_begun, is_ended, item_of, keys, least, open_sessions, ops_since, seal_count, seals, sessions, with_name}
use Rattle.tcc_rows.specs.Recordings.{has_seal}
use Rattle.tcc_txn.specs.Transactions.{op_key}
use Rattle.tcc_txn.specs.declared.limits.Limits.TheVariants.{Small}
use Rattle.tcc_txn.specs.declared.limits.TheConstants.{MAX_KEYS, MAX_OPERATIONS, MAX_SEALS, MAX_SESSIONS, MAX_TRANSACTIONS}
use Rattle.tcc_txn.specs.declared.op.Op.{Op}
use Rattle.tcc_rows.specs.declared.rows.Item.{Item}
use Rattle.tcc_rows.specs.declared.fault.RowFault.{RowFault}
use Rattle.tcc_rows.specs.declared.fault.RowFaultKind.{RowFaultKind}
use Rattle.tcc_rows.specs.declared.fault.RowFaultKind.TheVariants as kind
use Rattle.tcc_rows.specs.Line.{Line}
use Rattle.tcc_rows.specs.Line as line
use Rattle.tcc_rows.proofs.FinishedFacts.{AreLawful, few_begun, few_seated, fits, in-time, judged-free, no-begin-fault, no-finish-fault}
use Rattle.tcc_rows.proofs.Interleaving.{begun-kept, does, drops, judged-line, keeps, lines-filter, lines_after, noted, ops-kept, same-lines}
use Rattle.tcc_rows.proofs.LeastOpen.{none-open}
use Rattle.tcc_txn.proofs.Lists.{from_filter, in_filter}
use Rattle.tcc_rows.proofs.PastFacts.{begun-seen, same-itself, same-name, seen-noted, seen-other}

-- ---- the lines of one session among all

-- the line is one of the session, or of no session if none is given
abbrev stands : Option (List ℕ) → Line → Bool
stands None = seals
stands (Some q) = does q

-- the session of the line
abbrev owner : Line → Option (List ℕ)
owner line.Seal = None
owner (line.Begin session) = Some session
owner (line.Finish session committed) = Some session
owner (line.Unknown session) = Some session
owner (line.Operation session op) = Some session

stands-owner : (l : Line) → stands (owner l) l ≡ true
stands-owner line.Seal = refl
stands-owner (line.Begin session) = same-itself session
stands-owner (line.Finish session committed) = same-itself session
stands-owner (line.Unknown session) = same-itself session
stands-owner (line.Operation session op) = same-itself session

only-owner : (o : Option (List ℕ)) (l : Line) → stands o l ≡ true → o ≡ owner l
only-owner None line.Seal e = refl
only-owner None (line.Begin session) e = cc e
only-owner None (line.Finish session committed) e = cc e
only-owner None (line.Unknown session) e = cc e
only-owner None (line.Operation session op) e = cc e
only-owner (Some q) line.Seal e = cc e
only-owner (Some q) (line.Begin session) e = ap Some (sym (same-name session q e))
only-owner (Some q) (line.Finish session committed) e = ap Some (sym (same-name session q e))
only-owner (Some q) (line.Unknown session) e = ap Some (sym (same-name session q e))
only-owner (Some q) (line.Operation session op) e = ap Some (sym (same-name session q e))

-- each session has the same lines in both, and so have the seals
abbrev AreSame : List Line → List Line → Type 0
AreSame some other = (o : Option (List ℕ)) → filter (stands o) some ≡ filter (stands o) other

-- the first that passes is taken out
taken-out : {X : Type 0} (p : X → Bool) (ys : List X) (x : X) (rest : List X) → filter p ys ≡ x ∷ rest
    → (front : List X) × (back : List X) × (ys ≡ front ++ x ∷ back) × (filter p front ≡ []) × (filter p back ≡ rest)
taken-out p [] x rest e = cc e
taken-out {X} p (y ∷ ys) x rest e = by (p y) refl e (taken-out p ys x rest)
  where
    by : (b : Bool) → p y ≡ b → cond b (y ∷ filter p ys) (filter p ys) ≡ x ∷ rest
        → (filter p ys ≡ x ∷ rest → (front : List X) × (back : List X) × (ys ≡ front ++ x ∷ back) × (filter p front ≡ []) × (filter p back ≡ rest))
        → (front : List X) × (back : List X) × (y ∷ ys ≡ front ++ x ∷ back) × (filter p front ≡ []) × (filter p back ≡ rest)
    by true t e more = let here : y ≡ x = cc e in let after : filter p ys ≡ rest = cc e in ([], ys, ap (λ z. z ∷ ys) here, refl, after)
    by false t e more = let (front, back, is, none, after) = more e in (y ∷ front, back, ap (λ zs. y ∷ zs) is, drops p y front t ∙ none, after)

-- a begin counts at any position
begin-moved : (front : List Line) (x : Line) (back : List Line) → begin_count (front ++ x ∷ back) ≡ begin_count (x ∷ (front ++ back))
begin-moved [] x back = refl
begin-moved (y ∷ front) x back = ap (λ n. cond (begins y) (n + 1) n) (begin-moved front x back) ∙ by (begins y) (begins x) (begin_count (front ++ back))
  where
    by : (a b : Bool) (n : ℕ) → cond a (cond b (n + 1) n + 1) (cond b (n + 1) n) ≡ cond b (cond a (n + 1) n + 1) (cond a (n + 1) n)
    by true true n = refl
    by true false n = refl
    by false true n = refl
    by false false n = refl

-- what is left when the same line is taken out of both
left-same : (x : Line) (xs ys front back : List Line) → AreSame (x ∷ xs) ys → ys ≡ front ++ x ∷ back
    → filter (stands (owner x)) front ≡ [] → filter (stands (owner x)) back ≡ filter (stands (owner x)) xs → AreSame xs (front ++ back)
left-same x xs ys front back same is none after o = by (stands o x) refl
  where
    own : filter (stands (owner x)) xs ≡ filter (stands (owner x)) (front ++ back)
    own = sym after ∙ ap (λ zs. zs ++ filter (stands (owner x)) back) (sym none) ∙ sym (filter-append (stands (owner x)) front back)

    by : (b : Bool) → stands o x ≡ b → filter (stands o) xs ≡ filter (stands o) (front ++ back)
    by true e = subst (λ w. filter (stands w) xs ≡ filter (stands w) (front ++ back)) (sym (only-owner o x e)) own
    by false e =
        sym (drops (stands o) x xs e) ∙ same o ∙ ap (filter (stands o)) is ∙ filter-append (stands o) front (x ∷ back)
        ∙ ap (λ zs. filter (stands o) front ++ zs) (drops (stands o) x back e) ∙ sym (filter-append (stands o) front back)

begun-same : (xs ys : List Line) → AreSame xs ys → begin_count xs ≡ begin_count ys
begun-same [] [] same = refl
begun-same [] (y ∷ ys) same = (let none : [] ≡ y ∷ filter (stands (owner y)) ys = same (owner y) ∙ keeps (stands (owner y)) y ys (stands-owner y) in cc none)
begun-same (x ∷ xs) ys same =
    let first : filter (stands (owner x)) ys ≡ x ∷ filter (stands (owner x)) xs = sym (same (owner x)) ∙ keeps (stands (owner x)) x xs (stands-owner x) in
    let (front, back, is, none, after) = taken-out (stands (owner x)) ys x (filter (stands (owner x)) xs) first in
    ap (λ n. cond (begins x) (n + 1) n) (begun-same xs (front ++ back) (left-same x xs ys front back same is none after))
    ∙ sym (begin-moved front x back) ∙ ap begin_count (sym is)

sealed-count : (past : List Line) → seal_count past ≡ length (filter seals past)
sealed-count [] = refl
sealed-count (l ∷ past) = by (seals l) (sealed-count past)
  where
    by : (b : Bool) → seal_count past ≡ length (filter seals past)
        → cond b (seal_count past + 1) (seal_count past) ≡ length (cond b (l ∷ filter seals past) (filter seals past))
    by true more = omega (arith, more)
    by false more = more

sealed-same : (some other : List Line) → AreSame some other → seal_count some ≡ seal_count other
sealed-same some other same = sealed-count some ∙ ap length (same None) ∙ sym (sealed-count other)

-- ---- the names so far, each once

apart : (name : List ℕ) (names : List (List ℕ)) → list_any (same name) names ≡ false → AllByRecursion (λ other. same name other ≡ false) names
apart name [] none = tt
apart name (n ∷ names) none = by (same name n) (list_any (same name) names) refl none (apart name names)
  where
    by : (a b : Bool) → same name n ≡ a → (a || b) ≡ false → (b ≡ false → AllByRecursion (λ other. same name other ≡ false) names)
        → (same name n ≡ false) × AllByRecursion (λ other. same name other ≡ false) names
    by true b is e more = cc e
    by false b is e more = (is, more e)

distinct-with : (name : List ℕ) (names : List (List ℕ)) → IsDistinct same names → IsDistinct same (with_name name names)
distinct-with name names distinct = by (list_any (same name) names) refl
  where
    by : (b : Bool) → list_any (same name) names ≡ b → IsDistinct same (cond b names (name ∷ names))
    by true e = distinct
    by false e = IsDistinct-cons same name names (apart name names e) distinct

distinct-sessions : (past : List Line) → IsDistinct same (sessions past)
unfolding IsDistinct
distinct-sessions [] = tt
distinct-sessions (line.Seal ∷ past) = distinct-sessions past
distinct-sessions (line.Begin session ∷ past) = distinct-with session (sessions past) (distinct-sessions past)
distinct-sessions (line.Finish session committed ∷ past) = distinct-sessions past
distinct-sessions (line.Unknown session ∷ past) = distinct-sessions past
distinct-sessions (line.Operation session op ∷ past) = distinct-sessions past

distinct-keys : (past : List Line) → IsDistinct same (keys past)
unfolding IsDistinct
distinct-keys [] = tt
distinct-keys (line.Seal ∷ past) = distinct-keys past
distinct-keys (line.Begin session ∷ past) = distinct-keys past
distinct-keys (line.Finish session committed ∷ past) = distinct-keys past
distinct-keys (line.Unknown session ∷ past) = distinct-keys past
distinct-keys (line.Operation session op ∷ past) = distinct-with (op_key op) (keys past) (distinct-keys past)

-- a line begins a transaction of the session
abbrev opens : List ℕ → Line → Bool
opens q line.Seal = false
opens q (line.Begin session) = same session q
opens q (line.Finish session committed) = false
opens q (line.Unknown session) = false
opens q (line.Operation session op) = false

-- a line has the key
abbrev has_key : List ℕ → Line → Bool
has_key q line.Seal = false
has_key q (line.Begin session) = false
has_key q (line.Finish session committed) = false
has_key q (line.Unknown session) = false
has_key q (line.Operation session op) = same (op_key op) q

seen-by : (name q : List ℕ) (names : List (List ℕ)) (rest : Bool) → list_any (same q) names ≡ rest
    → list_any (same q) (with_name name names) ≡ (same name q || rest)
seen-by name q names rest e = by (same name q) refl
  where
    by : (b : Bool) → same name q ≡ b → list_any (same q) (with_name name names) ≡ (b || rest)
    by true t = seen-noted name q names t
    by false t = seen-other name q names t ∙ e

opened-sessions : (q : List ℕ) (past : List Line) → list_any (same q) (sessions past) ≡ list_any (opens q) past
opened-sessions q [] = refl
opened-sessions q (line.Seal ∷ past) = opened-sessions q past
opened-sessions q (line.Begin session ∷ past) = seen-by session q (sessions past) (list_any (opens q) past) (opened-sessions q past)
opened-sessions q (line.Finish session committed ∷ past) = opened-sessions q past
opened-sessions q (line.Unknown session ∷ past) = opened-sessions q past
opened-sessions q (line.Operation session op ∷ past) = opened-sessions q past

had-keys : (q : List ℕ) (past : List Line) → list_any (same q) (keys past) ≡ list_any (has_key q) past
had-keys q [] = refl
had-keys q (line.Seal ∷ past) = had-keys q past
had-keys q (line.Begin session ∷ past) = had-keys q past
had-keys q (line.Finish session committed ∷ past) = had-keys q past
had-keys q (line.Unknown session ∷ past) = had-keys q past
had-keys q (line.Operation session op ∷ past) = seen-by (op_key op) q (keys past) (list_any (has_key q) past) (had-keys q past)

-- a line that passes is one of its session
any-owned : (p : Line → Bool) (past : List Line) → list_any p past ≡ true → (o : Option (List ℕ)) × (list_any p (filter (stands o) past) ≡ true)
any-owned p [] e = cc e
any-owned p (l ∷ past) e = by (p l) refl e (any-owned p past)
  where
    inside : (b : Bool) (rest : List Line) → list_any p rest ≡ true → list_any p (cond b (l ∷ rest) rest) ≡ true
    inside true rest e = or_right (p l) (list_any p rest) e
    inside false rest e = e

    by : (b : Bool) → p l ≡ b → (b || list_any p past) ≡ true → (list_any p past ≡ true → (o : Option (List ℕ)) × (list_any p (filter (stands o) past) ≡ true))
        → (o : Option (List ℕ)) × (list_any p (filter (stands o) (l ∷ past)) ≡ true)
    by true t e more =
        (owner l, ap (list_any p) (keeps (stands (owner l)) l past (stands-owner l)) ∙ or_left (p l) (list_any p (filter (stands (owner l)) past)) t)
    by false t e more = let (o, there) = more e in (o, inside (stands o l) (filter (stands o) past) there)

any-kept : (p s : Line → Bool) (past : List Line) → list_any p (filter s past) ≡ true → list_any p past ≡ true
any-kept p s [] e = cc e
any-kept p s (l ∷ past) e = by (s l) e (any-kept p s past)
  where
    by : (b : Bool) → list_any p (cond b (l ∷ filter s past) (filter s past)) ≡ true → (list_any p (filter s past) ≡ true → list_any p past ≡ true)
        → (p l || list_any p past) ≡ true
    by true e more = rejoin (p l) (list_any p (filter s past)) e more
      where
        rejoin : (a b : Bool) → (a || b) ≡ true → (b ≡ true → list_any p past ≡ true) → (a || list_any p past) ≡ true
        rejoin true b e more = refl
        rejoin false b e more = more e
    by false e more = or_right (p l) (list_any p past) (more e)

any-same : (p : Line → Bool) (some other : List Line) → AreSame some other → list_any p some ≡ true → list_any p other ≡ true
any-same p some other same e =
    let (o, there) = any-owned p some e in
    any-kept p (stands o) other (ap (list_any p) (sym (same o)) ∙ there)

few-sessions : (some other : List Line) → AreSame some other → length (sessions other) ≤ length (sessions some)
few-sessions some other same =
    length-le_from_is_member nat_list_eq_equiv (sessions other) (sessions some) (distinct-sessions other)
    (λ q h. opened-sessions q some ∙ any-same (opens q) other some (λ o. sym (same o)) (sym (opened-sessions q other) ∙ h))

few-keys : (some other : List Line) → AreSame some other → length (keys other) ≤ length (keys some)
few-keys some other same =
    length-le_from_is_member nat_list_eq_equiv (keys other) (keys some) (distinct-keys other)
    (λ q h. had-keys q some ∙ any-same (has_key q) other some (λ o. sym (same o)) (sym (had-keys q other) ∙ h))

-- ---- lines that are lawful after those of their session

-- the line may follow, by whether its session has begun a transaction and by its operations so far
abbrev FollowsIn : Bool → List Op → Line → Type 0
FollowsIn begun ops line.Seal = Unit {0}
FollowsIn begun ops (line.Begin session) = begun ≡ false
FollowsIn begun ops (line.Finish session committed) = begun ≡ true
FollowsIn begun ops (line.Unknown session) = begun ≡ true
FollowsIn begun ops (line.Operation session op) = (begun ≡ true) × (length (ops ++ op ∷ []) ≤ MAX_OPERATIONS)

-- each line of the session may follow those before it
abbrev FollowBy : List ℕ → List Line → Type 0
FollowBy q [] = Unit {0}
FollowBy q (l ∷ past) = (does q l ≡ true → (is_ended q past ≡ false) × FollowsIn (is_begun q past) (ops_since q past) l) × FollowBy q past

follows-as : (l : Line) (a b : Bool) (xs ys : List Op) → a ≡ b → xs ≡ ys → FollowsIn a xs l → FollowsIn b ys l
follows-as l a b xs ys e f follows = subst (λ ops. FollowsIn b ops l) f (subst (λ begun. FollowsIn begun xs l) e follows)

-- whether a session has ended depends on its lines alone
ends-own : (q : List ℕ) (l : Line) → does q l ≡ false → ends q l ≡ false
ends-own q line.Seal e = refl
ends-own q (line.Begin session) e = refl
ends-own q (line.Finish session committed) e = refl
ends-own q (line.Unknown session) e = e
ends-own q (line.Operation session op) e = refl

ended-kept : (q : List ℕ) (past : List Line) → is_ended q past ≡ is_ended q (filter (does q) past)
ended-kept q [] = refl
ended-kept q (l ∷ past) = by (does q l) refl (ended-kept q past)
  where
    by : (b : Bool) → does q l ≡ b → is_ended q past ≡ is_ended q (filter (does q) past)
        → is_ended q (l ∷ past) ≡ is_ended q (cond b (l ∷ filter (does q) past) (filter (does q) past))
    by true e more = ap (λ b. ends q l || b) more
    by false e more = ap (λ b. b || is_ended q past) (ends-own q l e) ∙ more

-- whether lines may follow one another depends on those of the session alone
follow-kept : (q : List ℕ) (past : List Line) → FollowBy q past → FollowBy q (filter (does q) past)
follow-kept q [] all = tt
follow-kept q (l ∷ past) all = by (does q l) refl (follow-kept q past all.1)
  where
    by : (b : Bool) → does q l ≡ b → FollowBy q (filter (does q) past) → FollowBy q (cond b (l ∷ filter (does q) past) (filter (does q) past))
    by true e more = (
      λ own. (sym (ended-kept q past) ∙ (all.0 own).0, follows-as l (is_begun q past) _ (ops_since q past) _ (begun-kept q past) (ops-kept q past) (all.0 own).1),
      more,
    )
    by false e more = more

follow-back : (q : List ℕ) (past : List Line) → FollowBy q (filter (does q) past) → FollowBy q past
follow-back q [] all = tt
follow-back q (l ∷ past) all = by (does q l) refl all (follow-back q past)
  where
    by : (b : Bool) → does q l ≡ b → FollowBy q (cond b (l ∷ filter (does q) past) (filter (does q) past))
        → (FollowBy q (filter (does q) past) → FollowBy q past)
        → (does q l ≡ true → (is_ended q past ≡ false) × FollowsIn (is_begun q past) (ops_since q past) l) × FollowBy q past
    by true e all more = (
      λ own. (ended-kept q past ∙ (all.0 own).0, follows-as l _ (is_begun q past) _ (ops_since q past) (sym (begun-kept q past)) (sym (ops-kept q past)) (all.0 own).1),
      more all.1,
    )
    by false e all more = (λ own. cc (e, own), more all)

-- no fault of an operation
no-operation-fault : {X : Type 0} (a b c : Bool) (x y z : X) → cond (not a) (Some x) (cond b (Some y) (cond c (Some z) None)) ≡ None
    → (a ≡ true) × (b ≡ false) × (c ≡ false)
no-operation-fault false b c x y z e = cc e
no-operation-fault true true c x y z e = cc e
no-operation-fault true false true x y z e = cc e
no-operation-fault true false false x y z e = (refl, refl, refl)

no-seal-fault : {X : Type 0} (a : Bool) (x : X) → cond a (Some x) None ≡ None → a ≡ false
no-seal-fault true x e = cc e
no-seal-fault false x e = refl

operation-free : (past : List Line) (session : List ℕ) (op : Op) → fault_of past (line.Operation session op) ≡ None
    → (is_begun session past ≡ true) × (nat_lt MAX_OPERATIONS (length (ops_since session (line.Operation session op ∷ past))) ≡ false)
    × (nat_lt MAX_KEYS (length (keys (line.Operation session op ∷ past))) ≡ false)
operation-free past session op free =
    no-operation-fault (is_begun session past) _ _ kind.NotBegun kind.TooManyOps kind.TooManyKeys (in-time Small past (line.Operation session op) free).1

few-had : (past : List Line) → AreLawful Small past → length (keys past) ≤ MAX_KEYS
few-had [] lawful = omega arith
few-had (line.Seal ∷ past) lawful = few-had past lawful.1
few-had (line.Begin session ∷ past) lawful = few-had past lawful.1
few-had (line.Finish session committed ∷ past) lawful = few-had past lawful.1
few-had (line.Unknown session ∷ past) lawful = few-had past lawful.1
few-had (line.Operation session op ∷ past) lawful = fits MAX_KEYS _ (operation-free past session op lawful.0).2

few-sealed : (past : List Line) → AreLawful Small past → seal_count past ≤ MAX_SEALS
few-sealed [] lawful = omega arith
few-sealed (line.Seal ∷ past) lawful = fits MAX_SEALS _ (no-seal-fault _ kind.TooManySeals lawful.0)
few-sealed (line.Begin session ∷ past) lawful = few-sealed past lawful.1
few-sealed (line.Finish session committed ∷ past) lawful = few-sealed past lawful.1
few-sealed (line.Unknown session ∷ past) lawful = few-sealed past lawful.1
few-sealed (line.Operation session op ∷ past) lawful = few-sealed past lawful.1

own-ops : (session : List ℕ) (op : Op) (past : List Line) → ops_since session (line.Operation session op ∷ past) ≡ ops_since session past ++ op ∷ []
own-ops session op past = rw (same-itself session) refl

follow-lawful : (q : List ℕ) (past : List Line) → AreLawful Small past → FollowBy q past
follow-lawful q [] lawful = tt
follow-lawful q (line.Seal ∷ past) lawful = (λ own. cc own, follow-lawful q past lawful.1)
follow-lawful q (line.Begin session ∷ past) lawful =
    let free = in-time Small past (line.Begin session) lawful.0 in (
      λ own. subst (λ name. (is_ended name past ≡ false) × (is_begun name past ≡ false)) (same-name session q own)
          (free.0, (no-begin-fault (is_begun session past) _ _ kind.AlreadyBegun kind.TooManySessions kind.TooManyTransactions free.1).0),
      follow-lawful q past lawful.1,
    )
follow-lawful q (line.Finish session committed ∷ past) lawful =
    let free = in-time Small past (line.Finish session committed) lawful.0 in (
      λ own. subst (λ name. (is_ended name past ≡ false) × (is_begun name past ≡ true)) (same-name session q own)
          (free.0, no-finish-fault (is_begun session past) kind.NotBegun free.1),
      follow-lawful q past lawful.1,
    )
follow-lawful q (line.Unknown session ∷ past) lawful =
    let free = in-time Small past (line.Unknown session) lawful.0 in (
      λ own. subst (λ name. (is_ended name past ≡ false) × (is_begun name past ≡ true)) (same-name session q own)
          (free.0, no-finish-fault (is_begun session past) kind.NotBegun free.1),
      follow-lawful q past lawful.1,
    )
follow-lawful q (line.Operation session op ∷ past) lawful =
    let late = (in-time Small past (line.Operation session op) lawful.0).0 in
    let free = operation-free past session op lawful.0 in
    let room : length (ops_since session past ++ op ∷ []) ≤ MAX_OPERATIONS =
    subst (λ ops. length ops ≤ MAX_OPERATIONS) (own-ops session op past) (fits MAX_OPERATIONS _ free.1) in (
      λ own. subst (λ name. (is_ended name past ≡ false) × ((is_begun name past ≡ true) × (length (ops_since name past ++ op ∷ []) ≤ MAX_OPERATIONS)))
          (same-name session q own) (late, (free.0, room)),
      follow-lawful q past lawful.1,
    )

-- the lines keep the limits of an input
record Keeps (past : List Line) : Type 0 where
  transactions : begin_count past ≤ MAX_TRANSACTIONS
  sessions : length (sessions past) ≤ MAX_SESSIONS
  keys : length (keys past) ≤ MAX_KEYS
  seals : seal_count past ≤ MAX_SEALS

not-past : (most n : ℕ) → n ≤ most → nat_lt most n ≡ false
not-past most n few = grind (arith, nat_tests, few)

no-longer : (name : List ℕ) (names : List (List ℕ)) → length names ≤ length (with_name name names)
no-longer name names = by (list_any (same name) names)
  where
    by : (b : Bool) → length names ≤ length (cond b names (name ∷ names))
    by true = omega arith
    by false = omega arith

keeps-before : (l : Line) (past : List Line) → Keeps (l ∷ past) → Keeps past
keeps-before line.Seal past k = record { transactions = k.transactions; sessions = k.sessions; keys = k.keys; seals = omega (arith, k.seals) }
keeps-before (line.Begin session) past k =
    record {
      transactions = omega (arith, k.transactions);
      sessions = omega (arith, k.sessions, no-longer session (sessions past));
      keys = k.keys;
      seals = k.seals;
    }
keeps-before (line.Finish session committed) past k = record { transactions = k.transactions; sessions = k.sessions; keys = k.keys; seals = k.seals }
keeps-before (line.Unknown session) past k = record { transactions = k.transactions; sessions = k.sessions; keys = k.keys; seals = k.seals }
keeps-before (line.Operation session op) past k =
    record { transactions = k.transactions; sessions = k.sessions; keys = omega (arith, k.keys, no-longer (op_key op) (keys past)); seals = k.seals }

free-after : (past : List Line) (l : Line) → Keeps (l ∷ past) → ((q : List ℕ) → FollowBy q (l ∷ past)) → fault_of past l ≡ None
free-after past line.Seal k follow = let few = not-past MAX_SEALS _ k.seals in rw few refl
free-after past (line.Begin session) k follow =
    let (late, closed) = (follow session).0 (same-itself session) in
    let few = not-past MAX_SESSIONS _ k.sessions in
    let short = not-past MAX_TRANSACTIONS _ k.transactions in
    rw (late, closed, few, short) refl
free-after past (line.Finish session committed) k follow =
    let (late, started) = (follow session).0 (same-itself session) in
    rw (late, started) refl
free-after past (line.Unknown session) k follow =
    let (late, started) = (follow session).0 (same-itself session) in
    rw (late, started) refl
free-after past (line.Operation session op) k follow =
    let (late, standing) = (follow session).0 (same-itself session) in
    let (started, room) = standing in
    let short : nat_lt MAX_OPERATIONS (length (ops_since session (line.Operation session op ∷ past))) ≡ false
    = not-past MAX_OPERATIONS _ (subst (λ ops. length ops ≤ MAX_OPERATIONS) (sym (own-ops session op past)) room) in
    let few = not-past MAX_KEYS _ k.keys in
    ap (λ b. cond b (Some kind.SessionEnded) (fault_in_time Small past (line.Operation session op))) late
    ∙ by (is_begun session past) _ _ kind.NotBegun kind.TooManyOps kind.TooManyKeys started short few
  where
    by : {X : Type 0} (a b c : Bool) (x y z : X) → a ≡ true → b ≡ false → c ≡ false → cond (not a) (Some x) (cond b (Some y) (cond c (Some z) None)) ≡ None
    by true false false x y z s t u = refl
    by true false true x y z s t u = cc u
    by true true c x y z s t u = cc t
    by false b c x y z s t u = cc s

lawful-from : (past : List Line) → Keeps past → ((q : List ℕ) → FollowBy q past) → AreLawful Small past
lawful-from [] k follow = tt
lawful-from (l ∷ past) k follow = (free-after past l k follow, lawful-from past (keeps-before l past k) (λ q. (follow q).1))

lawful-same : (some other : List Line) → AreSame some other → AreLawful Small some → AreLawful Small other
lawful-same some other same lawful =
    lawful-from other
    (record {
      transactions = omega (arith, few_begun Small some lawful, begun-same some other same);
      sessions = omega (arith, few_seated Small some lawful, few-sessions some other same);
      keys = omega (arith, few-had some lawful, few-keys some other same);
      seals = omega (arith, few-sealed some lawful, sealed-same some other same);
    })
    (λ q. follow-back q other (subst (FollowBy q) (same (Some q)) (follow-kept q some (follow-lawful q some lawful))))

-- ---- the end of the records

least-none : (names : List (List ℕ)) → least names ≡ None → names ≡ []
least-none [] e = refl
least-none (name ∷ names) e = cc e

no-open : (past : List Line) → fault_at_end past ≡ None → open_sessions past ≡ []
no-open past = by (least (open_sessions past)) refl
  where
    by : (o : Option (List ℕ)) → least (open_sessions past) ≡ o
        → option_map {U = RowFault} (λ session. record { row = length past; kind = kind.Unfinished session }) o ≡ None → open_sessions past ≡ []
    by None is e = least-none (open_sessions past) is
    by (Some name) is e = cc e

none-passes : (test : List ℕ → Bool) (q : List ℕ) (names : List (List ℕ)) → filter test names ≡ [] → list_any (same q) names ≡ true → test q ≡ true → ⊥
none-passes test q [] none among passes = cc among
none-passes test q (n ∷ names) none among passes = by (test n) (same q n) refl refl none among (λ none among. none-passes test q names none among passes)
  where
    by : (a b : Bool) → test n ≡ a → same q n ≡ b → cond a (n ∷ filter test names) (filter test names) ≡ [] → (b || list_any (same q) names) ≡ true
        → (filter test names ≡ [] → list_any (same q) names ≡ true → ⊥) → ⊥
    by true b is here none among more = cc none
    by false true is here none among more = let other : test q ≡ false = ap test (same-name q n here) ∙ is in cc (other, passes)
    by false false is here none among more = more none among

ended-same : (some other : List Line) → AreSame some other → fault_at_end some ≡ None → fault_at_end other ≡ None
ended-same some other same free = rw (none-open (λ q. is_begun q other) (sessions other) closed) refl
  where
    closed : (q : List ℕ) → is_begun q other ≡ true → ⊥
    closed q begun =
        let was : is_begun q some ≡ true = begun-kept q some ∙ ap (is_begun q) (same (Some q)) ∙ sym (begun-kept q other) ∙ begun in
        none-passes (λ name. is_begun name some) q (sessions some) (no-open some free) (begun-seen q some was) was

-- ---- records that are lines

-- the record is within the limit on bytes, and a line
abbrev pub IsLine : Record → Type 0
IsLine fields = (is_cut fields ≡ false) × (l : Line) × (line_of fields ≡ Ok l)

judged-clean : (past : List Line) (fields : Record) (last : Line) → judged past fields ≡ Ok last → is_cut fields ≡ false
judged-clean past fields last = by (is_cut fields) refl
  where
    by : (cut : Bool) → is_cut fields ≡ cut → judged past fields ≡ Ok last → is_cut fields ≡ false
    by true is e = (let faulty : judged past fields ≡ Err kind.Read = rw is refl in cc (faulty, e))
    by false is e = is

-- what records without a fault are
pub record IsClean (past : List Line) (left : List Record) : Type 0 where
  pub each : (fields : Record) → Contains left fields → IsLine fields
  pub lawful : AreLawful Small (lines_after past left)
  pub ended : fault_at_end (lines_after past left) ≡ None

same-fault : (o : Option Item) (ahead : Answers) → (after_item o ahead).fault ≡ ahead.fault
same-fault None ahead = refl
same-fault (Some first) ahead = refl

head-or-later : {X : Type 0} (P : X → Type 0) (x : X) (xs : List X) → P x → ((y : X) → Contains xs y → P y) → (y : X) → Contains (x ∷ xs) y → P y
head-or-later P x xs here later y (zero, l, e) = subst P e here
head-or-later P x xs here later y (suc k, l, e) = later y (k, omega arith, e)

pub clean-after : (left : List Record) (past : List Line) → AreLawful Small past → (answers_after past left).fault ≡ None → IsClean past left
clean-after [] past lawful free = record { each = λ fields inside. absurd (omega (arith, inside.1)); lawful = lawful; ended = free }
clean-after (fields ∷ rest) past lawful free = by (judged past fields) refl free (clean-after rest)
  where
    by : (r : Result Line RowFaultKind) → judged past fields ≡ r → (go_on past (λ lines. answers_after lines rest) r).fault ≡ None
        → ((lines : List Line) → AreLawful Small lines → (answers_after lines rest).fault ≡ None → IsClean lines rest) → IsClean past (fields ∷ rest)
    by (Err k) e free next = cc free
    by (Ok last) e free next =
        let is = judged-line Small past fields last e in
        let after =
        next (last ∷ past) (judged-free Small past fields last e, lawful) (sym (same-fault (item_of past last) (answers_after (last ∷ past) rest)) ∙ free) in
        record {
          each = head-or-later IsLine fields rest (judged-clean past fields last e, last, is) after.each;
          lawful = rw is after.lawful;
          ended = rw is after.ended;
        }

pub lawful-before : (left : List Record) (past : List Line) → AreLawful Small (lines_after past left) → AreLawful Small past
lawful-before [] past lawful = lawful
lawful-before (fields ∷ rest) past lawful = by (line_of fields) (lawful-before rest (noted (line_of fields) past) lawful)
  where
    by : (r : Result Line RowFaultKind) → AreLawful Small (noted r past) → AreLawful Small past
    by (Ok l) lawful = lawful.1
    by (Err k) lawful = lawful

judged-as : (past : List Line) (fields : Record) (last : Line) → is_cut fields ≡ false → line_of fields ≡ Ok last → fault_of past last ≡ None
    → judged past fields ≡ Ok last
judged-as past fields last whole e free = rw (whole, e, free) refl

clean-before : (left : List Record) (past : List Line) → IsClean past left → (answers_after past left).fault ≡ None
clean-before [] past clean = clean.ended
clean-before (fields ∷ rest) past clean = by (clean.each fields (0, omega arith, refl)) (clean-before rest)
  where
    by : IsLine fields → ((lines : List Line) → IsClean lines rest → (answers_after lines rest).fault ≡ None)
        → (go_on past (λ lines. answers_after lines rest) (judged past fields)).fault ≡ None
    by (whole, last, is) next =
        let noted_as : lines_after past (fields ∷ rest) ≡ lines_after (last ∷ past) rest = ap (λ r. lines_after (noted r past) rest) is in
        let lawful : AreLawful Small (lines_after (last ∷ past) rest) = subst (AreLawful Small) noted_as clean.lawful in
        let free : fault_of past last ≡ None = (lawful-before rest (last ∷ past) lawful).0 in
        let after : IsClean (last ∷ past) rest = record {
          each = λ other inside. clean.each other (suc inside.0, omega (arith, inside.1), inside.2);
          lawful = lawful;
          ended = subst (λ lines. fault_at_end lines ≡ None) noted_as clean.ended;
        } in
        rw (judged-as past fields last whole is free) (same-fault (item_of past last) (answers_after (last ∷ past) rest) ∙ next (last ∷ past) after)

-- a record in the one of two such lists is in the other
contained-same : (some other : List Record) → AreInterleaved some other → records_by_none some ≡ records_by_none other
    → (fields : Record) → Contains other fields → Contains some fields
contained-same some other same none fields inside = by fields refl
  where
    through : (p : Record → Bool) → filter p some ≡ filter p other → p fields ≡ true → Contains some fields
    through p alike passes = (from_filter p some fields (subst (λ kept. Contains kept fields) (sym alike) (in_filter p other fields inside passes))).0

    by : (shape : Record) → fields ≡ shape → Contains some fields
    by [] is = through is_by_none none (ap is_by_none is)
    by (word ∷ []) is = through is_by_none none (ap is_by_none is)
    by (session ∷ word ∷ rest) is = through (is_by session) (same session) (ap (is_by session) is ∙ same-itself session)

-- only a record without a session has a line without one
sealed-operation : (session : List ℕ) (r : Result Op RowFaultKind) (l : Line) → in_session session r ≡ Ok l → seals l ≡ false
sealed-operation session (Ok op) l e = let at : line.Operation session op ≡ l = cc e in rw (← at) refl
sealed-operation session (Err k) l e = cc e

pub sealed-by : (fields : Record) (l : Line) → line_of fields ≡ Ok l → seals l ≡ is_by_none fields
sealed-by [] l e = cc e
sealed-by (word ∷ []) l e = by (same word (codes "seal")) e
  where
    by : (b : Bool) → cond b (Ok line.Seal) (Err kind.UnknownWord) ≡ Ok l → seals l ≡ true
    by true e = let at : line.Seal ≡ l = cc e in rw (← at) refl
    by false e = cc e
sealed-by (session ∷ word ∷ []) l e =
    by (is_some (name_fault session)) (same word (codes "begin")) (same word (codes "commit")) (same word (codes "abort")) (same word (codes "unknown")) e
  where
    by : (a b c d f : Bool)
        → cond a (Err kind.BadSession)
        (cond b (Ok (line.Begin session)) (cond c (Ok (line.Finish session true)) (cond d (Ok (line.Finish session false)) (cond f (Ok (line.Unknown session)) (Err kind.UnknownWord))))) ≡ Ok l
        → seals l ≡ false
    by true b c d f e = cc e
    by false true c d f e = let at : line.Begin session ≡ l = cc e in rw (← at) refl
    by false false true d f e = let at : line.Finish session true ≡ l = cc e in rw (← at) refl
    by false false false true f e = let at : line.Finish session false ≡ l = cc e in rw (← at) refl
    by false false false false true e = let at : line.Unknown session ≡ l = cc e in rw (← at) refl
    by false false false false false e = cc e
sealed-by (a ∷ b ∷ c ∷ []) l e = cc e
sealed-by (session ∷ word ∷ key ∷ value ∷ []) l e =
    by (is_some (name_fault session)) (same word (codes "r")) (same word (codes "w")) e
  where
    by : (a b c : Bool) → cond a (Err kind.BadSession) (cond b (in_session session (op_of false key value))
        (cond c (in_session session (op_of true key value)) (Err kind.UnknownWord))) ≡ Ok l → seals l ≡ false
    by true b c e = cc e
    by false true c e = sealed-operation session _ l e
    by false false true e = sealed-operation session _ l e
    by false false false e = cc e
sealed-by (a ∷ b ∷ c ∷ d ∷ f ∷ more) l e = cc e

all-same : (some other : List Record) → AreInterleaved some other → records_by_none some ≡ records_by_none other
    → AreSame (lines_after [] some) (lines_after [] other)
all-same some other same none None =
    lines-filter seals is_by_none sealed-by some [] ∙ ap (lines_after []) none ∙ sym (lines-filter seals is_by_none sealed-by other [])
all-same some other same none (Some q) = same-lines some other same q

pub interleaved-lawful : (text other : List ℕ) → AreInterleaved (records_of text) (records_of other)
    → records_by_none (records_of text) ≡ records_by_none (records_of other)
    → (answers_of text).fault ≡ None → (answers_of other).fault ≡ None
interleaved-lawful text other same none free =
    let lines = all-same (records_of text) (records_of other) same none in
    let clean = clean-after (records_of text) [] tt free in
    clean-before (records_of other) [] (record {
      each = λ fields inside. clean.each fields (contained-same (records_of text) (records_of other) same none fields inside);
      lawful = lawful-same (lines_after [] (records_of text)) (lines_after [] (records_of other)) lines clean.lawful;
      ended = ended-same (lines_after [] (records_of text)) (lines_after [] (records_of other)) lines clean.ended;
    })

-- ---- records that all name a session

none-first : {X : Type 0} (p : X → Bool) (x : X) (xs : List X) → filter p (x ∷ xs) ≡ [] → (p x ≡ false) × (filter p xs ≡ [])
none-first p x xs = by (p x) refl
  where
    by : (b : Bool) → p x ≡ b → cond b (x ∷ filter p xs) (filter p xs) ≡ [] → (p x ≡ false) × (filter p xs ≡ [])
    by true is e = cc e
    by false is e = (is, e)

unsealed-item : (past : List Line) (l : Line) (ahead : Answers) → seals l ≡ false → has_seal (after_item (item_of past l) ahead).items ≡ has_seal ahead.items
unsealed-item past line.Seal ahead e = cc e
unsealed-item past (line.Begin session) ahead e = refl
unsealed-item past (line.Finish session committed) ahead e = refl
unsealed-item past (line.Unknown session) ahead e = refl
unsealed-item past (line.Operation session op) ahead e = refl

unsealed-after : (left : List Record) (past : List Line) → records_by_none left ≡ [] → has_seal (answers_after past left).items ≡ false
unsealed-after [] past none = refl
unsealed-after (fields ∷ rest) past none = by (judged past fields) refl (unsealed-after rest)
  where
    first : (is_by_none fields ≡ false) × (records_by_none rest ≡ [])
    first = none-first is_by_none fields rest none

    by : (r : Result Line RowFaultKind) → judged past fields ≡ r
        → ((lines : List Line) → records_by_none rest ≡ [] → has_seal (answers_after lines rest).items ≡ false)
        → has_seal (go_on past (λ lines. answers_after lines rest) r).items ≡ false
    by (Err k) e next = refl
    by (Ok last) e next =
        unsealed-item past last (answers_after (last ∷ past) rest) (sealed-by fields last (judged-line Small past fields last e) ∙ first.0)
        ∙ next (last ∷ past) first.1

pub unsealed : (text : List ℕ) → records_by_none (records_of text) ≡ [] → has_seal (answers_of text).items ≡ false
unsealed text none =
    let given = given_within Small text in
    none-sealed (answers_of text).items
    (ap length (seals-settled (is_none given.fault) given.items finite.empty [] ∙ unsealed-none given.items (unsealed-after (records_of text) [] none)))
