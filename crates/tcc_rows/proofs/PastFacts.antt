-- What one more line changes for a session and for the names so far.
use Rattle.std.proofs.Common.{◌≡◌, ℕ, Bool, true, false, List, [], ◌∷◌, ◌++◌, None, Some, refl, sym, ◌∙◌, cond}
use Rattle.std.specs.List.{list_any}
use Rattle.std.specs.Ordering.{is_eq, nat_cmp}
use Rattle.std.specs.declared.cmp.Ordering.{Ordering}
use Rattle.std.specs.declared.cmp.Ordering.TheVariants.{Less, Equal, Greater}
use Rattle.std.specs.FinMap.{nat_cmp-IsAntisymmetric, slice_cmp-IsAntisymmetric}
use Rattle.std.specs.Cmp.Lexicographic.{slice_cmp, nat_list_eq_equiv, texts_ties}
use Rattle.std.specs.BTreeMap.{is_at}
use Rattle.std.proofs.lemmas.List.{append-nil}
use Rattle.std.proofs.lemmas.Map.Steps.{list_any_congr}
use Rattle.tcc_txn.specs.Bytes.{same}
use Rattle.tcc_rows.specs.Past.{is_begun, ops_since, sessions, with_name}
use Rattle.tcc_rows.specs.SessionStates.{seat, seat_of}
use Rattle.tcc_txn.specs.declared.op.Op.{Op}
use Rattle.tcc_rows.specs.Line.{Line}
use Rattle.tcc_rows.specs.Line as line

-- the order of names ties if their bytes are equal
pub at-same : (a b : List ℕ) → is_at (slice_cmp nat_cmp a) b ≡ same a b
at-same a b = sym (texts_ties a b)

pub same-itself : (a : List ℕ) → same a a ≡ true
same-itself a = nat_list_eq_equiv.refl a

pub same-swap : (a b : List ℕ) → same a b ≡ same b a
same-swap a b = nat_list_eq_equiv.symm a b

-- the name is there already, or is new
pub with_name-seen : (name : List ℕ) (names : List (List ℕ)) → list_any (same name) names ≡ true → with_name name names ≡ names
with_name-seen name names seen = rw seen refl

pub with_name-new : (name : List ℕ) (names : List (List ℕ)) → list_any (same name) names ≡ false → with_name name names ≡ name ∷ names
with_name-new name names new = rw new refl

-- a name is seen once it is noted, and any other name as before
pub seen-noted : (name q : List ℕ) (names : List (List ℕ)) → same name q ≡ true → list_any (same q) (with_name name names) ≡ true
seen-noted name q names e = by (list_any (same name) names) refl
  where
    by : (b : Bool) → list_any (same name) names ≡ b → list_any (same q) (with_name name names) ≡ true
    by true seen = rw (with_name-seen name names seen) (sym (list_any_congr nat_list_eq_equiv name q names e) ∙ seen)
    by false new = rw (with_name-new name names new, same-swap q name, e) refl

pub seen-other : (name q : List ℕ) (names : List (List ℕ)) → same name q ≡ false → list_any (same q) (with_name name names) ≡ list_any (same q) names
seen-other name q names e = by (list_any (same name) names) refl
  where
    by : (b : Bool) → list_any (same name) names ≡ b → list_any (same q) (with_name name names) ≡ list_any (same q) names
    by true seen = rw (with_name-seen name names seen) refl
    by false new = rw (with_name-new name names new, same-swap q name, e) refl

if-true : {A : Type 0} {b : Bool} (x y : A) → b ≡ true → cond b x y ≡ x
if-true x y e = rw e refl

if-false : {A : Type 0} {b : Bool} (x y : A) → b ≡ false → cond b x y ≡ y
if-false x y e = rw e refl

-- a session that has begun a transaction is one of those so far
pub begun-seen : (q : List ℕ) (past : List Line) → is_begun q past ≡ true → list_any (same q) (sessions past) ≡ true
begun-seen q [] e = cc e
begun-seen q (line.Seal ∷ past) e = begun-seen q past e
begun-seen q (line.Begin s ∷ past) e = by (same s q) refl e (begun-seen q past)
  where
    by : (b : Bool) → same s q ≡ b → cond b true (is_begun q past) ≡ true → (is_begun q past ≡ true → list_any (same q) (sessions past) ≡ true)
        → list_any (same q) (with_name s (sessions past)) ≡ true
    by true t e more = seen-noted s q (sessions past) t
    by false t e more = seen-other s q (sessions past) t ∙ more e
begun-seen q (line.Finish s committed ∷ past) e = by (same s q) e (begun-seen q past)
  where
    by : (b : Bool) → cond b false (is_begun q past) ≡ true → (is_begun q past ≡ true → list_any (same q) (sessions past) ≡ true)
        → list_any (same q) (sessions past) ≡ true
    by true e more = cc e
    by false e more = more e
begun-seen q (line.Unknown s ∷ past) e = by (same s q) e (begun-seen q past)
  where
    by : (b : Bool) → cond b false (is_begun q past) ≡ true → (is_begun q past ≡ true → list_any (same q) (sessions past) ≡ true)
        → list_any (same q) (sessions past) ≡ true
    by true e more = cc e
    by false e more = more e
begun-seen q (line.Operation s op ∷ past) e = begun-seen q past e

-- what the seats of the sessions say
pub seat-free : (begun : Bool) (ops : List Op) (seen : Bool) → seat begun ops seen ≡ Some None → (begun ≡ false) × (seen ≡ true)
seat-free true ops seen e = cc e
seat-free false ops true e = (refl, refl)
seat-free false ops false e = cc e

pub seat-none : (begun : Bool) (ops : List Op) (seen : Bool) → seat begun ops seen ≡ None → (begun ≡ false) × (seen ≡ false)
seat-none true ops seen e = cc e
seat-none false ops true e = cc e
seat-none false ops false e = (refl, refl)

pub seat-taken : (begun : Bool) (ops : List Op) (seen : Bool) (o : List Op) → seat begun ops seen ≡ Some (Some o) → (begun ≡ true) × (ops ≡ o)
seat-taken true ops seen o e = (refl, cc e)
seat-taken false ops true o e = cc e
seat-taken false ops false o e = cc e

-- the seat of a session after one more line
pub seat-begun : (s q : List ℕ) (past : List Line) → seat_of q (line.Begin s ∷ past) ≡ cond (same s q) (Some (Some [])) (seat_of q past)
seat-begun s q past = by (same s q) refl
  where
    by : (b : Bool) → same s q ≡ b
        → seat (cond b true (is_begun q past)) (cond b [] (ops_since q past ++ [])) (list_any (same q) (with_name s (sessions past)))
        ≡ cond b (Some (Some [])) (seat_of q past)
    by true e = refl
    by false e = rw (append-nil (ops_since q past), seen-other s q (sessions past) e) refl

pub seat-finished : (s q : List ℕ) (committed : Bool) (past : List Line) → is_begun s past ≡ true
    → seat_of q (line.Finish s committed ∷ past) ≡ cond (same s q) (Some None) (seat_of q past)
seat-finished s q committed past begun = by (same s q) refl
  where
    by : (b : Bool) → same s q ≡ b
        → seat (cond b false (is_begun q past)) (cond b [] (ops_since q past ++ [])) (list_any (same q) (sessions past)) ≡ cond b (Some None) (seat_of q past)
    by true e = rw (sym (list_any_congr nat_list_eq_equiv s q (sessions past) e) ∙ begun-seen s past begun) refl
    by false e = rw (append-nil (ops_since q past)) refl

pub seat-left : (s q : List ℕ) (past : List Line) → is_begun s past ≡ true
    → seat_of q (line.Unknown s ∷ past) ≡ cond (same s q) (Some None) (seat_of q past)
seat-left s q past begun = by (same s q) refl
  where
    by : (b : Bool) → same s q ≡ b
        → seat (cond b false (is_begun q past)) (cond b [] (ops_since q past ++ [])) (list_any (same q) (sessions past)) ≡ cond b (Some None) (seat_of q past)
    by true e = rw (sym (list_any_congr nat_list_eq_equiv s q (sessions past) e) ∙ begun-seen s past begun) refl
    by false e = rw (append-nil (ops_since q past)) refl

equal-from : (r : Ordering) → is_eq r ≡ true → r ≡ Equal
equal-from Less e = cc e
equal-from Equal e = refl
equal-from Greater e = cc e

-- names of equal bytes are equal
pub same-name : (a b : List ℕ) → same a b ≡ true → a ≡ b
same-name a b e = slice_cmp-IsAntisymmetric nat_cmp-IsAntisymmetric a b (equal-from _ (at-same a b ∙ e))

seat-more : (s q : List ℕ) (op : Op) (past : List Line) → is_begun s past ≡ true → s ≡ q
    → seat (is_begun q past) (ops_since q past ++ op ∷ []) (list_any (same q) (sessions past)) ≡ Some (Some (ops_since s past ++ op ∷ []))
seat-more s q op past begun e = rw (← e, begun) refl

pub seat-operated : (s q : List ℕ) (op : Op) (past : List Line) → is_begun s past ≡ true
    → seat_of q (line.Operation s op ∷ past) ≡ cond (same s q) (Some (Some (ops_since s past ++ op ∷ []))) (seat_of q past)
seat-operated s q op past begun = by (same s q) refl
  where
    by : (b : Bool) → same s q ≡ b
        → seat (is_begun q past) (ops_since q past ++ cond b (op ∷ []) []) (list_any (same q) (sessions past))
        ≡ cond b (Some (Some (ops_since s past ++ op ∷ []))) (seat_of q past)
    by true e = seat-more s q op past begun (same-name s q e)
    by false e = rw (append-nil (ops_since q past)) refl
