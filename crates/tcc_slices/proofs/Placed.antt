-- Where the transactions of a snapshot are, by name and place.
use Rattle.std.proofs.Common.{length-append, ℕ, zero, suc, ◌≡◌, ◌<◌, ◌+◌, ◌⊎◌, inl, inr, List, [], ◌∷◌, ◌++◌, length, map, get_or, Some}
use Rattle.std.proofs.Common.{append_assoc, refl, sym, ap, subst, ◌∙◌, arith}
use Rattle.std.specs.Prelude.{◌-◌, ◌≤◌, slice_get}
use Rattle.std.specs.List.{Contains}
use Rattle.std.specs.FinMap.{entries}
use Rattle.std.specs.declared.cmp.Ordering.TheVariants.{Less, Equal}
use Rattle.std.specs.Cmp.Lexicographic.{nat_list_cmp_total}
use Rattle.std.proofs.Math.Seq.{get_or-append_seam}
use Rattle.std.proofs.lemmas.Bool.{cases_order}
use Rattle.std.proofs.lemmas.Cmp.{tied_itself}
use Rattle.std.proofs.lemmas.List.Elements.{Contains-append_left, Contains-append_right, Contains-append_cases}
use Rattle.std.proofs.lemmas.Map.Keys.{Less-from_sorted}
use Rattle.tcc_txn.specs.Snapshots.{Sessions}
use Rattle.tcc_txn.specs.Transactions.{Transaction}
use Rattle.tcc_txn.proofs.SessionEntries.{Named, sorted_names}
use Rattle.tcc_reads.specs.Sites.{Stand, stands_in, stands_from, stands}
use Rattle.tcc_reads.specs.Sources.{name_cmp}
use Rattle.tcc_slices.proofs.Elements.{after}

-- the transaction is at this place of a list, from 1
abbrev pub HasAt : List Transaction → ℕ → Transaction → Type 0
HasAt txns place txn = (k : ℕ) × (k < length txns) × (place ≡ k + 1) × (get_or txns k txn ≡ txn)

abbrev stand_at : ℕ → List ℕ → ℕ → Transaction → Stand
stand_at session name place txn = record { session = session; name = name; place = place; txn = txn }

-- ---- in one session

in_stands : (session : ℕ) (name : List ℕ) (from : ℕ) (txns : List Transaction) (k : ℕ) (txn : Transaction) → k < length txns → get_or txns k txn ≡ txn
    → Contains (stands_in session name from txns) (stand_at session name (from + k) txn)
in_stands session name from [] k txn l e = absurd (omega arith)
in_stands session name from (t ∷ later) zero txn l e =
    let here : from ≡ from + 0 = omega arith in
    (0, omega arith, λ i. stand_at session name (here i) (e i))
in_stands session name from (t ∷ later) (suc k) txn l e =
    let next : from + 1 + k ≡ from + suc k = omega arith in
    after (stand_at session name from t) (stand_at session name (from + suc k) txn) (stands_in session name (from + 1) later)
    (subst (λ (z : ℕ). Contains (stands_in session name (from + 1) later) (stand_at session name z txn)) next
    (in_stands session name (from + 1) later k txn (omega arith) e))

-- what a transaction of a session is
record IsIn (name : List ℕ) (session : ℕ) (from : ℕ) (txns : List Transaction) (t : Stand) : Type 0 where
  session_is : t.session ≡ session
  name_is : t.name ≡ name
  k : ℕ
  within : k < length txns
  place_is : t.place ≡ from + k
  txn_is : get_or txns k t.txn ≡ t.txn

from_stands : (session : ℕ) (name : List ℕ) (from : ℕ) (txns : List Transaction) (t : Stand) → Contains (stands_in session name from txns) t
    → IsIn name session from txns t
from_stands session name from [] t (i, l, e) = absurd (omega arith)
from_stands session name from (txn ∷ later) t (zero, l, e) =
    let at : from ≡ t.place = ap (λ (z : Stand). z.place) e in
    record {
      session_is = ap (λ (z : Stand). z.session) (sym e);
      name_is = ap (λ (z : Stand). z.name) (sym e);
      k = 0;
      within = omega arith;
      place_is = omega (arith, at);
      txn_is = ap (λ (z : Stand). z.txn) e;
    }
from_stands session name from (txn ∷ later) t (suc i, l, e) =
    let w = from_stands session name (from + 1) later t (i, omega arith, e) in
    record {
      session_is = w.session_is;
      name_is = w.name_is;
      k = suc w.k;
      within = omega (arith, w.within);
      place_is = omega (arith, w.place_is);
      txn_is = w.txn_is;
    }

-- ---- in all sessions

-- a transaction of a snapshot is in the list of its session's name
pub entry_of_stand : (session : ℕ) (es : List Named) (t : Stand) → Contains (stands_from session es) t
    → (e : Named) × Contains es e × (t.name ≡ e.0) × HasAt e.1 t.place t.txn
entry_of_stand session [] t (i, l, e) = absurd (omega arith)
entry_of_stand session (named ∷ later) t c =
    go (Contains-append_cases (stands_in session named.0 1 named.1) (stands_from (session + 1) later) t c) (λ d. entry_of_stand (session + 1) later t d)
  where
    go : Contains (stands_in session named.0 1 named.1) t ⊎ Contains (stands_from (session + 1) later) t
        → (Contains (stands_from (session + 1) later) t → (e : Named) × Contains later e × (t.name ≡ e.0) × HasAt e.1 t.place t.txn)
        → (e : Named) × Contains (named ∷ later) e × (t.name ≡ e.0) × HasAt e.1 t.place t.txn
    go (inl here) rest =
        let w = from_stands session named.0 1 named.1 t here in
        (named, (0, omega arith, refl), w.name_is, (w.k, w.within, omega (arith, w.place_is), w.txn_is))
    go (inr there) rest = let w = rest there in (w.0, after named w.0 later w.1, w.2, w.3)

-- what is in the list of a name is in the snapshot
pub stand_of_entry : (session : ℕ) (es : List Named) (e : Named) (place : ℕ) (txn : Transaction) → Contains es e → HasAt e.1 place txn
    → (u : Stand) × Contains (stands_from session es) u × (u.name ≡ e.0) × (u.place ≡ place) × (u.txn ≡ txn)
stand_of_entry session [] e place txn (i, l, is) at = absurd (omega arith)
stand_of_entry session (named ∷ later) e place txn (zero, l, is) (k, within, place_is, txn_is) =
    let within' : k < length named.1 = subst (λ (z : Named). k < length z.1) (sym is) within in
    let here : get_or named.1 k txn ≡ txn = subst (λ (z : Named). get_or z.1 k txn ≡ txn) (sym is) txn_is in (
      stand_at session named.0 (1 + k) txn,
      Contains-append_left (stands_in session named.0 1 named.1) (stands_from (session + 1) later) (stand_at session named.0 (1 + k) txn)
          (in_stands session named.0 1 named.1 k txn within' here),
      ap (λ (z : Named). z.0) is,
      omega arith,
      refl,
    )
stand_of_entry session (named ∷ later) e place txn (suc i, l, is) at =
    let w = stand_of_entry (session + 1) later e place txn (i, omega arith, is) at in
    (w.0, Contains-append_right (stands_in session named.0 1 named.1) (stands_from (session + 1) later) w.0 w.1, w.2, w.3, w.4)

-- ---- one name, one index

-- each transaction has the index of its session's name
named_from : (front : List (List ℕ)) (session : ℕ) (es : List Named) (t : Stand) → session ≡ length front → Contains (stands_from session es) t
    → (t.session < length (front ++ map (λ e. e.0) es)) × (get_or (front ++ map (λ e. e.0) es) t.session [] ≡ t.name)
named_from front session [] t long (i, l, e) = absurd (omega arith)
named_from front session (named ∷ later) t long c =
    go (Contains-append_cases (stands_in session named.0 1 named.1) (stands_from (session + 1) later) t c)
    (λ d. named_from (front ++ named.0 ∷ []) (session + 1) later t (omega (arith, long, length-append front (named.0 ∷ []))) d)
  where
    names : List (List ℕ)
    names = map (λ (e : Named). e.0) later

    go : Contains (stands_in session named.0 1 named.1) t ⊎ Contains (stands_from (session + 1) later) t
        → (Contains (stands_from (session + 1) later) t
        → (t.session < length ((front ++ named.0 ∷ []) ++ names)) × (get_or ((front ++ named.0 ∷ []) ++ names) t.session [] ≡ t.name))
        → (t.session < length (front ++ named.0 ∷ names)) × (get_or (front ++ named.0 ∷ names) t.session [] ≡ t.name)
    go (inl here) rest =
        let w = from_stands session named.0 1 named.1 t here in
        let at : t.session ≡ length front = w.session_is ∙ long in (
          omega (arith, at, length-append front (named.0 ∷ names)),
          ap (λ (z : ℕ). get_or (front ++ named.0 ∷ names) z []) at ∙ get_or-append_seam front named.0 names [] ∙ sym w.name_is,
        )
    go (inr there) rest =
        subst (λ (z : List (List ℕ)). (t.session < length z) × (get_or z t.session [] ≡ t.name)) (append_assoc front (named.0 ∷ []) names) (rest there)

module _ (s : Sessions) where
  abbrev names : List (List ℕ)
  names = map (λ named. named.0) (entries s)

  pub session_within : (t : Stand) → Contains (stands s) t → t.session < length names
  session_within t there = (named_from [] 0 (entries s) t refl there).0

  pub session_named : (t : Stand) → Contains (stands s) t → get_or names t.session [] ≡ t.name
  session_named t there = (named_from [] 0 (entries s) t refl there).1

  lower_name : (t u : Stand) → Contains (stands s) t → Contains (stands s) u → t.session < u.session → name_cmp t.name u.name ≡ Less
  lower_name t u a b less =
      (λ i. name_cmp (sym (session_named t a) i) (sym (session_named u b) i))
      ∙ Less-from_sorted name_cmp names t.session u.session [] (sorted_names s) less (session_within u b)

  pub same_session : (t u : Stand) → Contains (stands s) t → Contains (stands s) u → t.name ≡ u.name → t.session ≡ u.session
  same_session t u a b same = go (cases_order t.session u.session)
    where
      tied : name_cmp t.name u.name ≡ Equal
      tied = ap (λ z. name_cmp t.name z) (sym same) ∙ tied_itself nat_list_cmp_total t.name

      tied_back : name_cmp u.name t.name ≡ Equal
      tied_back = ap (λ z. name_cmp z t.name) (sym same) ∙ tied_itself nat_list_cmp_total t.name

      go : (t.session ≡ u.session) ⊎ ((t.session < u.session) ⊎ (u.session < t.session)) → t.session ≡ u.session
      go (inl e) = e
      go (inr (inl less)) = let low = lower_name t u a b less in let tie = tied in absurd cc
      go (inr (inr less)) = let low = lower_name u t b a less in let tie = tied_back in absurd cc

-- ---- by index

-- the part of a transaction's session is at its index, and the transaction in it at its place
pub entry_index : (session : ℕ) (es : List Named) (t : Stand) → Contains (stands_from session es) t
    → (e : Named) × (session ≤ t.session) × (slice_get es (t.session - session) ≡ Some e) × HasAt e.1 t.place t.txn
entry_index session [] t (i, l, e) = absurd (omega arith)
entry_index session (named ∷ later) t c =
    go (Contains-append_cases (stands_in session named.0 1 named.1) (stands_from (session + 1) later) t c) (λ d. entry_index (session + 1) later t d)
  where
    go : Contains (stands_in session named.0 1 named.1) t ⊎ Contains (stands_from (session + 1) later) t
        → (Contains (stands_from (session + 1) later) t
        → (e : Named) × (session + 1 ≤ t.session) × (slice_get later (t.session - (session + 1)) ≡ Some e) × HasAt e.1 t.place t.txn)
        → (e : Named) × (session ≤ t.session) × (slice_get (named ∷ later) (t.session - session) ≡ Some e) × HasAt e.1 t.place t.txn
    go (inl here) rest =
        let w = from_stands session named.0 1 named.1 t here in
        let first : t.session - session ≡ 0 = omega (arith, w.session_is) in (
          named,
          omega (arith, w.session_is),
          ap (slice_get (named ∷ later)) first,
          (w.k, w.within, omega (arith, w.place_is), w.txn_is),
        )
    go (inr there) rest =
        let w = rest there in
        let next : t.session - session ≡ suc (t.session - (session + 1)) = omega (arith, w.1) in
        (w.0, omega (arith, w.1), ap (slice_get (named ∷ later)) next ∙ w.2, w.3)
