-- The first write of a value, as a look through sessions, transactions and operations finds it. Index: a look through a list that found
-- nothing so far (find-more, find-all); the operations of a transaction (op-here, op-none); the transactions of a session (stand-at,
-- stands-long, stands-here, stands-more, stands-all); the sessions (parts-here, parts-more, parts-all).
use Rattle.std.proofs.Common.{◌≡◌, ◌∙◌, ℕ, suc, zero, ◌+◌, ◌≤◌, Bool, true, false, cond, List, [], ◌∷◌, ◌++◌, length, take, find}
use Rattle.std.proofs.Common.{Option, None, Some, refl, sym, ap, arith}
use Rattle.std.specs.Prelude.{slice_get}
use Rattle.std.specs.Option.{option_or}
use Rattle.std.proofs.lemmas.List.{take_all, length-append}
use Rattle.std.proofs.lemmas.List.Folds.{find-append}
use Rattle.std.proofs.lemmas.Option.{none-some, same_Some}
use Rattle.std.proofs.lemmas.Grind.{flat_map-append}
use Rattle.tcc_txn.specs.Transactions.{Transaction}
use Rattle.tcc_txn.specs.declared.op.Op.{Op}
use Rattle.tcc_reads.specs.Faults.{puts, writer}
use Rattle.tcc_reads.specs.Sites.{Site, Stand, at, sites, sites_from, sites_of, stands_from, stands_in}

module _ {X : Type 0} (p : X → Bool) where
  find-suc : (xs : List X) (k : ℕ) (x : X) → find p (take k xs) ≡ None → slice_get xs k ≡ Some x → p x ≡ false → find p (take (suc k) xs) ≡ None
  find-suc [] k x none here fails = refl
  find-suc (y ∷ ys) zero x none here fails =
      ap (λ z. cond (p z) (Some z) None) (same_Some y x here) ∙ ap (λ b. cond b (Some x) None) fails
  find-suc (y ∷ ys) (suc k) x none here fails = by (λ before. find-suc ys k x before here fails) (p y) refl
    where
      by : (find p (take k ys) ≡ None → find p (take (suc k) ys) ≡ None) → (b : Bool) → p y ≡ b → find p (take (suc (suc k)) (y ∷ ys)) ≡ None
      by rest true is = absurd (none-some y (sym (rw is at none)))
      by rest false is = rw is (rest (rw is at none))

  -- what isn't found before an item, and isn't this item, isn't found up to the next one
  pub find-more : (xs : List X) (k : ℕ) (x : X) → find p (take k xs) ≡ None → slice_get xs k ≡ Some x → p x ≡ false → find p (take (k + 1) xs) ≡ None
  find-more xs k x none here fails =
      let next : k + 1 ≡ suc k = omega arith in
      ap (λ n. find p (take n xs)) next ∙ find-suc xs k x none here fails

  -- what isn't found up to the end isn't found
  pub find-all : (xs : List X) (k : ℕ) → find p (take k xs) ≡ None → length xs ≤ k → find p xs ≡ None
  find-all xs k none past = ap (find p) (sym (take_all k xs past)) ∙ none

-- two looks that find nothing
both-none : {X : Type 0} (a b : Option X) → option_or a b ≡ None → (a ≡ None) × (b ≡ None)
both-none None b none = (refl, none)
both-none (Some x) b none = absurd (none-some x (sym none))

module _ (x : List ℕ) (v : ℕ) where
  writes_it : Site → Bool
  writes_it site = puts x v site.op

  -- the first operation that writes it is this one
  pub op-here : (stand : Stand) (before ops : List Op) (k : ℕ) (op : Op) → find (puts x v) (take k ops) ≡ None → slice_get ops k ≡ Some op
      → puts x v op ≡ true
      → (site : Site) × (find (λ site. puts x v site.op) (sites_from stand before ops) ≡ Some site) × (site.stand ≡ stand)
      × (at site ≡ length before + (k + 1))
  op-here stand before [] k op none here writes = absurd (none-some op here)
  op-here stand before (o ∷ os) zero op none here writes =
      let site : Site = record { stand = stand; before = before; op = o; after = os } in
      let is : puts x v o ≡ true = ap (puts x v) (same_Some o op here) ∙ writes in
      (site, ap (λ b. cond b (Some site) (find (λ site. puts x v site.op) (sites_from stand (before ++ o ∷ []) os))) is, refl, refl)
  op-here stand before (o ∷ os) (suc k) op none here writes =
      by (λ first. op-here stand (before ++ o ∷ []) os k op first here writes) (puts x v o) refl
    where
      Found : List Op → List Op → ℕ → Type 0
      Found before ops n =
          (site : Site) × (find (λ site. puts x v site.op) (sites_from stand before ops) ≡ Some site) × (site.stand ≡ stand) × (at site ≡ n)

      by : (find (puts x v) (take k os) ≡ None → Found (before ++ o ∷ []) os (length (before ++ o ∷ []) + (k + 1))) → (b : Bool) → puts x v o ≡ b
          → Found before (o ∷ os) (length before + (suc k + 1))
      by rest true is = absurd (none-some o (sym (rw is at none)))
      by rest false is =
          let found = rest (rw is at none) in
          let long : length (before ++ o ∷ []) ≡ length before + 1 = length-append before (o ∷ []) in
          let site : Site = record { stand = stand; before = before; op = o; after = os } in
          let step = ap (λ b. cond b (Some site) (find (λ site. puts x v site.op) (sites_from stand (before ++ o ∷ []) os))) is in
          (found.0, step ∙ found.1, found.2, (let there = found.3 in omega (arith, there, long)))

  -- no operation writes it
  pub op-none : (stand : Stand) (before ops : List Op) → find (puts x v) ops ≡ None → find (λ site. puts x v site.op) (sites_from stand before ops) ≡ None
  op-none stand before [] none = refl
  op-none stand before (o ∷ os) none = by (op-none stand (before ++ o ∷ []) os) (puts x v o) refl
    where
      by : (find (puts x v) os ≡ None → find (λ site. puts x v site.op) (sites_from stand (before ++ o ∷ []) os) ≡ None) → (b : Bool) → puts x v o ≡ b
          → find (λ site. puts x v site.op) (sites_from stand before (o ∷ os)) ≡ None
      by rest true is = absurd (none-some o (sym (rw is at none)))
      by rest false is = rw is (rest (rw is at none))

  writer-append : (some others : List Stand) → writer (some ++ others) x v ≡ option_or (writer some x v) (writer others x v)
  writer-append some others =
      ap (find (λ site. puts x v site.op)) (flat_map-append sites_of some others)
      ∙ find-append (λ site. puts x v site.op) (sites some) (sites others)

  writer-cons : (stand : Stand) (later : List Stand)
      → writer (stand ∷ later) x v ≡ option_or (find (λ site. puts x v site.op) (sites_of stand)) (writer later x v)
  writer-cons stand later = find-append (λ site. puts x v site.op) (sites_of stand) (sites later)

  -- the first transaction that writes it is this one
  pub stands-here : (all : List Stand) (k : ℕ) (stand : Stand) (site : Site) → writer (take k all) x v ≡ None → slice_get all k ≡ Some stand
      → find (λ site. puts x v site.op) (sites_of stand) ≡ Some site → writer all x v ≡ Some site
  stands-here [] k stand site none here found = absurd (none-some stand here)
  stands-here (s ∷ ss) zero stand site none here found =
      writer-cons s ss
      ∙ ap (λ o. option_or o (writer ss x v)) (ap (λ t. find (λ site. puts x v site.op) (sites_of t)) (same_Some s stand here) ∙ found)
  stands-here (s ∷ ss) (suc k) stand site none here found =
      let parts = both-none _ _ (sym (writer-cons s (take k ss)) ∙ none) in
      writer-cons s ss ∙ ap (λ o. option_or o (writer ss x v)) parts.0 ∙ stands-here ss k stand site parts.1 here found

  stands-suc : (all : List Stand) (k : ℕ) (stand : Stand) → writer (take k all) x v ≡ None → slice_get all k ≡ Some stand
      → find (λ site. puts x v site.op) (sites_of stand) ≡ None → writer (take (suc k) all) x v ≡ None
  stands-suc [] k stand none here unfound = refl
  stands-suc (s ∷ ss) zero stand none here unfound =
      writer-cons s []
      ∙ ap (λ o. option_or o (writer [] x v)) (ap (λ t. find (λ site. puts x v site.op) (sites_of t)) (same_Some s stand here) ∙ unfound)
  stands-suc (s ∷ ss) (suc k) stand none here unfound =
      let parts = both-none _ _ (sym (writer-cons s (take k ss)) ∙ none) in
      writer-cons s (take (suc k) ss) ∙ ap (λ o. option_or o (writer (take (suc k) ss) x v)) parts.0
      ∙ stands-suc ss k stand parts.1 here unfound

  -- no transaction up to here writes it
  pub stands-more : (all : List Stand) (k : ℕ) (stand : Stand) → writer (take k all) x v ≡ None → slice_get all k ≡ Some stand
      → find (λ site. puts x v site.op) (sites_of stand) ≡ None → writer (take (k + 1) all) x v ≡ None
  stands-more all k stand none here unfound =
      let next : k + 1 ≡ suc k = omega arith in
      ap (λ n. writer (take n all) x v) next ∙ stands-suc all k stand none here unfound

  pub stands-all : (all : List Stand) (k : ℕ) → writer (take k all) x v ≡ None → length all ≤ k → writer all x v ≡ None
  stands-all all k none past = ap (λ some. writer some x v) (sym (take_all k all past)) ∙ none

  -- the first session that writes it is this one
  pub parts-here : (j i : ℕ) (es : List (List ℕ × List Transaction)) (k : ℕ) (part : List ℕ × List Transaction) (site : Site) → i ≡ j + k
      → writer (stands_from j (take k es)) x v ≡ None → slice_get es k ≡ Some part → writer (stands_in i part.0 1 part.1) x v ≡ Some site
      → writer (stands_from j es) x v ≡ Some site
  parts-here j i [] k part site at none here found = absurd (none-some part here)
  parts-here j i (e ∷ es) zero part site at none here found =
      let first : writer (stands_in j e.0 1 e.1) x v ≡ Some site =
      ap (λ (d : List ℕ × List Transaction). writer (stands_in j d.0 1 d.1) x v) (same_Some e part here)
      ∙ ap (λ n. writer (stands_in n part.0 1 part.1) x v) (let at' = at in omega (arith, at')) ∙ found in
      writer-append (stands_in j e.0 1 e.1) (stands_from (j + 1) es) ∙ ap (λ o. option_or o (writer (stands_from (j + 1) es) x v)) first
  parts-here j i (e ∷ es) (suc k) part site at none here found =
      let parts = both-none _ _ (sym (writer-append (stands_in j e.0 1 e.1) (stands_from (j + 1) (take k es))) ∙ none) in
      writer-append (stands_in j e.0 1 e.1) (stands_from (j + 1) es) ∙ ap (λ o. option_or o (writer (stands_from (j + 1) es) x v)) parts.0
      ∙ parts-here (j + 1) i es k part site (let at' = at in omega (arith, at')) parts.1 here found

  parts-suc : (j i : ℕ) (es : List (List ℕ × List Transaction)) (k : ℕ) (part : List ℕ × List Transaction) → i ≡ j + k
      → writer (stands_from j (take k es)) x v ≡ None → slice_get es k ≡ Some part → writer (stands_in i part.0 1 part.1) x v ≡ None
      → writer (stands_from j (take (suc k) es)) x v ≡ None
  parts-suc j i [] k part at none here unfound = refl
  parts-suc j i (e ∷ es) zero part at none here unfound =
      let first : writer (stands_in j e.0 1 e.1) x v ≡ None =
      ap (λ (d : List ℕ × List Transaction). writer (stands_in j d.0 1 d.1) x v) (same_Some e part here)
      ∙ ap (λ n. writer (stands_in n part.0 1 part.1) x v) (let at' = at in omega (arith, at')) ∙ unfound in
      writer-append (stands_in j e.0 1 e.1) [] ∙ ap (λ o. option_or o (writer [] x v)) first
  parts-suc j i (e ∷ es) (suc k) part at none here unfound =
      let parts = both-none _ _ (sym (writer-append (stands_in j e.0 1 e.1) (stands_from (j + 1) (take k es))) ∙ none) in
      writer-append (stands_in j e.0 1 e.1) (stands_from (j + 1) (take (suc k) es))
      ∙ ap (λ o. option_or o (writer (stands_from (j + 1) (take (suc k) es)) x v)) parts.0
      ∙ parts-suc (j + 1) i es k part (let at' = at in omega (arith, at')) parts.1 here unfound

  -- no session up to here writes it
  pub parts-more : (es : List (List ℕ × List Transaction)) (k : ℕ) (part : List ℕ × List Transaction)
      → writer (stands_from 0 (take k es)) x v ≡ None → slice_get es k ≡ Some part → writer (stands_in k part.0 1 part.1) x v ≡ None
      → writer (stands_from 0 (take (k + 1) es)) x v ≡ None
  parts-more es k part none here unfound =
      let next : k + 1 ≡ suc k = omega arith in
      ap (λ n. writer (stands_from 0 (take n es)) x v) next ∙ parts-suc 0 k es k part (omega arith) none here unfound

  pub parts-all : (es : List (List ℕ × List Transaction)) (k : ℕ) → writer (stands_from 0 (take k es)) x v ≡ None → length es ≤ k
      → writer (stands_from 0 es) x v ≡ None
  parts-all es k none past = ap (λ some. writer (stands_from 0 some) x v) (sym (take_all k es past)) ∙ none

-- a transaction of a session, at its index
pub stand-at : (session : ℕ) (name : List ℕ) (place : ℕ) (txns : List Transaction) (k : ℕ) (txn : Transaction) → slice_get txns k ≡ Some txn
    → slice_get (stands_in session name place txns) k ≡ Some (record { session = session; name = name; place = place + k; txn = txn })
stand-at session name place [] k txn here = absurd (none-some txn here)
stand-at session name place (t ∷ ts) zero txn here =
    let is : t ≡ txn = same_Some t txn here in
    let same : place ≡ place + 0 = omega arith in
    ap (λ u. Some (record { session = session; name = name; place = place; txn = u })) is
    ∙ ap (λ p. Some (record { session = session; name = name; place = p; txn = txn })) same
stand-at session name place (t ∷ ts) (suc k) txn here =
    let same : (place + 1) + k ≡ place + suc k = omega arith in
    stand-at session name (place + 1) ts k txn here
    ∙ ap (λ p. Some (record { session = session; name = name; place = p; txn = txn })) same

pub stands-long : (session : ℕ) (name : List ℕ) (place : ℕ) (txns : List Transaction) → length (stands_in session name place txns) ≡ length txns
stands-long session name place [] = refl
stands-long session name place (t ∷ ts) = ap suc (stands-long session name (place + 1) ts)
