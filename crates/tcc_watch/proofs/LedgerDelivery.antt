-- What there is a ledger of was delivered: the history of the ledger is that of the snapshot but for the numbers.
use Rattle.std.proofs.Common.{ℕ, ◌≡◌, ◌<◌, ◌≤◌, ◌⊎◌, inl, inr, Bool, true, false, List, [], refl, sym, ap, subst, ◌∙◌, arith}
use Rattle.std.specs.Prelude.{◌↔◌, Some, get_or}
use Rattle.std.specs.List.{Contains}
use Rattle.std.proofs.lemmas.Bool.{cases_lt, false≢true}
use Rattle.std.proofs.lemmas.List.{get_or_default}
use Rattle.tcc_txn.specs.Nested.{list_of}
use Rattle.tcc_txn.specs.Snapshots.{Sessions}
use Rattle.tcc_txn.specs.Transactions.{Transaction}
use Rattle.tcc_reads.specs.History.{History, count, entry_at, owner, place}
use Rattle.tcc_reads.specs.OneSource.{IsNumber}
use Rattle.tcc_reads.specs.Sites.{Stand, stands, committed}
use Rattle.tcc_reads.specs.Sources.{history, visible_write, writes_of}
use Rattle.tcc_graph.specs.Keys.{has_name}
use Rattle.tcc_slices.proofs.Freed.{put_visible, visible_put}
use Rattle.tcc_slices.proofs.Numbered.{number_some, number_stands, number_of, of_number, one_name}
use Rattle.tcc_slices.proofs.Sliced.{same_names, same_owner}
use Rattle.tcc_slices.proofs.Written.{written_value, value_written, shown, shows_it}
use Rattle.tcc_watch.specs.Delivered.{ComesFrom, IsAs, IsDeliveryOf}
use Rattle.tcc_watch.specs.Ledger.{IsEntered, IsFrom, IsLedger, IsPlaced, session_of}
use Rattle.tcc_watch.proofs.LedgerSites.{placed, stand_of, one_txn}
use Rattle.tcc_watch.proofs.Sited.{reads_of_stand, stand_reads}

same_truth : (b c : Bool) → (b ≡ true → c ≡ true) → (c ≡ true → b ≡ true) → b ≡ c
same_truth true c forth back = sym (forth refl)
same_truth false true forth back = absurd (false≢true (back refl))
same_truth false false forth back = refl

-- one number, one transaction
one_stand : (s : Sessions) (n : ℕ) (t u : Stand) → IsNumber s n t → IsNumber s n u → t ≡ u
one_stand s n t u (i, l, at, is) (j, m, also, too) =
    let same : i ≡ j = omega (arith, at, also) in
    sym is ∙ get_or_default (committed (stands s)) i t u l ∙ ap (λ (z : ℕ). get_or (committed (stands s)) z u) same ∙ too

module _ (s : Sessions) (names : List (List ℕ)) (h : History) (ledger : IsLedger (list_of s) names h) where
  -- the transaction of a number of the ledger, with its session and place in the snapshot
  pub record IsOf (n : ℕ) : Type 0 where
    pub stand : Stand
    pub m : ℕ
    pub number : IsNumber s m stand
    pub name : stand.name ≡ session_of names h n
    pub at : stand.place ≡ place h n
    pub entered : IsEntered (list_of s) names h n stand.txn

  pub of : (n : ℕ) → 0 < n → n < count h → IsOf n
  of n some below =
      let e = ledger.each n some below in
      let u = stand_of s (session_of names h n) (place h n) e.0 e.1.numbered.0 in
      let m = number_of s u.0 u.1 (ap (λ (z : Transaction). z.committed) u.4 ∙ e.1.numbered.1) in
      record {
        stand = u.0;
        m = m.0;
        number = m.1;
        name = u.2;
        at = u.3;
        entered = subst (λ (z : Transaction). IsEntered (list_of s) names h n z) (sym u.4) e.1;
      }

  -- its number in the snapshot
  abbrev pub number_by : (n : ℕ) → (0 < n) ⊎ (n ≤ 0) → (n < count h) ⊎ (count h ≤ n) → ℕ
  number_by n (inl some) (inl below) = (of n some below).m
  number_by n (inl some) (inr past) = 0
  number_by n (inr none) inside = 0

  abbrev pub f : ℕ → ℕ
  f n = number_by n (cases_lt 0 n) (cases_lt n (count h))

  zeroth : (c : (0 < 0) ⊎ (0 ≤ 0)) (d : (0 < count h) ⊎ (count h ≤ 0)) → number_by 0 c d ≡ 0
  zeroth (inl some) d = absurd (omega (arith, some))
  zeroth (inr none) d = refl

  -- its session and place, by this number
  record IsKnown (n : ℕ) (m : ℕ) : Type 0 where
    stand : Stand
    number : IsNumber s m stand
    name : stand.name ≡ session_of names h n
    at : stand.place ≡ place h n
    entered : IsEntered (list_of s) names h n stand.txn

  known_by : (n : ℕ) → 0 < n → n < count h → (c : (0 < n) ⊎ (n ≤ 0)) (d : (n < count h) ⊎ (count h ≤ n)) → IsKnown n (number_by n c d)
  known_by n some below (inl more) (inl inside) =
      let w = of n more inside in record { stand = w.stand; number = w.number; name = w.name; at = w.at; entered = w.entered }
  known_by n some below (inl more) (inr past) = absurd (omega (arith, below, past))
  known_by n some below (inr none) d = absurd (omega (arith, some, none))

  known : (n : ℕ) → 0 < n → n < count h → IsKnown n (f n)
  known n some below = known_by n some below (cases_lt 0 n) (cases_lt n (count h))

  -- numbers of one place in the snapshot are one
  same_number : (a b : ℕ) → 0 < a → a < count h → 0 < b → b < count h → session_of names h a ≡ session_of names h b → place h a ≡ place h b → a ≡ b
  same_number a b some_a at_a some_b at_b name at =
      ledger.once a b some_a at_a some_b at_b (ledger.apart (owner h a) (owner h b) (ledger.owned a some_a at_a) (ledger.owned b some_b at_b) name) at

  once : (a b : ℕ) → a < count h → b < count h → f a ≡ f b → (0 < a) ⊎ (a ≤ 0) → (0 < b) ⊎ (b ≤ 0) → a ≡ b
  once a b at_a at_b same (inl some_a) (inl some_b) =
      let v = known a some_a at_a in
      let w = known b some_b at_b in
      let stand : v.stand ≡ w.stand = one_stand s (f b) v.stand w.stand (subst (λ (z : ℕ). IsNumber s z v.stand) same v.number) w.number in
      same_number a b some_a at_a some_b at_b (sym v.name ∙ ap (λ (z : Stand). z.name) stand ∙ w.name) (sym v.at ∙ ap (λ (z : Stand). z.place) stand ∙ w.at)
  once a b at_a at_b same (inl some) (inr none) =
      let v = known a some at_a in
      let nought : b ≡ 0 = omega (arith, none) in
      absurd (omega (arith, number_some s (f a) v.stand v.number, same, ap f nought, zeroth (cases_lt 0 0) (cases_lt 0 (count h))))
  once a b at_a at_b same (inr none) (inl some) =
      let w = known b some at_b in
      let nought : a ≡ 0 = omega (arith, none) in
      absurd (omega (arith, number_some s (f b) w.stand w.number, same, ap f nought, zeroth (cases_lt 0 0) (cases_lt 0 (count h))))
  once a b at_a at_b same (inr none) (inr also) = omega (arith, none, also)

  -- ---- reads

  comes_from : (x : List ℕ) (v a : ℕ) → IsFrom (list_of s) names h x v a → ComesFrom s h f x v a
  comes_from x v a (below, inl (nought, first)) = (below, inl (nought, first))
  comes_from x v a (below, inr (other, some, (txn, numbered, is))) =
      let w = known a some below in
      let at : IsPlaced (list_of s) (session_of names h a) (place h a) w.stand.txn = w.entered.numbered.0 in
      let same : w.stand.txn ≡ txn = one_txn (list_of s) (session_of names h a) (place h a) w.stand.txn txn at numbered.0 in
      (below, inr (other, some, (w.stand, w.number, shows_it x v w.stand (ap (λ (z : Transaction). visible_write x z.ops) same ∙ is))))

  -- a value has one giver
  one_giver : (x : List ℕ) (v a b : ℕ) → ComesFrom s h f x v a → IsFrom (list_of s) names h x v b → b ≡ a
  one_giver x v a b (at_a, inl (nought, first)) (at_b, inl (also, none)) = none ∙ sym first
  one_giver x v a b (at_a, inl (nought, first)) (at_b, inr (other, some, rest)) = absurd (other nought)
  one_giver x v a b (at_a, inr (other, some, rest)) (at_b, inl (nought, none)) = absurd (other nought)
  one_giver x v a b (at_a, inr (other, some_a, (g, number, gives))) (at_b, inr (also, some_b, (txn, numbered, is))) =
      let w = known a some_a at_a in
      let stand : g ≡ w.stand = one_stand s (f a) g w.stand number w.number in
      let g_shown : visible_write x w.stand.txn.ops ≡ Some v = ap (λ (z : Stand). visible_write x z.txn.ops) (sym stand) ∙ shown x v g gives in
      let same = ledger.written (session_of names h b) (session_of names h a) (place h b) (place h a) txn w.stand.txn x v numbered.0 w.entered.numbered.0
      (visible_put x txn.ops v is) (visible_put x w.stand.txn.ops v g_shown) in
      same_number b a some_b at_b some_a at_a same.0 same.1

  -- ---- one transaction

  one : (n : ℕ) → 0 < n → n < count h → (t : Stand) × IsAs s h f n t
  one n some below = (
    w.stand,
    record {
      number = w.number;
      place_is = sym w.at;
      writes = λ x. same_truth (has_name (entry_at h n).writes x) (has_name (writes_of w.stand) x)
          (λ is. let p = (w.entered.writes x).0 is in let q = put_visible x w.stand.txn.ops p.0 p.1 in value_written w.stand x q.0 q.1)
          (λ is. let p = written_value w.stand x is in (w.entered.writes x).1 (p.0, visible_put x w.stand.txn.ops p.0 p.1));
      read = λ x a there. let r = w.entered.read x a there in (r.0, stand_reads w.stand x r.0 r.1, comes_from x r.0 a r.2);
      reads = λ x v a there from.
          let r = w.entered.reads x v (reads_of_stand w.stand x v there) in
          subst (λ (z : ℕ). Contains (entry_at h n).reads (x, z)) (one_giver x v a r.0 from r.2) r.3;
    },
  )
    where
      w : IsKnown n (f n)
      w = known n some below

  -- ---- all of them

  all : (m : ℕ) → m < count (history s) → (0 < m) ⊎ (m ≤ 0) → (n : ℕ) × (n < count h) × (f n ≡ m)
  all m below (inr none) =
      let nought : 0 ≡ m = omega (arith, none) in (0, ledger.some, zeroth (cases_lt 0 0) (cases_lt 0 (count h)) ∙ nought)
  all m below (inl some) =
      let t = of_number s m some below in
      let there = number_stands s m t.0 t.1 in
      let w = ledger.all t.0.name t.0.place t.0.txn (placed s t.0 there.0) there.1 in
      let k = known w.0 w.1 w.2 in
      (w.0, w.2, one_name s (f w.0) m k.stand t.0 k.number t.1 (k.name ∙ w.3) (k.at ∙ w.4))

  owners : (a b : ℕ) → 0 < a → a < count h → 0 < b → b < count h
      → (owner h a ≡ owner h b) ↔ (owner (history s) (f a) ≡ owner (history s) (f b))
  owners a b some_a at_a some_b at_b = (
    (λ same. same_owner s (f a) (f b) v.stand w.stand v.number w.number (v.name ∙ ap (λ (z : ℕ). get_or names z []) same ∙ sym w.name)),
    λ same. ledger.apart (owner h a) (owner h b) (ledger.owned a some_a at_a) (ledger.owned b some_b at_b)
        (sym v.name ∙ same_names s (f a) (f b) v.stand w.stand v.number w.number same ∙ w.name),
  )
    where
      v : IsKnown a (f a)
      v = known a some_a at_a

      w : IsKnown b (f b)
      w = known b some_b at_b

  pub delivery : IsDeliveryOf s h f
  delivery = record {
    first = zeroth (cases_lt 0 0) (cases_lt 0 (count h));
    some = ledger.some;
    init = ledger.first;
    each = one;
    once = λ a b at_a at_b same. once a b at_a at_b same (cases_lt 0 a) (cases_lt 0 b);
    all = λ m below. all m below (cases_lt 0 m);
    owners = owners;
  }
