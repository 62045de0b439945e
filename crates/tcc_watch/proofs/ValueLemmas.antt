-- The values that were written so far, when a transaction is delivered.
use Rattle.std.proofs.Common.{ℕ, zero, suc, ◌+◌, ◌≡◌, ◌<◌, ◌||◌, ◌==◌, ◌⊎◌, inl, inr, Bool, true, false, cond, not, List, [], ◌∷◌, ◌++◌, length, get_or, take, refl, sym, ap, subst, ◌∙◌, arith}
use Rattle.std.specs.Prelude.{Option, Some, None, is_some, unwrap_or}
use Rattle.std.specs.List.{Contains, list_any}
use Rattle.std.specs.Option.{option_eq}
use Rattle.std.proofs.lemmas.Bool.{cases_Bool, cases_eq, eq-eqb, eqb-true, false≢true, ne_eqb}
use Rattle.std.proofs.lemmas.List.{get_or-take, length-take}
use Rattle.tcc_txn.specs.Transactions.{Transaction}
use Rattle.tcc_txn.specs.declared.op.Op.{Op}
use Rattle.tcc_txn.specs.declared.op.Op.TheVariants.{Put}
use Rattle.tcc_reads.specs.Faults.{puts}
use Rattle.tcc_reads.specs.History.{Entry, History, count}
use Rattle.tcc_reads.specs.Sources.{visible_write}
use Rattle.tcc_graph.proofs.NameLemmas.{has_name-contains, contains-has_name}
use Rattle.tcc_watch.specs.Delivered.{with_last}
use Rattle.tcc_watch.specs.Ledger.{IsFrom, IsLedger, IsNumbered, IsPlaced, Lists}
use Rattle.tcc_watch.specs.private.LedgerSteps.{AreNew, IsLonger, IsNext}
use Rattle.tcc_watch.specs.private.Operations.{AreKeys}
use Rattle.tcc_watch.specs.private.Values.{AreNoted, AreSources, AreUnwritten, AreValues, ValueMap, is_unwritten, noted, number_shown, source_in}
use Rattle.tcc_watch.proofs.Arrived.{count_more, more}
use Rattle.tcc_watch.proofs.LedgerSites.{any_of, put_is, puts_it}
use Rattle.tcc_watch.proofs.LedgerSteps.{IsTheNew, numbered_still, numbered_there, placed_before, placed_still}

-- ---- tests

pub any_there : {X : Type 0} (p : X → Bool) (xs : List X) (x : X) → Contains xs x → p x ≡ true → list_any p xs ≡ true
any_there p [] x (k, l, e) is = absurd (omega (arith, l))
any_there p (y ∷ xs) x (zero, l, e) is = ap (λ (b : Bool). b || list_any p xs) (ap p e ∙ is)
any_there p (y ∷ xs) x (suc k, l, e) is = go (p y) (any_there p xs x (k, omega (arith, l), e) is)
  where
    go : (b : Bool) → list_any p xs ≡ true → (b || list_any p xs) ≡ true
    go true later = refl
    go false later = later

-- operations write a value, or not
pub writes_or_not : (ops : List Op) (x : List ℕ) (v : ℕ) → Contains ops (Put x v) ⊎ (Contains ops (Put x v) → ⊥)
writes_or_not ops x v = go (cases_Bool (list_any (puts x v) ops))
  where
    go : (list_any (puts x v) ops ≡ true) ⊎ (list_any (puts x v) ops ≡ false) → Contains ops (Put x v) ⊎ (Contains ops (Put x v) → ⊥)
    go (inl some) = let w = any_of (puts x v) ops some in inl (subst (λ (z : Op). Contains ops z) (put_is x v w.0 w.2) w.1)
    go (inr none) = inr (λ there. false≢true (sym none ∙ any_there (puts x v) ops (Put x v) there (puts_it x v)))

neither : (b c : Bool) → not (b || c) ≡ true → (b ≡ false) × (c ≡ false)
neither true c e = absurd (false≢true e)
neither false true e = absurd (false≢true e)
neither false false e = (refl, refl)

none_of : (o : Option (Option ℕ)) → is_some o ≡ false → o ≡ None
none_of None e = refl
none_of (Some v) e = absurd (false≢true (sym e))

-- ---- sources

some_of : (o : Option (Option ℕ)) (n : ℕ) → unwrap_or o None ≡ Some n → o ≡ Some (Some n)
some_of None n e = absurd cc
some_of (Some v) n e = ap Some e

module _ (lists : Lists) (names : List (List ℕ)) (h : History) (values : ValueMap) (right : AreValues lists names h values) (some : 0 < count h) where
  pub source_from : (x : List ℕ) (v n : ℕ) → source_in values x v ≡ Some n → IsFrom lists names h x v n
  source_from x v n is = go (cases_eq v 0)
    where
      go : (v ≡ 0) ⊎ (v ≡ 0 → ⊥) → IsFrom lists names h x v n
      go (inl nought) =
          let e : Some 0 ≡ Some n = sym (ap (λ (b : Bool). cond b (Some 0) (unwrap_or (noted values x v) None)) (eq-eqb v 0 nought)) ∙ is in
          let zeroth : 0 ≡ n = cc in
          (subst (λ (z : ℕ). z < count h) zeroth some, inl (nought, sym zeroth))
      go (inr other) =
          let e : unwrap_or (noted values x v) None ≡ Some n = sym (ap (λ (b : Bool). cond b (Some 0) (unwrap_or (noted values x v) None)) (ne_eqb v 0 other)) ∙ is in
          let w = right.shown x v n (some_of (noted values x v) n e) in
          (w.1, inr (other, w.0, (w.2.0, w.2.1.0, w.2.1.1)))

  -- ---- the next transaction of a session
  pub next_of : (name : List ℕ) (txn : Transaction) (e : Entry) → txn.committed ≡ true → e.owner < length names → get_or names e.owner [] ≡ name
      → e.place ≡ length (lists name) + 1 → AreKeys txn.ops e.writes → AreSources values txn.ops e.reads → IsNext lists names h e name txn
  next_of name txn e ended owned named placed keys sources = record {
    ended = ended;
    owned = owned;
    named = named;
    placed = placed;
    own = λ i x v w at shown. sources.own i x v w at.0 at shown;
    writes = λ x. (
      (λ is. keys.only x (has_name-contains e.writes x is)),
      λ w. contains-has_name e.writes x (keys.all x w.0 w.1),
    );
    read = λ x a there. let r = sources.only x a there in (r.0, r.1, source_from x r.0 a r.2);
    reads = λ x v r. let w = sources.given r.0 x v r.1.0 r.1 r.2 in (w.0, source_from x v w.0 w.1, w.2);
  }

  -- ---- what is new
  unwritten_at : (ops : List Op) → AreUnwritten values ops → (i : ℕ) (x : List ℕ) (v : ℕ) → i < length ops → get_or ops i (Put x v) ≡ Put x v
      → (noted values x v ≡ None) × (list_any (puts x v) (take i ops) ≡ false)
  unwritten_at ops all i x v inside is =
      let e : is_unwritten values (take i ops) (Put x v) ≡ true
      = ap (is_unwritten values (take i ops)) (sym is) ∙ all i (Put x v) inside inside in
      let w = neither (is_some (noted values x v)) (list_any (puts x v) (take i ops)) e in
      (none_of (noted values x v) w.0, w.1)

  pub are_new : (ops : List Op) → AreUnwritten values ops → AreNew lists ops
  are_new ops all = record {
    once = λ i k x v less inside first second.
        let w = unwritten_at ops all k x v inside second in
        let low : i < length (take k ops) = omega (arith, less, inside, length-take k ops) in
        let there : Contains (take k ops) (Put x v) = (i, low, get_or-take k ops i (Put x v) less ∙ first) in
        false≢true (sym w.1 ∙ any_there (puts x v) (take k ops) (Put x v) there (puts_it x v));
    fresh = λ name p txn x v at in_txn there.
        let w = unwritten_at ops all there.0 x v there.1 there.2 in right.known name p txn x v at in_txn w.0;
  }

-- ---- one transaction more

number_of : (o : Option ℕ) (v : ℕ) (number : Option ℕ) (n : ℕ) → cond (option_eq ◌==◌ o (Some v)) number None ≡ Some n → (number ≡ Some n) × (o ≡ Some v)
number_of None v number n e = absurd cc
number_of (Some w) v number n e = go (cases_Bool (w == v)) e
  where
    go : ((w == v) ≡ true) ⊎ ((w == v) ≡ false) → cond (w == v) number None ≡ Some n → (number ≡ Some n) × (Some w ≡ Some v)
    go (inl same) is = (sym (ap (λ (b : Bool). cond b number None) same) ∙ is, ap Some (eqb-true w v same))
    go (inr other) is = let none : None ≡ Some n = sym (ap (λ (b : Bool). cond b number None) other) ∙ is in absurd cc

module _ (old new : Lists) (name : List ℕ) (txn : Transaction) (longer : IsLonger old new name txn) (values later : ValueMap) where
  known_more : (number : Option ℕ) (names : List (List ℕ)) (h : History) → AreValues old names h values → AreNoted txn.ops number txn.ops values later
      → (other : List ℕ) (p : ℕ) (t : Transaction) (x : List ℕ) (v : ℕ) → IsPlaced new other p t → Contains t.ops (Put x v) → noted later x v ≡ None → ⊥
  known_more number names h right done other p t x v at there none = go (writes_or_not txn.ops x v) (placed_before old new name txn longer other p t at)
    where
      written : Contains txn.ops (Put x v) → ⊥
      written in_new = let e : Some (number_shown txn.ops number x v) ≡ None = sym (done.here x v in_new) ∙ none in absurd cc

      go : Contains txn.ops (Put x v) ⊎ (Contains txn.ops (Put x v) → ⊥) → IsPlaced old other p t ⊎ IsTheNew old new name txn longer other p t → ⊥
      go (inl in_new) was = written in_new
      go (inr other_value) (inl was) = right.known other p t x v was there (sym (done.others x v other_value) ∙ none)
      go (inr other_value) (inr is) = written (subst (λ (z : Transaction). Contains z.ops (Put x v)) is.txn_is there)

  pub aborted_values : (names : List (List ℕ)) (h : History) → AreValues old names h values → AreNoted txn.ops None txn.ops values later → AreValues new names h later
  aborted_values names h right done = record {
    known = known_more None names h right done;
    shown = λ x v n is. go x v n is (writes_or_not txn.ops x v);
  }
    where
      go : (x : List ℕ) (v n : ℕ) → noted later x v ≡ Some (Some n) → Contains txn.ops (Put x v) ⊎ (Contains txn.ops (Put x v) → ⊥)
          → (0 < n) × (n < count h) × ((t : Transaction) × (IsNumbered new names h n t × (visible_write x t.ops ≡ Some v)))
      go x v n is (inl there) =
          let e : Some (number_shown txn.ops None x v) ≡ Some (Some n) = sym (done.here x v there) ∙ is in
          let f : number_shown txn.ops None x v ≡ Some n = cc in
          let w = number_of (visible_write x txn.ops) v None n f in
          let none : None ≡ Some n = w.0 in absurd cc
      go x v n is (inr other) =
          let w = right.shown x v n (sym (done.others x v other) ∙ is) in
          (w.0, w.1, (w.2.0, ((placed_still old new name txn longer _ _ w.2.0 w.2.1.0.0, w.2.1.0.1), w.2.1.1)))

  pub committed_values : (names : List (List ℕ)) (h : History) (e : Entry) (ledger : IsLedger old names h) (next : IsNext old names h e name txn) (fresh : AreNew old txn.ops)
      → IsNumbered new names (with_last h e) (count h) txn → AreValues old names h values → AreNoted txn.ops (Some (count h)) txn.ops values later
      → AreValues new names (with_last h e) later
  committed_values names h e ledger next fresh numbered right done = record {
    known = known_more (Some (count h)) names h right done;
    shown = λ x v n is. go x v n is (writes_or_not txn.ops x v);
  }
    where
      go : (x : List ℕ) (v n : ℕ) → noted later x v ≡ Some (Some n) → Contains txn.ops (Put x v) ⊎ (Contains txn.ops (Put x v) → ⊥)
          → (0 < n) × (n < count (with_last h e)) × ((t : Transaction) × (IsNumbered new names (with_last h e) n t × (visible_write x t.ops ≡ Some v)))
      go x v n is (inl there) =
          let e_is : Some (number_shown txn.ops (Some (count h)) x v) ≡ Some (Some n) = sym (done.here x v there) ∙ is in
          let f : number_shown txn.ops (Some (count h)) x v ≡ Some n = cc in
          let w = number_of (visible_write x txn.ops) v (Some (count h)) n f in
          let g : Some (count h) ≡ Some n = w.0 in
          let same : count h ≡ n = cc in (
            subst (λ (z : ℕ). 0 < z) same ledger.some,
            omega (arith, count_more h e, same),
            (txn, (subst (λ (z : ℕ). IsNumbered new names (with_last h e) z txn) same numbered, w.1)),
          )
      go x v n is (inr other) =
          let w = right.shown x v n (sym (done.others x v other) ∙ is) in (
            w.0,
            more h e n w.1,
            (w.2.0, (numbered_still old new name txn longer names h e ledger next fresh n w.2.0 w.1 w.2.1.0, w.2.1.1)),
          )

-- one session more
pub session_values : (lists : Lists) (names : List (List ℕ)) (h : History) (name : List ℕ) (values : ValueMap) (ledger : IsLedger lists names h)
    (unknown : (k : ℕ) → k < length names → get_or names k [] ≡ name → ⊥) → AreValues lists names h values → AreValues lists (names ++ name ∷ []) h values
session_values lists names h name values ledger unknown right = record {
  known = right.known;
  shown = λ x v n is.
      let w = right.shown x v n is in
      (w.0, w.1, (w.2.0, (numbered_there lists names h name ledger unknown n w.2.0 w.0 w.1 w.2.1.0, w.2.1.1)));
}
