-- The operations of a transaction, one after the other.
use Rattle.std.proofs.Common.{ℕ, zero, suc, ◌+◌, ◌≡◌, ◌<◌, ◌≤◌, ◌==◌, ◌⊎◌, inl, inr, Bool, true, false, cond, List, [], ◌∷◌, ◌++◌, length, length-append, get_or, take, refl, sym, ap, subst, ◌∙◌, arith}
use Rattle.std.specs.Prelude.{Option, Some, None}
use Rattle.std.specs.Cmp.Lexicographic.{nat_list_eq_equiv, pointwise}
use Rattle.std.specs.List.{Contains}
use Rattle.std.specs.Prelude.{nat_eq}
use Rattle.std.proofs.Math.ListN.{get_or-append}
use Rattle.std.proofs.lemmas.Bool.{cases_Bool, cases_eq, cases_lt, false≢true}
use Rattle.std.proofs.lemmas.List.{get_or_default, get_or_push, take_more}
use Rattle.std.proofs.lemmas.List.Elements.{Contains-append_left, Contains-get_or, Contains-push, Contains-push_cases}
use Rattle.std.proofs.lemmas.Map.Views.{list_any-from_Contains}
use Rattle.tcc_txn.specs.Symbols.{is_symbol}
use Rattle.tcc_txn.specs.declared.op.Op.{Op}
use Rattle.tcc_txn.specs.declared.op.Op.TheVariants.{Get, Put}
use Rattle.tcc_txn.proofs.SortedParts.{same_names}
use Rattle.tcc_reads.specs.Sources.{visible_write}
use Rattle.tcc_watch.specs.Ledger.{IsRead, ReadsExternally}
use Rattle.tcc_watch.specs.private.Operations.{AddsKey, AreKeys}
use Rattle.tcc_watch.specs.private.Values.{AddsRead, AddsSource, AreNoted, AreSourcesBelow, AreUnwrittenBelow, Notes, NotesValue, ValueMap, is_unwritten, noted, number_shown, source_in}
use Rattle.tcc_watch.proofs.LedgerSites.{any_of}
use Rattle.tcc_watch.proofs.ValueLemmas.{writes_or_not}

-- ---- keys

keys_still : (before : List Op) (x : List ℕ) (v : ℕ) (keys : List (List ℕ)) → AreKeys before keys → AreKeys (before ++ Get x v ∷ []) keys
keys_still before x v keys right = record {
  once = right.once;
  all = λ y u there. go y u (Contains-push_cases before (Get x v) (Put y u) there);
  only = λ y there. let w = right.only y there in (w.0, Contains-append_left before (Get x v ∷ []) (Put y w.0) w.1);
}
  where
    go : (y : List ℕ) (u : ℕ) → Contains before (Put y u) ⊎ (Get x v ≡ Put y u) → Contains keys y
    go y u (inl was) = right.all y u was
    go y u (inr is) = absurd cc

keys_more : (before : List Op) (x : List ℕ) (v : ℕ) (keys new : List (List ℕ)) → AreKeys before keys → (is_symbol x keys ≡ true) ⊎ (is_symbol x keys ≡ false)
    → new ≡ cond (is_symbol x keys) keys (keys ++ x ∷ []) → AreKeys (before ++ Put x v ∷ []) new
keys_more before x v keys new right (inl known) is =
    subst (λ (z : List (List ℕ)). AreKeys (before ++ Put x v ∷ []) z) (sym (is ∙ ap (λ (b : Bool). cond b keys (keys ++ x ∷ [])) known)) (record {
      once = right.once;
      all = λ y u there. go y u (Contains-push_cases before (Put x v) (Put y u) there);
      only = λ y there. let w = right.only y there in (w.0, Contains-append_left before (Put x v ∷ []) (Put y w.0) w.1);
    })
  where
    there_already : Contains keys x
    there_already = let w = any_of (pointwise nat_eq x) keys known in subst (λ (z : List ℕ). Contains keys z) (sym (same_names x w.0 w.2)) w.1

    go : (y : List ℕ) (u : ℕ) → Contains before (Put y u) ⊎ (Put x v ≡ Put y u) → Contains keys y
    go y u (inl was) = right.all y u was
    go y u (inr same) = let key : x ≡ y = cc in subst (λ (z : List ℕ). Contains keys z) key there_already
keys_more before x v keys new right (inr other) is =
    subst (λ (z : List (List ℕ)). AreKeys (before ++ Put x v ∷ []) z) (sym (is ∙ ap (λ (b : Bool). cond b keys (keys ++ x ∷ [])) other)) (record {
      once = λ i k less inside. once i k less inside (cases_lt k (length keys));
      all = λ y u there. go y u (Contains-push_cases before (Put x v) (Put y u) there);
      only = λ y there. only y (Contains-push_cases keys x y there);
    })
  where
    not_there : Contains keys x → ⊥
    not_there there = false≢true (sym other ∙ list_any-from_Contains nat_list_eq_equiv x keys there)

    once : (i k : ℕ) → i < k → k < length (keys ++ x ∷ []) → (k < length keys) ⊎ (length keys ≤ k)
        → get_or (keys ++ x ∷ []) i [] ≡ get_or (keys ++ x ∷ []) k [] → ⊥
    once i k less inside (inl early) same =
        right.once i k less early (sym (get_or-append keys (x ∷ []) [] i (omega (arith, less, early))) ∙ same ∙ get_or-append keys (x ∷ []) [] k early)
    once i k less inside (inr late) same =
        let last : length keys ≡ k = omega (arith, late, inside, length-append keys (x ∷ [])) in
        let low : i < length keys = omega (arith, less, last) in
        not_there (subst (λ (z : List ℕ). Contains keys z) (sym (get_or-append keys (x ∷ []) [] i low) ∙ same ∙ get_or_push keys x [] k last) (Contains-get_or keys i [] low))

    go : (y : List ℕ) (u : ℕ) → Contains before (Put y u) ⊎ (Put x v ≡ Put y u) → Contains (keys ++ x ∷ []) y
    go y u (inl was) = Contains-append_left keys (x ∷ []) y (right.all y u was)
    go y u (inr same) = let key : x ≡ y = cc in subst (λ (z : List ℕ). Contains (keys ++ x ∷ []) z) key (Contains-push keys x)

    only : (y : List ℕ) → Contains keys y ⊎ (x ≡ y) → (u : ℕ) × Contains (before ++ Put x v ∷ []) (Put y u)
    only y (inl was) = let w = right.only y was in (w.0, Contains-append_left before (Put x v ∷ []) (Put y w.0) w.1)
    only y (inr same) = (v, subst (λ (z : List ℕ). Contains (before ++ Put x v ∷ []) (Put z v)) same (Contains-push before (Put x v)))

keys_by : (before : List Op) (op : Op) (keys new : List (List ℕ)) → AreKeys before keys → AddsKey op keys new → AreKeys (before ++ op ∷ []) new
keys_by before (Get x v) keys new right is = subst (λ (z : List (List ℕ)). AreKeys (before ++ Get x v ∷ []) z) (sym is) (keys_still before x v keys right)
keys_by before (Put x v) keys new right is = keys_more before x v keys new right (cases_Bool (is_symbol x keys)) is

pub keys_next : (ops : List Op) (i : ℕ) (op : Op) (keys new : List (List ℕ)) → i < length ops → op ≡ get_or ops i op → AreKeys (take i ops) keys → AddsKey op keys new
    → AreKeys (take (i + 1) ops) new
keys_next ops i op keys new inside is right adds =
    subst (λ (z : List Op). AreKeys z new) (sym (take_more ops i op inside ∙ ap (λ (o : Op). take i ops ++ o ∷ []) (sym is))) (keys_by (take i ops) op keys new right adds)

-- ---- what is unwritten

pub unwritten_next : (values : ValueMap) (ops : List Op) (i : ℕ) (op : Op) → i < length ops → op ≡ get_or ops i op → AreUnwrittenBelow values ops i
    → is_unwritten values (take i ops) op ≡ true → AreUnwrittenBelow values ops (i + 1)
unwritten_next values ops i op inside is right now j d below within = go (cases_eq j i)
  where
    go : (j ≡ i) ⊎ (j ≡ i → ⊥) → is_unwritten values (take j ops) (get_or ops j d) ≡ true
    go (inr apart) = right j d (omega (arith, below, apart)) within
    go (inl same) =
        subst (λ (z : ℕ). is_unwritten values (take z ops) (get_or ops z d) ≡ true) (sym same)
        (subst (λ (o : Op). is_unwritten values (take i ops) o ≡ true) (is ∙ get_or_default ops i op d inside) now)

-- ---- sources

module _ (values : ValueMap) (ops : List Op) (i : ℕ) (old new : List (List ℕ × ℕ)) (right : AreSourcesBelow values ops i old) (inside : i < length ops) where
  -- where no read is added
  same_sources : new ≡ old → ((x : List ℕ) (v : ℕ) → IsRead ops i x v → (own : ℕ) × (visible_write x (take i ops) ≡ Some own) × (own ≡ v))
      → AreSourcesBelow values ops (i + 1) new
  same_sources is here = subst (λ (z : List (List ℕ × ℕ)). AreSourcesBelow values ops (i + 1) z) (sym is) (record {
    own = λ j x v w below at shown. own j x v w below at shown (cases_eq j i);
    given = λ j x v below at none. given j x v below at none (cases_eq j i);
    only = right.only;
  })
    where
      own : (j : ℕ) (x : List ℕ) (v w : ℕ) → j < i + 1 → IsRead ops j x v → visible_write x (take j ops) ≡ Some w → (j ≡ i) ⊎ (j ≡ i → ⊥) → w ≡ v
      own j x v w below at shown (inr apart) = right.own j x v w (omega (arith, below, apart)) at shown
      own j x v w below at shown (inl same) =
          let h = here x v (subst (λ (z : ℕ). IsRead ops z x v) same at) in
          let e : Some w ≡ Some h.0 = sym shown ∙ ap (λ (z : ℕ). visible_write x (take z ops)) same ∙ h.1 in
          let w_is : w ≡ h.0 = cc in w_is ∙ h.2

      given : (j : ℕ) (x : List ℕ) (v : ℕ) → j < i + 1 → IsRead ops j x v → visible_write x (take j ops) ≡ None → (j ≡ i) ⊎ (j ≡ i → ⊥)
          → (n : ℕ) × (source_in values x v ≡ Some n) × Contains old (x, n)
      given j x v below at none (inr apart) = right.given j x v (omega (arith, below, apart)) at none
      given j x v below at none (inl same) =
          let h = here x v (subst (λ (z : ℕ). IsRead ops z x v) same at) in
          let e : None ≡ Some h.0 = sym none ∙ ap (λ (z : ℕ). visible_write x (take z ops)) same ∙ h.1 in absurd cc

  -- where one is
  more_sources : (y : List ℕ) (u n : ℕ) → IsRead ops i y u → visible_write y (take i ops) ≡ None → source_in values y u ≡ Some n → new ≡ old ++ (y, n) ∷ []
      → AreSourcesBelow values ops (i + 1) new
  more_sources y u n here free source is = subst (λ (z : List (List ℕ × ℕ)). AreSourcesBelow values ops (i + 1) z) (sym is) (record {
    own = λ j x v w below at shown. own j x v w below at shown (cases_eq j i);
    given = λ j x v below at none. given j x v below at none (cases_eq j i);
    only = λ x m there. only x m (Contains-push_cases old (y, n) (x, m) there);
  })
    where
      -- the read at this index is this one
      one : (j : ℕ) (x : List ℕ) (v : ℕ) → j ≡ i → IsRead ops j x v → Get y u ≡ Get x v
      one j x v same at =
          sym here.1 ∙ get_or_default ops i (Get y u) (Get x v) inside ∙ ap (λ (z : ℕ). get_or ops z (Get x v)) (sym same) ∙ at.1

      own : (j : ℕ) (x : List ℕ) (v w : ℕ) → j < i + 1 → IsRead ops j x v → visible_write x (take j ops) ≡ Some w → (j ≡ i) ⊎ (j ≡ i → ⊥) → w ≡ v
      own j x v w below at shown (inr apart) = right.own j x v w (omega (arith, below, apart)) at shown
      own j x v w below at shown (inl same) =
          let e = one j x v same at in
          let key : y ≡ x = cc in
          let gone : None ≡ Some w = sym free ∙ (λ k. visible_write (key k) (take (sym same k) ops)) ∙ shown in absurd cc

      given : (j : ℕ) (x : List ℕ) (v : ℕ) → j < i + 1 → IsRead ops j x v → visible_write x (take j ops) ≡ None → (j ≡ i) ⊎ (j ≡ i → ⊥)
          → (m : ℕ) × (source_in values x v ≡ Some m) × Contains (old ++ (y, n) ∷ []) (x, m)
      given j x v below at none (inr apart) =
          let w = right.given j x v (omega (arith, below, apart)) at none in (w.0, w.1, Contains-append_left old ((y, n) ∷ []) (x, w.0) w.2)
      given j x v below at none (inl same) =
          let e = one j x v same at in
          let key : y ≡ x = cc in
          let value : u ≡ v = cc in (
            n,
            (λ k. source_in values (sym key k) (sym value k)) ∙ source,
            subst (λ (z : List ℕ). Contains (old ++ (y, n) ∷ []) (z, n)) key (Contains-push old (y, n)),
          )

      only : (x : List ℕ) (m : ℕ) → Contains old (x, m) ⊎ (◌≡◌ {A = List ℕ × ℕ} (y, n) (x, m)) → (v : ℕ) × ReadsExternally ops x v × (source_in values x v ≡ Some m)
      only x m (inl was) = right.only x m was
      only x m (inr pair) =
          let key : y ≡ x = ap (λ (p : List ℕ × ℕ). p.0) pair in
          let number : n ≡ m = ap (λ (p : List ℕ × ℕ). p.1) pair in (
            u,
            subst (λ (z : List ℕ). ReadsExternally ops z u) key (i, here, free),
            subst (λ (z : ℕ). source_in values x u ≡ Some z) number (subst (λ (z : List ℕ). source_in values z u ≡ Some n) key source),
          )

  pub sources_next : (op : Op) → op ≡ get_or ops i op → AddsSource values (take i ops) op old new → AreSourcesBelow values ops (i + 1) new
  sources_next (Put y u) is adds = same_sources adds (λ x v at. let e : Put y u ≡ Get x v = is ∙ get_or_default ops i (Put y u) (Get x v) inside ∙ at.1 in absurd cc)
  sources_next (Get y u) is adds = by (visible_write y (take i ops)) refl adds
    where
      by : (o : Option ℕ) → visible_write y (take i ops) ≡ o → AddsRead values y u o old new → AreSourcesBelow values ops (i + 1) new
      by (Some own) shown (same, kept) = same_sources kept here
        where
          here : (x : List ℕ) (v : ℕ) → IsRead ops i x v → (w : ℕ) × (visible_write x (take i ops) ≡ Some w) × (w ≡ v)
          here x v at =
              let e : Get y u ≡ Get x v = is ∙ get_or_default ops i (Get y u) (Get x v) inside ∙ at.1 in
              let key : y ≡ x = cc in
              let value : u ≡ v = cc in
              (own, subst (λ (z : List ℕ). visible_write z (take i ops) ≡ Some own) key shown, same ∙ value)
      by None none (n, source, longer) = more_sources y u n (inside, sym is) none source longer

-- ---- what is noted

module _ (ops : List Op) (number : Option ℕ) where
  noted_by : (some : List Op) (op : Op) (old mid new : ValueMap) → AreNoted ops number some old mid → NotesValue ops number op mid new
      → AreNoted ops number (some ++ op ∷ []) old new
  noted_by some op old mid new right one = record {
    here = λ x v there. here x v (Contains-push_cases some op (Put x v) there) (writes_or_not (op ∷ []) x v);
    others = λ x v none.
        one.others x v (λ now. none (last x v now)) ∙ right.others x v (λ was. none (Contains-append_left some (op ∷ []) (Put x v) was));
  }
    where
      last : (x : List ℕ) (v : ℕ) → Contains (op ∷ []) (Put x v) → Contains (some ++ op ∷ []) (Put x v)
      last x v (zero, l, e) = subst (λ (z : Op). Contains (some ++ op ∷ []) z) e (Contains-push some op)
      last x v (suc k, l, e) = absurd (omega (arith, l))

      here : (x : List ℕ) (v : ℕ) → Contains some (Put x v) ⊎ (op ≡ Put x v) → Contains (op ∷ []) (Put x v) ⊎ (Contains (op ∷ []) (Put x v) → ⊥)
          → noted new x v ≡ Some (number_shown ops number x v)
      here x v was (inl now) = one.here x v now
      here x v (inl was) (inr other) = one.others x v other ∙ right.here x v was
      here x v (inr is) (inr other) = absurd (other (0, omega arith, is))

  pub noted_next : (i : ℕ) (op : Op) (old mid new : ValueMap) → i < length ops → op ≡ get_or ops i op → AreNoted ops number (take i ops) old mid
      → NotesValue ops number op mid new → AreNoted ops number (take (i + 1) ops) old new
  noted_next i op old mid new inside is right one =
      subst (λ (z : List Op). AreNoted ops number z old new) (sym (take_more ops i op inside ∙ ap (λ (o : Op). take i ops ++ o ∷ []) (sym is)))
      (noted_by (take i ops) op old mid new right one)

  pub none_noted : (some : List Op) (values : ValueMap) → ((x : List ℕ) (v : ℕ) → Contains some (Put x v) → ⊥) → AreNoted ops number some values values
  none_noted some values none = record { here = λ x v there. absurd (none x v there); others = λ x v other. refl }

  pub read_noted : (x : List ℕ) (v : ℕ) (values : ValueMap) → NotesValue ops number (Get x v) values values
  read_noted x v values = none_noted (Get x v ∷ []) values none
    where
      none : (y : List ℕ) (u : ℕ) → Contains (Get x v ∷ []) (Put y u) → ⊥
      none y u (zero, l, e) = absurd cc
      none y u (suc k, l, e) = absurd (omega (arith, l))

  pub value_noted : (x : List ℕ) (v : ℕ) (old new : ValueMap) (o : Option ℕ) → o ≡ number_shown ops number x v → Notes old new x v o → NotesValue ops number (Put x v) old new
  value_noted x v old new o is notes = record {
    here = λ y u there. here y u there;
    others = λ y u none. notes.others y u (λ key value. none (0, omega arith, (λ k. Put (sym key k) (sym value k))));
  }
    where
      here : (y : List ℕ) (u : ℕ) → Contains (Put x v ∷ []) (Put y u) → noted new y u ≡ Some (number_shown ops number y u)
      here y u (suc k, l, e) = absurd (omega (arith, l))
      here y u (zero, l, e) =
          let key : x ≡ y = cc in
          let value : v ≡ u = cc in
          (λ k. noted new (sym key k) (sym value k)) ∙ notes.here ∙ ap Some is ∙ (λ k. Some (number_shown ops number (key k) (value k)))
