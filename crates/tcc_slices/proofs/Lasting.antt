-- A snapshot with one more transaction of its last session, or of a session after the last.
use Rattle.std.proofs.Common.{ℕ, zero, suc, ◌≡◌, ◌+◌, ◌++◌, ◌⊎◌, inl, inr, T, cond, List, [], ◌∷◌, length, append_assoc, append-nil, refl, sym, ap, subst, ◌∙◌, arith}
use Rattle.std.specs.Prelude.{unwrap_or, Some}
use Rattle.std.specs.List.{Contains}
use Rattle.std.specs.FinMap.{entries, entries_sorted}
use Rattle.std.specs.FinMap.Entries.{below_all, by_order, find, is_sorted, put}
use Rattle.std.specs.Ordering.{is_eq, is_lt}
use Rattle.std.specs.declared.cmp.Ordering.{Ordering}
use Rattle.std.specs.declared.cmp.Ordering.TheVariants.{Less, Equal, Greater}
use Rattle.std.proofs.lemmas.Map.Lookups.{exact_bytes}
use Rattle.tcc_txn.specs.Finished.{with_transaction}
use Rattle.tcc_txn.specs.Snapshots.{Sessions}
use Rattle.tcc_txn.specs.Transactions.{Transaction}
use Rattle.tcc_txn.proofs.Growing.{both-parts, less-if}
use Rattle.tcc_txn.proofs.GrownSnapshot.{entries-with_transaction, grown}
use Rattle.tcc_txn.proofs.SessionEntries.{Named}
use Rattle.tcc_txn.proofs.SortedParts.{name_cmp}
use Rattle.tcc_reads.specs.Sites.{Stand, stands, stands_from, stands_in}

abbrev stand_at : ℕ → List ℕ → ℕ → Transaction → Stand
stand_at session name place txn = record { session = session; name = name; place = place; txn = txn }

in_push : (session : ℕ) (name : List ℕ) (place : ℕ) (txns : List Transaction) (txn : Transaction)
    → stands_in session name place (txns ++ txn ∷ []) ≡ stands_in session name place txns ++ stand_at session name (place + length txns) txn ∷ []
in_push session name place [] txn =
    let here : place ≡ place + 0 = omega arith in
    ap (λ (z : ℕ). stand_at session name z txn ∷ []) here
in_push session name place (t ∷ txns) txn =
    let next : place + 1 + length txns ≡ place + suc (length txns) = omega arith in
    ap (λ (z : List Stand). stand_at session name place t ∷ z)
    (in_push session name (place + 1) txns txn ∙ ap (λ (z : ℕ). stands_in session name (place + 1) txns ++ stand_at session name z txn ∷ []) next)

module _ (name : List ℕ) (txn : Transaction) where
  -- the name is below none of the parts'
  abbrev pub IsUpTo : List Named → Type 0
  IsUpTo es = (e : Named) → Contains es e → name_cmp name e.0 ≡ Less → ⊥

  -- one more transaction is at the end
  pub record IsGrown (session : ℕ) (es : List Named) : Type 0 where
    pub last : Stand
    pub name_is : last.name ≡ name
    pub txn_is : last.txn ≡ txn
    pub more : stands_from session (grown name txn es) ≡ stands_from session es ++ last ∷ []

  -- the parts with the transaction, by how the name compares with the first of them
  abbrev value_by : Named → List Named → Ordering → List Transaction
  value_by e es r = unwrap_or (cond (is_eq r) (Some e.1) (find name_cmp name es)) [] ++ txn ∷ []

  abbrev grown_by : Named → List Named → Ordering → List Named
  grown_by e es r = by_order r ((name, value_by e es r) ∷ e ∷ es) ((e.0, value_by e es r) ∷ es) (e ∷ put name_cmp name (value_by e es r) es)

  at_last : (session : ℕ) (e : Named) → name ≡ e.0 → name_cmp name e.0 ≡ Equal → IsGrown session (e ∷ [])
  at_last session e same tie = record {
    last = stand_at session e.0 (1 + length e.1) txn;
    name_is = sym same;
    txn_is = refl;
    more = ap (λ (r : Ordering). stands_from session (grown_by e [] r)) tie
        ∙ (append-nil (stands_in session e.0 1 (e.1 ++ txn ∷ [])) ∙ in_push session e.0 1 e.1 txn
        ∙ ap (λ (z : List Stand). z ++ stand_at session e.0 (1 + length e.1) txn ∷ []) (sym (append-nil (stands_in session e.0 1 e.1))));
  }

  only_last : (session : ℕ) (e : Named) (es : List Named) → name_cmp name e.0 ≡ Equal → T (below_all name_cmp e.0 es)
      → ((f : Named) → Contains es f → name_cmp name f.0 ≡ Less → ⊥) → IsGrown session (e ∷ es)
  only_last session e [] tie below upto = at_last session e (exact_bytes name e.0 tie) tie
  only_last session e (f ∷ es) tie below upto =
      let less : name_cmp e.0 f.0 ≡ Less = less-if (name_cmp e.0 f.0) (both-parts (is_lt (name_cmp e.0 f.0)) (below_all name_cmp e.0 es) below).0 in
      absurd (upto f (0, omega arith, refl) (ap (λ (z : List ℕ). name_cmp z f.0) (exact_bytes name e.0 tie) ∙ less))

  pub grown_last : (session : ℕ) (es : List Named) → T (is_sorted name_cmp es) → IsUpTo es → IsGrown session es
  grown_last session [] sorted upto = record { last = stand_at session name 1 txn; name_is = refl; txn_is = refl; more = refl }
  grown_last session (e ∷ es) sorted upto = go (name_cmp name e.0) refl (grown_last (session + 1) es parts.1 rest)
    where
      parts : T (below_all name_cmp e.0 es) × T (is_sorted name_cmp es)
      parts = both-parts (below_all name_cmp e.0 es) (is_sorted name_cmp es) sorted

      rest : IsUpTo es
      rest f (i, inside, at) = upto f (suc i, omega (arith, inside), at)

      go : (r : Ordering) → name_cmp name e.0 ≡ r → IsGrown (session + 1) es → IsGrown session (e ∷ es)
      go Less is w = absurd (upto e (0, omega arith, refl) is)
      go Equal is w = only_last session e es is parts.0 rest
      go Greater is w = record {
        last = w.last;
        name_is = w.name_is;
        txn_is = w.txn_is;
        more = ap (λ (r : Ordering). stands_from session (grown_by e es r)) is
            ∙ (ap (λ (z : List Stand). stands_in session e.0 1 e.1 ++ z) w.more
            ∙ sym (append_assoc (stands_in session e.0 1 e.1) (stands_from (session + 1) es) (w.last ∷ [])));
      }

  -- ---- the names

  abbrev IsOfNames : List Named → Named → Type 0
  IsOfNames es e = ((f : Named) × Contains es f × (f.0 ≡ e.0)) ⊎ (e.0 ≡ name)

  put_names : (v : List Transaction) (es : List Named) (e : Named) → Contains (put name_cmp name v es) e → IsOfNames es e
  put_names v [] e (zero, l, at) = inr (sym (ap (λ (z : Named). z.0) at))
  put_names v [] e (suc i, l, at) = absurd (omega (arith, l))
  put_names v (f ∷ es) e there = go (name_cmp name f.0) there (λ c. put_names v es e c)
    where
      later : IsOfNames es e → IsOfNames (f ∷ es) e
      later (inl (g, (i, l, at), same)) = inl (g, (suc i, omega (arith, l), at), same)
      later (inr same) = inr same

      go : (r : Ordering) → Contains (by_order r ((name, v) ∷ f ∷ es) ((f.0, v) ∷ es) (f ∷ put name_cmp name v es)) e
          → (Contains (put name_cmp name v es) e → IsOfNames es e) → IsOfNames (f ∷ es) e
      go Less (zero, l, at) more = inr (sym (ap (λ (z : Named). z.0) at))
      go Less (suc i, l, at) more = inl (e, (i, omega (arith, l), at), refl)
      go Equal (zero, l, at) more = inl (f, (0, omega arith, refl), ap (λ (z : Named). z.0) at)
      go Equal (suc i, l, at) more = inl (e, (suc i, omega (arith, l), at), refl)
      go Greater (zero, l, at) more = inl (f, (0, omega arith, refl), ap (λ (z : Named). z.0) at)
      go Greater (suc i, l, at) more = later (more (i, omega (arith, l), at))

module _ (s : Sessions) (name : List ℕ) (txn : Transaction) where
  pub one_more : IsUpTo name txn (entries s)
      → (last : Stand) × (last.name ≡ name) × (last.txn ≡ txn) × (stands (with_transaction s name txn) ≡ stands s ++ last ∷ [])
  one_more upto =
      let w = grown_last name txn 0 (entries s) (entries_sorted s) upto in
      (w.last, w.name_is, w.txn_is, ap (stands_from 0) (entries-with_transaction s name txn) ∙ w.more)

  pub names_more : (e : Named) → Contains (entries (with_transaction s name txn)) e → IsOfNames name txn (entries s) e
  names_more e there =
      put_names name txn (unwrap_or (find name_cmp name (entries s)) [] ++ txn ∷ []) (entries s) e
      (subst (λ (z : List Named). Contains z e) (entries-with_transaction s name txn) there)
