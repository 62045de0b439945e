-- What is kept of a lawful transaction's operations is lawful.
use Rattle.std.proofs.Common.{ℕ, zero, suc, ◌≡◌, ◌≤◌, ◌+◌, ◌++◌, Bool, true, false, cond, List, [], ◌∷◌, length, get_or, refl, sym, ap, subst, ◌∙◌, arith}
use Rattle.std.specs.Prelude.{All, nat_lt, Option, Some, None}
use Rattle.std.specs.List.{Contains, position, position_from}
use Rattle.std.specs.Option.{option_map_or}
use Rattle.std.proofs.lemmas.Bool.{le-ltb, ltb-false}
use Rattle.std.proofs.lemmas.List.Elements.{All-cons, All-head, All-nil, All-tail, Contains-get_or}
use Rattle.std.proofs.lemmas.Iterator.Adapters.{position_from-zero}
use Rattle.tcc_txn.specs.Transactions.{txn_fault, writes_zero}
use Rattle.tcc_txn.specs.declared.limits.TheConstants.{MAX_OPERATIONS}
use Rattle.tcc_txn.specs.declared.op.Op.{Op}
use Rattle.tcc_txn.specs.declared.txn.TxnFault.{TxnFault}
use Rattle.tcc_txn.specs.declared.txn.TxnFault.TheVariants.{WriteOfZero, TooManyOps}
use Rattle.tcc_slices.specs.private.Cutting.{kept_behind}

module _ {X : Type 0} (p : X → Bool) where
  nowhere : (n : ℕ) (xs : List X) → position_from p n xs ≡ None → All (λ x. p x ≡ false) xs
  nowhere n [] none = All-nil (λ (z : X). p z ≡ false)
  nowhere n (x ∷ xs) none = go (p x) refl none (λ rest. nowhere (n + 1) xs rest)
    where
      go : (b : Bool) → p x ≡ b → cond b (Some n) (position_from p (n + 1) xs) ≡ None
          → (position_from p (n + 1) xs ≡ None → All (λ z. p z ≡ false) xs) → All (λ z. p z ≡ false) (x ∷ xs)
      go true is e rest = absurd cc
      go false is e rest = All-cons (λ (z : X). p z ≡ false) x xs is (rest e)

  none_at : (n : ℕ) (xs : List X) → All (λ x. p x ≡ false) xs → position_from p n xs ≡ None
  none_at n [] all = refl
  none_at n (x ∷ xs) all =
      ap (λ (b : Bool). cond b (Some n) (position_from p (n + 1) xs)) (All-head (λ (z : X). p z ≡ false) x xs all)
      ∙ none_at (n + 1) xs (All-tail (λ (z : X). p z ≡ false) x xs all)

module _ (keep : List Op → Op → Bool) where
  pub kept_from : (before ops : List Op) (op : Op) → Contains (kept_behind keep before ops) op → Contains ops op
  kept_from before [] op (k, l, e) = absurd (omega (arith, l))
  kept_from before (first ∷ ops) op there = go (keep before first) there (λ rest. kept_from (before ++ first ∷ []) ops op rest)
    where
      later : Contains ops op → Contains (first ∷ ops) op
      later (k, l, e) = (suc k, omega (arith, l), e)

      go : (b : Bool) → Contains (cond b (first ∷ kept_behind keep (before ++ first ∷ []) ops) (kept_behind keep (before ++ first ∷ []) ops)) op
          → (Contains (kept_behind keep (before ++ first ∷ []) ops) op → Contains ops op) → Contains (first ∷ ops) op
      go true (zero, l, e) rest = (0, omega arith, e)
      go true (suc k, l, e) rest = later (rest (k, omega (arith, l), e))
      go false c rest = later (rest c)

  kept_few : (before ops : List Op) → length (kept_behind keep before ops) ≤ length ops
  kept_few before [] = omega arith
  kept_few before (first ∷ ops) = go (keep before first) (kept_few (before ++ first ∷ []) ops)
    where
      go : (b : Bool) → length (kept_behind keep (before ++ first ∷ []) ops) ≤ length ops
          → length (cond b (first ∷ kept_behind keep (before ++ first ∷ []) ops) (kept_behind keep (before ++ first ∷ []) ops)) ≤ length (first ∷ ops)
      go true few = omega (arith, few)
      go false few = omega (arith, few)

no_fault : (o : Option ℕ) (b : Bool) → option_map_or (λ i. Some (WriteOfZero (i + 1))) o (cond b (Some TooManyOps) None) ≡ None → (o ≡ None) × (b ≡ false)
no_fault None true e = absurd cc
no_fault None false e = (refl, refl)
no_fault (Some i) b e = absurd cc

-- the fault of operations, by where one of them writes 0 and whether they are too many
abbrev fault_by : Option ℕ → Bool → Option TxnFault
fault_by o b = option_map_or (λ i. Some (WriteOfZero (i + 1))) o (cond b (Some TooManyOps) None)

pub lawful_kept : (keep : List Op → Op → Bool) (ops : List Op) → txn_fault ops ≡ None → txn_fault (kept_behind keep [] ops) ≡ None
lawful_kept keep ops lawful =
    let parts = no_fault (position_from writes_zero 0 ops) (nat_lt MAX_OPERATIONS (length ops))
    (ap (λ (o : Option ℕ). fault_by o (nat_lt MAX_OPERATIONS (length ops))) (sym (position_from-zero writes_zero ops)) ∙ lawful) in
    let each = nowhere writes_zero 0 ops parts.0 in
    let kept : List Op = kept_behind keep [] ops in
    let none : position writes_zero kept ≡ None
    = position_from-zero writes_zero kept
    ∙ none_at writes_zero 0 kept (λ k d inside. go (get_or kept k d) (kept_from keep [] ops (get_or kept k d) (Contains-get_or kept k d inside)) each) in
    let few : nat_lt MAX_OPERATIONS (length kept) ≡ false
    = le-ltb MAX_OPERATIONS (length kept) (omega (arith, kept_few keep [] ops, ltb-false MAX_OPERATIONS (length ops) parts.1)) in
    ap (λ (o : Option ℕ). fault_by o (nat_lt MAX_OPERATIONS (length kept))) none ∙ ap (fault_by None) few
  where
    go : (op : Op) → Contains ops op → All (λ x. writes_zero x ≡ false) ops → writes_zero op ≡ false
    go op (k, inside, e) all = subst (λ (z : Op). writes_zero z ≡ false) e (all k op inside)
