-- The writes among the operations of a transaction make one too, and a transaction that reads nothing shows nothing.
use Rattle.std.proofs.Common.{ℕ, ◌≡◌, ◌≤◌, ◌+◌, Bool, true, false, cond, List, [], ◌∷◌, length, refl, sym, ap, ◌∙◌, arith}
use Rattle.std.specs.Prelude.{nat_lt, MatchResult, Option, Some, None, Result, Ok, Err}
use Rattle.std.specs.Result.{IsOk}
use Rattle.std.specs.List.{list_any, position, position_from}
use Rattle.std.specs.Option.{option_map_or}
use Rattle.std.proofs.lemmas.Bool.{le-ltb, ltb-false}
use Rattle.std.proofs.lemmas.Iterator.Adapters.{position_from-zero}
use Rattle.tcc_txn.specs.Transactions.{txn_fault, writes_zero}
use Rattle.tcc_txn.specs.declared.limits.TheConstants.{MAX_OPERATIONS}
use Rattle.tcc_txn.specs.declared.op.Op.{Op}
use Rattle.tcc_txn.specs.declared.op.Op.TheVariants.{Get, Put}
use Rattle.tcc_txn.specs.declared.txn.TxnFault.{TxnFault}
use Rattle.tcc_txn.specs.declared.txn.TxnFault.TheVariants.{WriteOfZero, TooManyOps}
use Rattle.tcc_rows.specs.Past.{is_write, writes_of}
use Rattle.tcc_rows.specs.Settling.{gets}

-- what occurs nowhere in a list occurs nowhere in a part of it
nowhere-kept : (test : Op → Bool) (m n : ℕ) (ops : List Op) → position_from test m ops ≡ None → position_from test n (writes_of ops) ≡ None
nowhere-kept test m n [] none = refl
nowhere-kept test m n (op ∷ ops) none = by (test op) (is_write op) refl refl none (λ k rest. nowhere-kept test (m + 1) k ops rest)
  where
    by : (a b : Bool) → test op ≡ a → is_write op ≡ b → cond a (Some m) (position_from test (m + 1) ops) ≡ None
        → ((k : ℕ) → position_from test (m + 1) ops ≡ None → position_from test k (writes_of ops) ≡ None)
        → position_from test n (cond b (op ∷ writes_of ops) (writes_of ops)) ≡ None
    by true b here is e rest = absurd cc
    by false true here is e rest = rw here (rest (n + 1) e)
    by false false here is e rest = rest n e

few-kept : (ops : List Op) → length (writes_of ops) ≤ length ops
few-kept [] = omega arith
few-kept (op ∷ ops) = by (is_write op) (few-kept ops)
  where
    by : (b : Bool) → length (writes_of ops) ≤ length ops → length (cond b (op ∷ writes_of ops) (writes_of ops)) ≤ length (op ∷ ops)
    by true few = omega (arith, few)
    by false few = omega (arith, few)

no_fault : (o : Option ℕ) (b : Bool) → option_map_or (λ i. Some (WriteOfZero (i + 1))) o (cond b (Some TooManyOps) None) ≡ None → (o ≡ None) × (b ≡ false)
no_fault None true e = absurd cc
no_fault None false e = (refl, refl)
no_fault (Some i) b e = absurd cc

-- the fault of operations, by whether one of them writes 0, and where, and whether they are too many
abbrev fault_by : Option ℕ → Bool → Option TxnFault
fault_by o b = option_map_or (λ i. Some (WriteOfZero (i + 1))) o (cond b (Some TooManyOps) None)

pub writes-lawful : (ops : List Op) → txn_fault ops ≡ None → txn_fault (writes_of ops) ≡ None
writes-lawful ops lawful =
    let parts = no_fault (position_from writes_zero 0 ops) (nat_lt MAX_OPERATIONS (length ops))
    (ap (λ (o : Option ℕ). fault_by o (nat_lt MAX_OPERATIONS (length ops))) (sym (position_from-zero writes_zero ops)) ∙ lawful) in
    let none : position writes_zero (writes_of ops) ≡ None
    = position_from-zero writes_zero (writes_of ops) ∙ nowhere-kept writes_zero 0 0 ops parts.0 in
    let few : nat_lt MAX_OPERATIONS (length (writes_of ops)) ≡ false
    = le-ltb MAX_OPERATIONS (length (writes_of ops)) (omega (arith, few-kept ops, ltb-false MAX_OPERATIONS (length ops) parts.1)) in
    ap (λ (o : Option ℕ). fault_by o (nat_lt MAX_OPERATIONS (length (writes_of ops)))) none ∙ ap (fault_by None) few

-- writes read nothing
pub writes-silent : (written : List ℕ × ℕ) (ops : List Op) → list_any (gets written) (writes_of ops) ≡ false
writes-silent written [] = refl
writes-silent written (Get key value ∷ ops) = writes-silent written ops
writes-silent written (Put key value ∷ ops) = writes-silent written ops

-- lawful operations are taken
pub made : {A E : Type 0} (P : A → Type 0) (Q : E → Type 0) (fault : Option TxnFault) (r : Result A E)
    → MatchResult r P Q → ((e : E) → Q e → fault ≡ None → ⊥) → fault ≡ None → IsOk r
made P Q fault (Ok a) is refused none = refl
made P Q fault (Err e) is refused none = absurd (refused e is none)

pub no_none : {X : Type 0} {x : X} → None ≡ Some x → ⊥
no_none e = cc e
