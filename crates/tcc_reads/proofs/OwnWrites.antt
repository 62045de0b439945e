-- Own writes by the indices of their keys.
use Rattle.std.proofs.Common.{◌≡◌, ℕ, zero, suc, ◌<◌, ◌-◌, ◌+◌, arith, cond, List, [], ◌∷◌, length, take, get_or, map, None, Some, refl, ap, sym, ◌∙◌}
use Rattle.std.proofs.lemmas.Bool.{ne_eqb}
use Rattle.std.specs.Prelude.{◌==◌}
use Rattle.std.specs.Cmp.{unsigned_tied}
use Rattle.std.specs.Cmp.Lexicographic.{texts_ties}
use Rattle.std.specs.List.Sorted.{IsStrictlySortedBy}
use Rattle.std.specs.Option.{option_or}
use Rattle.std.specs.Ordering.{is_eq}
use Rattle.std.specs.Str.{bytes_eq}
use Rattle.tcc_txn.specs.KeyNumbers.{AreNumbers, name_at}
use Rattle.tcc_txn.specs.Symbols.{IsNumber}
use Rattle.tcc_txn.specs.Transactions.{op_key}
use Rattle.tcc_txn.specs.declared.op.Op.{Op}
use Rattle.tcc_txn.specs.declared.op.Op.TheVariants.{Get, Put}
use Rattle.tcc_reads.specs.Sources.{name_cmp, value_put, visible_write}
use Rattle.tcc_reads.proofs.ByIndex.{names_alike}
use Rattle.tcc_reads.proofs.KeyNumbers.{number_of}
use Rattle.tcc_reads.proofs.Tables.{latest_write}
use Rattle.tcc_reads.proofs.Ties.{numbers_same}

any_default : (ops : List Op) (i : ℕ) (d : Op) → i < length ops → get_or ops i d ≡ get_or ops i (get_or ops i d)
any_default [] i d inside = absurd (omega (arith, inside))
any_default (op ∷ ops) zero d inside = refl
any_default (op ∷ ops) (suc i) d inside = any_default ops i d (omega (arith, inside))

module _ (keys : List (List ℕ)) (sorted : IsStrictlySortedBy name_cmp keys) where
  -- names at indices are the same exactly if the indices are
  same_at : (i j : ℕ) → i < length keys → j < length keys → bytes_eq (name_at keys i) (name_at keys j) ≡ (i == j)
  same_at i j h k = texts_ties (name_at keys i) (name_at keys j) ∙ ap is_eq (names_alike keys sorted i j h k) ∙ unsigned_tied i j

  -- what a write of the key of an index writes at that of another
  put_at : (key : List ℕ) (value i j : ℕ) → IsNumber keys key i → j < length keys → value_put (name_at keys j) (Put key value) ≡ cond (i == j) (Some value) None
  put_at key value i j number within =
      ap (λ name. cond (bytes_eq name (name_at keys j)) (Some value) None) (sym number.named) ∙ ap (λ b. cond b (Some value) None) (same_at i j number.within within)

  module _ (ops : List Op) (indices : List ℕ) (numbers : AreNumbers keys indices (map op_key ops)) (j left e : ℕ) (within : j < length keys)
      (inside : left < length ops) where
    -- an operation that doesn't write the key
    module _ (op : Op) (is : op ≡ get_or ops (length ops - 1 - left) op) where
      number : IsNumber keys (op_key op) (get_or indices (length ops - 1 - left) e)
      number = number_of keys indices ops numbers (length ops - 1 - left) e op (omega arith) is

      here : visible_write (name_at keys j) (take (length ops - left) ops)
          ≡ option_or (value_put (name_at keys j) op) (visible_write (name_at keys j) (take (length ops - (left + 1)) ops))
      here = latest_write (name_at keys j) ops left op op inside (sym is)

    pub passes_read : (key : List ℕ) (value : ℕ) → Get key value ≡ get_or ops (length ops - 1 - left) (Get key value)
        → visible_write (name_at keys j) (take (length ops - left) ops) ≡ visible_write (name_at keys j) (take (length ops - (left + 1)) ops)
    passes_read key value is = here (Get key value) is

    -- one of another key
    pub passes_other : (get_or indices (length ops - 1 - left) e ≡ j → ⊥)
        → visible_write (name_at keys j) (take (length ops - left) ops) ≡ visible_write (name_at keys j) (take (length ops - (left + 1)) ops)
    passes_other other = by (get_or ops (length ops - 1 - left) (Get [] 0)) (any_default ops (length ops - 1 - left) (Get [] 0) (omega arith))
      where
        by : (op : Op) → op ≡ get_or ops (length ops - 1 - left) op
            → visible_write (name_at keys j) (take (length ops - left) ops) ≡ visible_write (name_at keys j) (take (length ops - (left + 1)) ops)
        by (Get key value) is = passes_read key value is
        by (Put key value) is =
            here (Put key value) is
            ∙ ap (λ o. option_or o (visible_write (name_at keys j) (take (length ops - (left + 1)) ops)))
            (put_at key value (get_or indices (length ops - 1 - left) e) j (number (Put key value) is) within ∙ ap (λ b. cond b (Some value) None) (ne_eqb (get_or indices (length ops - 1 - left) e) j other))

    -- a write of the key
    pub finds : (key : List ℕ) (value : ℕ) → Put key value ≡ get_or ops (length ops - 1 - left) (Put key value) → get_or indices (length ops - 1 - left) e ≡ j
        → visible_write (name_at keys j) (take (length ops - left) ops) ≡ Some value
    finds key value is same_key =
        here (Put key value) is
        ∙ ap (λ o. option_or o (visible_write (name_at keys j) (take (length ops - (left + 1)) ops)))
        (put_at key value (get_or indices (length ops - 1 - left) e) j (number (Put key value) is) within
        ∙ ap (λ b. cond b (Some value) None) (ap (λ k. k == j) same_key ∙ numbers_same j))
