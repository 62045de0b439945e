-- What is found among operations, from one to the next.
use Rattle.std.proofs.Common.{◌≡◌, ◌<◌, ◌+◌, ℕ, zero, suc, Bool, true, false, cond, List, [], ◌∷◌, length, drop, Option, None, Some, refl, sym, ap, ◌∙◌, arith}
use Rattle.std.specs.Option.{option_or}
use Rattle.std.specs.Prelude.{slice_get}
use Rattle.std.proofs.lemmas.List.{at_drop_more}
use Rattle.std.proofs.lemmas.Option.{get_or_from_slice_get, slice_get_within}
use Rattle.tcc_txn.specs.declared.op.Op.{Op}
use Rattle.tcc_reads.specs.Sources.{puts_at, value_put, visible_write}
use Rattle.tcc_graph.specs.Operations.{first_reading_from, last_write_from, reads_value}

-- a list from an index on begins with the operation there
begins : {Y : Type 0} (F : List Op → Y) (ops : List Op) (i : ℕ) (op : Op) → slice_get ops i ≡ Some op → F (drop i ops) ≡ F (op ∷ drop (i + 1) ops)
begins F ops i op at =
    at_drop_more F ops i op (slice_get_within ops i op at) ∙ ap (λ o. F (o ∷ drop (i + 1) ops)) (get_or_from_slice_get ops i op op at)

-- there is an operation at an index below the length
pub none_past : (ops : List Op) (i : ℕ) → slice_get ops i ≡ None → i < length ops → ⊥
none_past [] i none inside = absurd (omega (arith, inside))
none_past (op ∷ ops) zero none inside = absurd (cc none)
none_past (op ∷ ops) (suc i) none inside = none_past ops i none (omega (arith, inside))

or_joined : (a b c : Option ℕ) → option_or (option_or a b) c ≡ option_or a (option_or b c)
or_joined None b c = refl
or_joined (Some k) b c = refl

-- ---- the last write

module _ (x : List ℕ) (ops : List Op) (i : ℕ) (op : Op) (last total : Option ℕ) (at : slice_get ops i ≡ Some op)
    (before : option_or (last_write_from i x (drop i ops)) last ≡ total) where
  one_more : (b : Bool) → puts_at x op ≡ b → option_or (last_write_from (i + 1) x (drop (i + 1) ops)) (option_or (cond b (Some i) None) last) ≡ total
  one_more b puts =
      sym (or_joined (last_write_from (i + 1) x (drop (i + 1) ops)) (cond b (Some i) None) last)
      ∙ ap (λ p. option_or (option_or (last_write_from (i + 1) x (drop (i + 1) ops)) (cond p (Some i) None)) last) (sym puts)
      ∙ ap (λ found. option_or found last) (sym (begins (last_write_from i x) ops i op at)) ∙ before

  -- the operation writes the key
  pub put_here : (next : Option ℕ) → next ≡ Some i → puts_at x op ≡ true → option_or (last_write_from (i + 1) x (drop (i + 1) ops)) next ≡ total
  put_here next is puts = ap (option_or (last_write_from (i + 1) x (drop (i + 1) ops))) is ∙ one_more true puts

  -- it doesn't
  pub put_elsewhere : (next : Option ℕ) → next ≡ last → puts_at x op ≡ false → option_or (last_write_from (i + 1) x (drop (i + 1) ops)) next ≡ total
  put_elsewhere next is puts = ap (option_or (last_write_from (i + 1) x (drop (i + 1) ops))) is ∙ one_more false puts

-- ---- the visible write

pub seen_more : (x : List ℕ) (ops : List Op) (i : ℕ) (op : Op) (last next total : Option ℕ) → slice_get ops i ≡ Some op
    → option_or (visible_write x (drop i ops)) last ≡ total → next ≡ option_or (value_put x op) last
    → option_or (visible_write x (drop (i + 1) ops)) next ≡ total
seen_more x ops i op last next total at before is =
    ap (option_or (visible_write x (drop (i + 1) ops))) is
    ∙ sym (or_joined (visible_write x (drop (i + 1) ops)) (value_put x op) last)
    ∙ ap (λ found. option_or found last) (sym (begins (visible_write x) ops i op at)) ∙ before

-- ---- the first reading

pub reads_here : (x : List ℕ) (v : ℕ) (ops : List Op) (i : ℕ) (op : Op) → slice_get ops i ≡ Some op → reads_value x v op ≡ true
    → Some i ≡ first_reading_from i x v (drop i ops)
reads_here x v ops i op at reads =
    sym (begins (first_reading_from i x v) ops i op at ∙ ap (λ b. cond b (Some i) (first_reading_from (i + 1) x v (drop (i + 1) ops))) reads)

pub reads_later : (x : List ℕ) (v : ℕ) (ops : List Op) (i : ℕ) (op : Op) → slice_get ops i ≡ Some op → reads_value x v op ≡ false
    → first_reading_from (i + 1) x v (drop (i + 1) ops) ≡ first_reading_from i x v (drop i ops)
reads_later x v ops i op at other =
    sym (begins (first_reading_from i x v) ops i op at ∙ ap (λ b. cond b (Some i) (first_reading_from (i + 1) x v (drop (i + 1) ops))) other)
