-- Which keys a transaction writes, by the values that it writes visibly.
use Rattle.std.proofs.Common.{ℕ, zero, suc, ◌≡◌, ◌⊎◌, inl, inr, Bool, true, false, cond, List, [], ◌∷◌, filter_map, Option, None, Some, refl, ap, ◌∙◌, arith}
use Rattle.std.specs.List.{Contains}
use Rattle.std.specs.Option.{option_or, option_eq}
use Rattle.std.specs.Str.{bytes_eq}
use Rattle.std.specs.Prelude.{◌==◌}
use Rattle.std.proofs.lemmas.Bool.{false≢true, eqb-true, eq-eqb, cases_Bool}
use Rattle.tcc_txn.specs.declared.op.Op.{Op}
use Rattle.tcc_txn.specs.declared.op.Op.TheVariants.{Get, Put}
use Rattle.tcc_reads.specs.Sites.{Stand}
use Rattle.tcc_reads.specs.Sources.{visible_write, value_put, key_put, shows, writes_of, name_cmp}
use Rattle.tcc_reads.specs.private.Sorting.{TellsApart}
use Rattle.tcc_reads.proofs.Ties.{same_name, itself}
use Rattle.tcc_graph.specs.Keys.{has_name}
use Rattle.tcc_graph.proofs.NameLemmas.{has_name-contains, contains-has_name}
use Rattle.std.proofs.lemmas.Map.Lookups.{exact_bytes}
use Rattle.tcc_slices.proofs.Elements.{after, once_from, once_in}

-- ---- a key that is written has a visible value

abbrev HasValue : List ℕ → List Op → Type 0
HasValue x ops = (v : ℕ) × (visible_write x ops ≡ Some v)

either : (o p : Option ℕ) (v : ℕ) → p ≡ Some v → (w : ℕ) × (option_or o p ≡ Some w)
either None p v is = (v, is)
either (Some w) p v is = (w, refl)

earlier : (o p : Option ℕ) (v : ℕ) → o ≡ Some v → option_or o p ≡ Some v
earlier o p v is = ap (λ (z : Option ℕ). option_or z p) is

put_here : (x key : List ℕ) (value : ℕ) → key ≡ x → value_put x (Put key value) ≡ Some value
put_here x key value is = ap (λ (b : Bool). cond b (Some value) None) (ap (λ (z : List ℕ). bytes_eq z x) is ∙ itself x)

valued : (x : List ℕ) (ops : List Op) → Contains (filter_map key_put ops) x → HasValue x ops
valued x [] (i, l, e) = absurd (omega arith)
valued x (Get key value ∷ later) c =
    let w = valued x later c in
    (w.0, earlier (visible_write x later) None w.0 w.1)
valued x (Put key value ∷ later) (zero, l, e) =
    either (visible_write x later) (value_put x (Put key value)) value (put_here x key value e)
valued x (Put key value ∷ later) (suc i, l, e) =
    let w = valued x later (i, omega arith, e) in
    (w.0, earlier (visible_write x later) (value_put x (Put key value)) w.0 w.1)

-- ---- and what has a visible value is written

abbrev Keys : List Op → List (List ℕ)
Keys ops = filter_map key_put ops

only_later : (o : Option ℕ) (v : ℕ) → option_or o None ≡ Some v → o ≡ Some v
only_later None v is = is
only_later (Some w) v is = is

put : (x : List ℕ) (ops : List Op) (v : ℕ) → visible_write x ops ≡ Some v → Contains (Keys ops) x
put x [] v is = cc
put x (Get key value ∷ later) v is = put x later v (only_later (visible_write x later) v is)
put x (Put key value ∷ later) v is = go (visible_write x later) refl (cases_Bool (bytes_eq key x)) is (λ w there. put x later w there)
  where
    go : (o : Option ℕ) → visible_write x later ≡ o → (bytes_eq key x ≡ true) ⊎ (bytes_eq key x ≡ false)
        → option_or o (value_put x (Put key value)) ≡ Some v
        → ((w : ℕ) → visible_write x later ≡ Some w → Contains (Keys later) x) → Contains (key ∷ Keys later) x
    go (Some w) there same shown rest = after key x (Keys later) (rest w there)
    go None none (inl same) shown rest = (0, omega arith, same_name key x same)
    go None none (inr other) shown rest =
        let not_put : value_put x (Put key value) ≡ None = ap (λ (b : Bool). cond b (Some value) None) other in
        cc

-- ---- as the graph sees it

pub written_value : (t : Stand) (x : List ℕ) → has_name (writes_of t) x ≡ true → HasValue x t.txn.ops
written_value t x here =
    valued x t.txn.ops (once_from name_cmp (Keys t.txn.ops) x (has_name-contains (writes_of t) x here))

names_apart : TellsApart name_cmp
names_apart x y tie = exact_bytes x y tie

pub value_written : (t : Stand) (x : List ℕ) (v : ℕ) → visible_write x t.txn.ops ≡ Some v → has_name (writes_of t) x ≡ true
value_written t x v is =
    contains-has_name (writes_of t) x (once_in name_cmp names_apart (Keys t.txn.ops) x (put x t.txn.ops v is))

-- ---- what is shown

shown_value : (o : Option ℕ) (v : ℕ) → option_eq ◌==◌ o (Some v) ≡ true → o ≡ Some v
shown_value None v here = absurd (false≢true here)
shown_value (Some w) v here = ap Some (eqb-true w v here)

pub shown : (x : List ℕ) (v : ℕ) (t : Stand) → shows x v t ≡ true → visible_write x t.txn.ops ≡ Some v
shown x v t here = shown_value (visible_write x t.txn.ops) v here

pub shows_it : (x : List ℕ) (v : ℕ) (t : Stand) → visible_write x t.txn.ops ≡ Some v → shows x v t ≡ true
shows_it x v t is = ap (λ (o : Option ℕ). option_eq ◌==◌ o (Some v)) is ∙ eq-eqb v v refl
