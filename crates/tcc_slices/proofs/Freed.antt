-- What is kept of operations, as others see it: external reads stay external, and what is written visibly stays so.
use Rattle.std.proofs.Common.{ℕ, zero, suc, ◌≡◌, ◌++◌, ◌⊎◌, inl, inr, Bool, true, false, cond, List, [], ◌∷◌, filter_map, refl, sym, ap, subst, ◌∙◌, arith}
use Rattle.std.specs.Prelude.{Option, Some, None, is_none}
use Rattle.std.specs.List.{Contains, cons_option}
use Rattle.std.specs.Option.{option_or}
use Rattle.std.specs.Str.{bytes_eq}
use Rattle.std.proofs.lemmas.Bool.{cases_Bool, false≢true}
use Rattle.std.proofs.lemmas.List.Elements.{Contains-push_cases}
use Rattle.tcc_txn.specs.declared.op.Op.{Op}
use Rattle.tcc_txn.specs.declared.op.Op.TheVariants.{Get, Put}
use Rattle.tcc_reads.specs.Sites.{Stand, Site, sites_from}
use Rattle.tcc_reads.specs.Sources.{external_part, external_read, value_put, visible_write}
use Rattle.tcc_reads.proofs.Ties.{itself, same_name}
use Rattle.tcc_slices.specs.private.Cutting.{kept_behind, same_op}
use Rattle.tcc_slices.proofs.Keeping.{itself_op, same_is, visible_push}

-- ---- no more is visible
-- what isn't written in the one isn't in the other
abbrev pub IsUnder : List Op → List Op → Type 0
IsUnder before other = (x : List ℕ) → visible_write x before ≡ None → visible_write x other ≡ None

some_none : (v : ℕ) → Some v ≡ None → ⊥
some_none v e = cc

or_none : (a b : Option ℕ) → option_or a b ≡ None → (a ≡ None) × (b ≡ None)
or_none None b e = (refl, e)
or_none (Some v) b e = absurd cc

under_both : (before other : List Op) (op : Op) → IsUnder before other → IsUnder (before ++ op ∷ []) (other ++ op ∷ [])
under_both before other op under x none =
    let w = or_none (value_put x op) (visible_write x before) (sym (visible_push x before op) ∙ none) in
    visible_push x other op ∙ (λ i. option_or (w.0 i) (under x w.1 i))

under_one : (before other : List Op) (op : Op) → IsUnder before other → IsUnder (before ++ op ∷ []) other
under_one before other op under x none =
    under x (or_none (value_put x op) (visible_write x before) (sym (visible_push x before op) ∙ none)).1

-- ---- sites of what is kept
module _ (keep : List Op → Op → Bool) where
  -- a site among others whose operation passed there, and after which what is kept has no more before it
  pub record IsFrom (whole : Stand) (before ops : List Op) (site : Site) : Type 0 where
    pub origin : Site
    pub there : Contains (sites_from whole before ops) origin
    pub op : origin.op ≡ site.op
    pub passes : keep origin.before origin.op ≡ true
    pub under : IsUnder origin.before site.before

  pub kept_site : (whole stand : Stand) (before other ops : List Op) (site : Site) → IsUnder before other
      → Contains (sites_from stand other (kept_behind keep before ops)) site → IsFrom whole before ops site
  kept_site whole stand before other [] site under (k, l, e) = absurd (omega (arith, l))
  kept_site whole stand before other (op ∷ ops) site under there =
      go (keep before op) refl there (λ c. kept_site whole stand (before ++ op ∷ []) (other ++ op ∷ []) ops site (under_both before other op under) c)
      (λ c. kept_site whole stand (before ++ op ∷ []) other ops site (under_one before other op under) c)
    where
      rest : List Op
      rest = kept_behind keep (before ++ op ∷ []) ops

      later : IsFrom whole (before ++ op ∷ []) ops site → IsFrom whole before (op ∷ ops) site
      later w = record {
        origin = w.origin;
        there = (suc w.there.0, omega (arith, w.there.1), w.there.2);
        op = w.op;
        passes = w.passes;
        under = w.under;
      }

      go : (b : Bool) → keep before op ≡ b → Contains (sites_from stand other (cond b (op ∷ rest) rest)) site
          → (Contains (sites_from stand (other ++ op ∷ []) rest) site → IsFrom whole (before ++ op ∷ []) ops site)
          → (Contains (sites_from stand other rest) site → IsFrom whole (before ++ op ∷ []) ops site) → IsFrom whole before (op ∷ ops) site
      go true is (zero, l, e) one more = record {
        origin = record { stand = whole; before = before; op = op; after = ops };
        there = (0, omega arith, refl);
        op = ap (λ (z : Site). z.op) e;
        passes = is;
        under = subst (λ (z : List Op). IsUnder before z) (ap (λ (z : Site). z.before) e) under;
      }
      go true is (suc k, l, e) one more = later (one (k, omega (arith, l), e))
      go false is c one more = later (more c)

  -- what passes where it doesn't come before is kept
  pub kept_in : (before ops : List Op) (op : Op) → ((b : List Op) → (Contains b op → ⊥) → keep b op ≡ true) → (Contains before op → ⊥) → Contains ops op
      → Contains (kept_behind keep before ops) op
  kept_in before [] op passes new (k, l, e) = absurd (omega (arith, l))
  kept_in before (first ∷ ops) op passes new there =
      by (cases_Bool (same_op first op)) (λ other c. kept_in (before ++ first ∷ []) ops op passes (next other) c)
    where
      rest : List Op
      rest = kept_behind keep (before ++ first ∷ []) ops

      -- it doesn't come before the next one either
      next : (first ≡ op → ⊥) → Contains (before ++ first ∷ []) op → ⊥
      next other more = go (Contains-push_cases before first op more)
        where
          go : Contains before op ⊎ (first ≡ op) → ⊥
          go (inl c) = new c
          go (inr same) = other same

      behind : (first ≡ op → ⊥) → Contains (first ∷ ops) op → Contains ops op
      behind other (zero, l, e) = absurd (other e)
      behind other (suc k, l, e) = (k, omega (arith, l), e)

      later : Contains rest op → Contains (cond (keep before first) (first ∷ rest) rest) op
      later c = go (keep before first)
        where
          go : (b : Bool) → Contains (cond b (first ∷ rest) rest) op
          go true = (suc c.0, omega (arith, c.1), c.2)
          go false = c

      by : (same_op first op ≡ true) ⊎ (same_op first op ≡ false) → ((first ≡ op → ⊥) → Contains ops op → Contains rest op)
          → Contains (cond (keep before first) (first ∷ rest) rest) op
      by (inl same) more =
          let is : first ≡ op = same_is first op same in
          subst (λ (b : Bool). Contains (cond b (first ∷ rest) rest) op) (sym (ap (keep before) is ∙ passes before new)) (0, omega arith, is)
      by (inr other) more =
          let apart : first ≡ op → ⊥ = λ e. false≢true (sym other ∙ (ap (λ (z : Op). same_op z op) e ∙ itself_op op)) in
          later (more apart (behind apart there))

  -- an external read that passes where it is external, for the first time, is one of what is kept
  pub kept_read : (whole stand : Stand) (before other ops : List Op) (x : List ℕ) (v : ℕ) → IsUnder before other
      → ((b : List Op) → visible_write x b ≡ None → (Contains b (Get x v) → ⊥) → keep b (Get x v) ≡ true)
      → (visible_write x before ≡ None → Contains before (Get x v) → ⊥)
      → Contains (filter_map external_read (sites_from whole before ops)) (x, v)
      → Contains (filter_map external_read (sites_from stand other (kept_behind keep before ops))) (x, v)
  kept_read whole stand before other [] x v under passes new (k, l, e) = absurd (omega (arith, l))
  kept_read whole stand before other (op ∷ ops) x v under passes new there =
      start (cases_Bool (same_op op (Get x v))) (visible_write x before) refl
      (λ old. by (external_read (record { stand = whole; before = before; op = op; after = ops })) refl there
      (λ c. kept_read whole stand (before ++ op ∷ []) (other ++ op ∷ []) ops x v (under_both before other op under) passes (next old) c)
      (λ c. kept_read whole stand (before ++ op ∷ []) other ops x v (under_one before other op under) passes (next old) c))
    where
      rest : List Op
      rest = kept_behind keep (before ++ op ∷ []) ops

      Reads : List Site → Type 0
      Reads sites = Contains (filter_map external_read sites) (x, v)

      Whole : Type 0
      Whole = Contains (filter_map external_read (sites_from whole (before ++ op ∷ []) ops)) (x, v)

      Kept : Type 0
      Kept = Reads (sites_from stand other (cond (keep before op) (op ∷ rest) rest))

      -- where this one isn't the read, it doesn't come before the next one either
      next : (op ≡ Get x v → visible_write x before ≡ None → ⊥) → visible_write x (before ++ op ∷ []) ≡ None → Contains (before ++ op ∷ []) (Get x v) → ⊥
      next old none more = go (Contains-push_cases before op (Get x v) more)
        where
          free : visible_write x before ≡ None
          free = (or_none (value_put x op) (visible_write x before) (sym (visible_push x before op) ∙ none)).1

          go : Contains before (Get x v) ⊎ (op ≡ Get x v) → ⊥
          go (inl c) = new free c
          go (inr same) = old same free

      later : (o : Option (List ℕ × ℕ)) (reads : List (List ℕ × ℕ)) → Contains reads (x, v) → Contains (cons_option o reads) (x, v)
      later None reads c = c
      later (Some r) reads (k, l, e) = (suc k, omega (arith, l), e)

      -- the operation is another one, or kept or not: the read comes after it
      behind : Whole → (Whole → Reads (sites_from stand (other ++ op ∷ []) rest)) → (Whole → Reads (sites_from stand other rest))
          → Reads (sites_from stand other (cond (keep before op) (op ∷ rest) rest))
      behind c both one = go (keep before op)
        where
          go : (b : Bool) → Reads (sites_from stand other (cond b (op ∷ rest) rest))
          go true =
              later (external_read (record { stand = stand; before = other; op = op; after = rest }))
              (filter_map external_read (sites_from stand (other ++ op ∷ []) rest)) (both c)
          go false = one c

      -- the operation is the read, for the first time, and so it is kept
      found : op ≡ Get x v → visible_write x before ≡ None → Kept
      found read free =
          let is : keep before op ≡ true = ap (keep before) read ∙ passes before free (new free) in
          let external : external_read (record { stand = stand; before = other; op = op; after = rest }) ≡ Some (x, v)
          = ap (λ (z : Op). external_part z (λ y. visible_write y other)) read
          ∙ ap (λ (own : Option ℕ). cond {A = Option (List ℕ × ℕ)} (is_none own) (Some (x, v)) None) (under x free) in
          subst (λ (b : Bool). Reads (sites_from stand other (cond b (op ∷ rest) rest))) (sym is)
          (subst (λ (o : Option (List ℕ × ℕ)). Contains (cons_option o (filter_map external_read (sites_from stand (other ++ op ∷ []) rest))) (x, v)) (sym external)
          (0, omega arith, refl))

      -- it is the read, with nothing written before it, or it isn't
      start : (same_op op (Get x v) ≡ true) ⊎ (same_op op (Get x v) ≡ false) → (o : Option ℕ) → visible_write x before ≡ o
          → ((op ≡ Get x v → visible_write x before ≡ None → ⊥) → Kept) → Kept
      start (inl same) None free more = found (same_is op (Get x v) same) free
      start (inl same) (Some w) is more = more (λ read free. some_none w (sym is ∙ free))
      start (inr other) o is more = more (λ read free. false≢true (sym other ∙ (ap (λ (z : Op). same_op z (Get x v)) read ∙ itself_op (Get x v))))

      here : (o : Op) → op ≡ o → external_part o (λ y. visible_write y before) ≡ Some (x, v) → Reads (sites_from stand other (cond (keep before op) (op ∷ rest) rest))
      here (Put y w) same e = absurd cc
      here (Get y w) same e = split (visible_write y before) refl e
        where
          split : (own : Option ℕ) → visible_write y before ≡ own → cond {A = Option (List ℕ × ℕ)} (is_none own) (Some (y, w)) None ≡ Some (x, v)
              → Reads (sites_from stand other (cond (keep before op) (op ∷ rest) rest))
          split (Some u) own f = absurd cc
          split None own f =
              let pair : ◌≡◌ {A = List ℕ × ℕ} (y, w) (x, v) = cc in
              let read : op ≡ Get x v = same ∙ (λ i. Get (pair i).0 (pair i).1) in
              let free : visible_write x before ≡ None = ap (λ (z : List ℕ). visible_write z before) (sym (ap (λ (z : List ℕ × ℕ). z.0) pair)) ∙ own in
              found read free

      by : (o : Option (List ℕ × ℕ)) → external_read (record { stand = whole; before = before; op = op; after = ops }) ≡ o
          → Contains (cons_option o (filter_map external_read (sites_from whole (before ++ op ∷ []) ops))) (x, v)
          → (Whole → Reads (sites_from stand (other ++ op ∷ []) rest)) → (Whole → Reads (sites_from stand other rest))
          → Reads (sites_from stand other (cond (keep before op) (op ∷ rest) rest))
      by None is c both one = behind c both one
      by (Some r) is (zero, l, e) both one = here op refl (is ∙ ap Some e)
      by (Some r) is (suc k, l, e) both one = behind (k, omega (arith, l), e) both one

-- ---- visible writes
same_write : (x y : List ℕ) (v : ℕ) → x ≡ y → value_put x (Put y v) ≡ Some v
same_write x y v same = ap (λ (b : Bool). cond b (Some v) None) (ap (λ (z : List ℕ). bytes_eq z x) (sym same) ∙ itself x)

-- what is visible was written
pub visible_put : (x : List ℕ) (ops : List Op) (v : ℕ) → visible_write x ops ≡ Some v → Contains ops (Put x v)
visible_put x [] v is = absurd cc
visible_put x (op ∷ ops) v is = go (visible_write x ops) refl is (λ w. visible_put x ops v w)
  where
    later : Contains ops (Put x v) → Contains (op ∷ ops) (Put x v)
    later (k, l, e) = (suc k, omega (arith, l), e)

    here : (o : Op) → op ≡ o → value_put x o ≡ Some v → Contains (op ∷ ops) (Put x v)
    here (Get y w) same e = absurd cc
    here (Put y w) same e = split (cases_Bool (bytes_eq y x))
      where
        split : (bytes_eq y x ≡ true) ⊎ (bytes_eq y x ≡ false) → Contains (op ∷ ops) (Put x v)
        split (inl key) =
            let value : Some w ≡ Some v = sym (ap (λ (b : Bool). cond b (Some w) None) key) ∙ e in
            let w_is : w ≡ v = cc in
            let y_is : y ≡ x = same_name y x key in
            (0, omega arith, same ∙ (λ i. Put (y_is i) (w_is i)))
        split (inr other) = let none : None ≡ Some v = sym (ap (λ (b : Bool). cond b (Some w) None) other) ∙ e in absurd cc

    go : (o : Option ℕ) → visible_write x ops ≡ o → option_or o (value_put x op) ≡ Some v → (visible_write x ops ≡ Some v → Contains ops (Put x v))
        → Contains (op ∷ ops) (Put x v)
    go None none e more = here op refl e
    go (Some w) there e more = later (more (there ∙ e))

-- where a key is written some value of it is visible
pub put_visible : (x : List ℕ) (ops : List Op) (v : ℕ) → Contains ops (Put x v) → (w : ℕ) × (visible_write x ops ≡ Some w)
put_visible x [] v (k, l, e) = absurd (omega (arith, l))
put_visible x (op ∷ ops) v (zero, l, e) = go (visible_write x ops) (ap (value_put x) e ∙ same_write x x v refl)
  where
    go : (o : Option ℕ) → value_put x op ≡ Some v → (w : ℕ) × (option_or o (value_put x op) ≡ Some w)
    go None is = (v, is)
    go (Some w) is = (w, refl)
put_visible x (op ∷ ops) v (suc k, l, e) = let w = put_visible x ops v (k, omega (arith, l), e) in (w.0, ap (λ (o : Option ℕ). option_or o (value_put x op)) w.1)
