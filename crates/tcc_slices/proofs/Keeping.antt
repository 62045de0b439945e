-- What is kept of operations: wanted ones of them, and no others; one more.
use Rattle.std.proofs.Common.{ℕ, zero, suc, ◌≡◌, ◌<◌, ◌+◌, ◌++◌, ◌==◌, ◌&&◌, ◌||◌, ◌⊎◌, inl, inr, Bool, not, true, false, cond, List, [], ◌∷◌, length, get_or, take, append_assoc, append-nil, refl, sym, ap, subst, ◌∙◌, arith}
use Rattle.std.specs.Prelude.{Option, Some, None, unwrap_or}
use Rattle.std.specs.List.{Contains, list_any}
use Rattle.std.specs.Option.{option_or}
use Rattle.std.specs.Str.{bytes_eq}
use Rattle.std.proofs.lemmas.Bool.{and_from, and_parts, cases_Bool, eq-eqb, eqb-true, false≢true, or_cases, or_left, or_right}
use Rattle.std.proofs.lemmas.List.{take_more}
use Rattle.std.proofs.lemmas.List.Elements.{Contains-append_left, Contains-push}
use Rattle.tcc_txn.specs.declared.op.Op.{Op}
use Rattle.tcc_txn.specs.declared.op.Op.TheVariants.{Get, Put}
use Rattle.tcc_reads.specs.Sources.{value_put, visible_write}
use Rattle.tcc_reads.proofs.Ties.{itself, same_name}
use Rattle.tcc_slices.specs.Needs.{AreOnce}
use Rattle.tcc_slices.specs.private.Cutting.{is_among, is_free, is_wanted, kept_behind, same_op, value_shown}

-- ---- wanted operations
pub same_is : (a b : Op) → same_op a b ≡ true → a ≡ b
same_is (Get x v) (Get y w) same =
    let parts = and_parts (bytes_eq x y) (v == w) same in
    let key = same_name x y parts.0 in
    let value = eqb-true v w parts.1 in
    λ i. Get (key i) (value i)
same_is (Get x v) (Put y w) same = absurd (false≢true same)
same_is (Put x v) (Get y w) same = absurd (false≢true same)
same_is (Put x v) (Put y w) same =
    let parts = and_parts (bytes_eq x y) (v == w) same in
    let key = same_name x y parts.0 in
    let value = eqb-true v w parts.1 in
    λ i. Put (key i) (value i)

pub itself_op : (op : Op) → same_op op op ≡ true
itself_op (Get x v) = and_from (bytes_eq x x) (v == v) (itself x) (eq-eqb v v refl)
itself_op (Put x v) = and_from (bytes_eq x x) (v == v) (itself x) (eq-eqb v v refl)

pub any_there : (wanted : List Op) (op : Op) → Contains wanted op → is_among wanted op ≡ true
any_there [] op (k, l, e) = absurd (omega (arith, l))
any_there (one ∷ wanted) op (zero, l, e) = ap (λ (z : Op). same_op z op || list_any (λ y. same_op y op) wanted) e ∙ or_left (same_op op op) (list_any (λ y. same_op y op) wanted) (itself_op op)
any_there (one ∷ wanted) op (suc k, l, e) = or_right (same_op one op) (list_any (λ y. same_op y op) wanted) (any_there wanted op (k, omega (arith, l), e))

pub wanted_there : (wanted : List Op) (op : Op) → list_any (λ one. same_op one op) wanted ≡ true → Contains wanted op
wanted_there [] op any = absurd (false≢true any)
wanted_there (one ∷ wanted) op any = go (or_cases (same_op one op) (list_any (λ z. same_op z op) wanted) any) (λ there. wanted_there wanted op there)
  where
    go : (same_op one op ≡ true) ⊎ (list_any (λ z. same_op z op) wanted ≡ true) → (list_any (λ z. same_op z op) wanted ≡ true → Contains wanted op)
        → Contains (one ∷ wanted) op
    go (inl same) more = (0, omega arith, same_is one op same)
    go (inr there) more = let w = more there in (suc w.0, omega (arith, w.1), w.2)

-- an operation that isn't there
pub not_among : (ops : List Op) (op : Op) → (Contains ops op → ⊥) → not (is_among ops op) ≡ true
not_among ops op new = go (cases_Bool (is_among ops op))
  where
    go : (is_among ops op ≡ true) ⊎ (is_among ops op ≡ false) → not (is_among ops op) ≡ true
    go (inl any) = absurd (new (wanted_there ops op any))
    go (inr none) = ap not none

-- ---- each once
module _ (keep : List Op → Op → Bool) (new : (before : List Op) (op : Op) → keep before op ≡ true → Contains before op → ⊥) where
  apart : (before ops : List Op) (op : Op) → Contains before op → Contains (kept_behind keep before ops) op → ⊥
  apart before [] op there (k, l, e) = omega (arith, l)
  apart before (first ∷ ops) op there kept =
      go (keep before first) refl kept (λ c. apart (before ++ first ∷ []) ops op (Contains-append_left before (first ∷ []) op there) c)
    where
      rest : List Op
      rest = kept_behind keep (before ++ first ∷ []) ops

      go : (b : Bool) → keep before first ≡ b → Contains (cond b (first ∷ rest) rest) op → (Contains rest op → ⊥) → ⊥
      go true is (zero, l, e) more = new before op (subst (λ (z : Op). keep before z ≡ true) e is) there
      go true is (suc k, l, e) more = more (k, omega (arith, l), e)
      go false is c more = more c

  -- what is kept only where it doesn't come before is kept once
  pub once_each : (before ops : List Op) → AreOnce (kept_behind keep before ops)
  once_each before [] = tt
  once_each before (first ∷ ops) = go (keep before first) (once_each (before ++ first ∷ []) ops)
    where
      rest : List Op
      rest = kept_behind keep (before ++ first ∷ []) ops

      go : (b : Bool) → AreOnce rest → AreOnce (cond b (first ∷ rest) rest)
      go true once = (apart (before ++ first ∷ []) ops first (Contains-push before first), once)
      go false once = once

pub wanted_once : (wanted ops : List Op) → AreOnce (kept_behind (is_wanted wanted) [] ops)
wanted_once wanted ops = once_each (is_wanted wanted) new [] ops
  where
    new : (before : List Op) (op : Op) → is_wanted wanted before op ≡ true → Contains before op → ⊥
    new before op is there =
        let none : not (is_among before op) ≡ true = (and_parts (is_among wanted op && is_free before op) (not (is_among before op)) is).1 in
        false≢true (sym (ap not (any_there before op there)) ∙ none)

-- ---- kept ones
module _ (keep : List Op → Op → Bool) where
  pub kept_passes : (before ops : List Op) (op : Op) → Contains (kept_behind keep before ops) op → (b : List Op) × (keep b op ≡ true)
  kept_passes before [] op (k, l, e) = absurd (omega (arith, l))
  kept_passes before (first ∷ ops) op there = go (keep before first) refl there (λ rest. kept_passes (before ++ first ∷ []) ops op rest)
    where
      go : (b : Bool) → keep before first ≡ b
          → Contains (cond b (first ∷ kept_behind keep (before ++ first ∷ []) ops) (kept_behind keep (before ++ first ∷ []) ops)) op
          → (Contains (kept_behind keep (before ++ first ∷ []) ops) op → (c : List Op) × (keep c op ≡ true)) → (c : List Op) × (keep c op ≡ true)
      go true is (zero, l, e) rest = (before, subst (λ (z : Op). keep before z ≡ true) e is)
      go true is (suc k, l, e) rest = rest (k, omega (arith, l), e)
      go false is c rest = rest c

  -- what is kept of one more operation
  abbrev pub kept_one : List Op → Op → List Op
  kept_one before op = cond (keep before op) (op ∷ []) []

  pub kept_push : (before ops : List Op) (op : Op) → kept_behind keep before (ops ++ op ∷ []) ≡ kept_behind keep before ops ++ kept_one (before ++ ops) op
  kept_push before [] op = go (keep before op) ∙ ap (λ (z : List Op). kept_one z op) (sym (append-nil before))
    where
      go : (b : Bool) → cond b (op ∷ []) [] ≡ cond b (op ∷ []) []
      go b = refl
  kept_push before (first ∷ ops) op = go (keep before first) (kept_push (before ++ first ∷ []) ops op)
    where
      behind : List Op
      behind = before ++ first ∷ []

      same : (before ++ first ∷ []) ++ ops ≡ before ++ first ∷ ops
      same = append_assoc before (first ∷ []) ops

      go : (b : Bool) → kept_behind keep (before ++ first ∷ []) (ops ++ op ∷ [])
          ≡ kept_behind keep (before ++ first ∷ []) ops ++ kept_one ((before ++ first ∷ []) ++ ops) op
          → cond b (first ∷ kept_behind keep (before ++ first ∷ []) (ops ++ op ∷ [])) (kept_behind keep (before ++ first ∷ []) (ops ++ op ∷ []))
          ≡ cond b (first ∷ kept_behind keep (before ++ first ∷ []) ops) (kept_behind keep (before ++ first ∷ []) ops) ++ kept_one (before ++ first ∷ ops) op
      go true rest = ap (λ (z : List Op). first ∷ z) (rest ∙ ap (λ (z : List Op). kept_behind keep (before ++ first ∷ []) ops ++ kept_one z op) same)
      go false rest = rest ∙ ap (λ (z : List Op). kept_behind keep (before ++ first ∷ []) ops ++ kept_one z op) same

  pub kept_more : (ops : List Op) (i : ℕ) (op : Op) → i < length ops → op ≡ get_or ops i op
      → kept_behind keep [] (take (i + 1) ops) ≡ kept_behind keep [] (take i ops) ++ kept_one (take i ops) op
  kept_more ops i op inside is =
      ap (kept_behind keep []) (take_more ops i op inside ∙ ap (λ (z : Op). take i ops ++ z ∷ []) (sym is)) ∙ kept_push [] (take i ops) op

-- ---- what is shown
or_some : (o : Option ℕ) (v : ℕ) → option_or (Some v) o ≡ Some v
or_some o v = refl

pub visible_push : (x : List ℕ) (ops : List Op) (op : Op) → visible_write x (ops ++ op ∷ []) ≡ option_or (value_put x op) (visible_write x ops)
visible_push x [] op = go (value_put x op)
  where
    go : (o : Option ℕ) → option_or None o ≡ option_or o None
    go None = refl
    go (Some v) = refl
visible_push x (first ∷ ops) op =
    ap (λ (o : Option ℕ). option_or o (value_put x first)) (visible_push x ops op) ∙ go (value_put x op) (visible_write x ops) (value_put x first)
  where
    go : (a b c : Option ℕ) → option_or (option_or a b) c ≡ option_or a (option_or b c)
    go None b c = refl
    go (Some v) b c = refl

-- the value shown, with one more operation
pub shown_push : (x : List ℕ) (ops : List Op) (op : Op) → value_shown x (ops ++ op ∷ []) ≡ unwrap_or (option_or (value_put x op) (visible_write x ops)) 0
shown_push x ops op = ap (λ (o : Option ℕ). unwrap_or o 0) (visible_push x ops op)

-- ---- the visible write, one operation further
module _ (x : List ℕ) (ops : List Op) (i : ℕ) (op : Op) (inside : i < length ops) (is : op ≡ get_or ops i op) where
  pub visible_more : visible_write x (take (i + 1) ops) ≡ option_or (value_put x op) (visible_write x (take i ops))
  visible_more =
      ap (visible_write x) (take_more ops i op inside ∙ ap (λ (z : Op). take i ops ++ z ∷ []) (sym is)) ∙ visible_push x (take i ops) op

  pub visible_put_more : (y : List ℕ) (v : ℕ) → op ≡ Put y v → bytes_eq y x ≡ true → Some v ≡ visible_write x (take (i + 1) ops)
  visible_put_more y v put same =
      sym (visible_more ∙ ap (λ (z : Op). option_or (value_put x z) (visible_write x (take i ops))) put
      ∙ ap (λ (b : Bool). option_or (cond b (Some v) None) (visible_write x (take i ops))) same)

  pub visible_other_more : (y : List ℕ) (v : ℕ) → op ≡ Put y v → bytes_eq y x ≡ false → visible_write x (take i ops) ≡ visible_write x (take (i + 1) ops)
  visible_other_more y v put other =
      sym (visible_more ∙ ap (λ (z : Op). option_or (value_put x z) (visible_write x (take i ops))) put
      ∙ ap (λ (b : Bool). option_or (cond b (Some v) None) (visible_write x (take i ops))) other)

  pub visible_read_more : ((y : List ℕ) (v : ℕ) → op ≡ Put y v → ⊥) → visible_write x (take i ops) ≡ visible_write x (take (i + 1) ops)
  visible_read_more read = go op refl
    where
      go : (z : Op) → op ≡ z → visible_write x (take i ops) ≡ visible_write x (take (i + 1) ops)
      go (Put y v) same = absurd (read y v same)
      go (Get y v) same = sym (visible_more ∙ ap (λ (w : Op). option_or (value_put x w) (visible_write x (take i ops))) same)
