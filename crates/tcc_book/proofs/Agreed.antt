-- Lemmas on agreement.
-- - found-here, unfound-more, unfound-all: what a search through the sessions has found so far
-- - first-here, none-more, none-all: the first session without a pass
-- - torn-same, torn-more: the least torn pass so far
use Rattle.std.proofs.Common.{◌≡◌, ◌⊎◌, ℕ, suc, zero, ◌+◌, ◌≤◌, Bool, true, false, cond, List, [], ◌∷◌, ◌++◌, length}
use Rattle.std.proofs.Common.{map, take, find, Option, None, Some, refl, sym, ap, ◌∙◌, arith, inl, inr, true≢false}
use Rattle.std.proofs.Common.{⊎_elim}
use Rattle.std.specs.Prelude.{slice_get}
use Rattle.std.specs.FinMap as finite
use Rattle.std.specs.Cmp.Lexicographic.{nat_list_cmp_total, texts_ties}
use Rattle.std.specs.Ordering.{is_eq, is_lt, ordering_reverse}
use Rattle.std.specs.declared.cmp.Ordering.{Ordering}
use Rattle.std.specs.declared.cmp.Ordering.TheVariants.{Less, Equal, Greater}
use Rattle.std.proofs.lemmas.Cmp.{nat_list_eq_equiv}
use Rattle.std.proofs.lemmas.List.{take_all}
use Rattle.std.proofs.lemmas.List.Elements.{All-push, All-weaker, Contains-append_left, Contains-push}
use Rattle.std.proofs.lemmas.Option.{none-some, same_Some}
use Rattle.tcc_txn.specs.Bytes.{same}
use Rattle.tcc_txn.specs.Snapshots.{Sessions}
use Rattle.tcc_book.specs.Passes.{Agrees, LeastTorn, Passed}
use Rattle.tcc_book.specs.private.Lesser.{lesser}
use Rattle.tcc_txn.proofs.SortedParts.{name_cmp}

module _ {X : Type 0} (q : List ℕ) where
  -- the session is here
  pub found-here : (es : List (List ℕ × X)) (i : ℕ) (n : List ℕ) (v : X) → finite.find name_cmp q (take i es) ≡ None
      → slice_get es i ≡ Some (n, v) → same n q ≡ true → finite.find name_cmp q es ≡ Some v
  found-here [] i n v none here alike = absurd (none-some (n, v) here)
  found-here (e ∷ es) zero n v none here alike =
      let is : e ≡ (n, v) = same_Some e (n, v) here in
      let test : is_eq (name_cmp q n) ≡ true = sym (texts_ties q n) ∙ sym (nat_list_eq_equiv.symm n q) ∙ alike in
      ap (λ (f : List ℕ × X). cond (is_eq (name_cmp q f.0)) (Some f.1) (finite.find name_cmp q es)) is
      ∙ ap (λ b. cond b (Some v) (finite.find name_cmp q es)) test
  found-here (e ∷ es) (suc i) n v none here alike = by (λ before. found-here es i n v before here alike) (is_eq (name_cmp q e.0)) refl
    where
      by : (finite.find name_cmp q (take i es) ≡ None → finite.find name_cmp q es ≡ Some v) → (b : Bool) → is_eq (name_cmp q e.0) ≡ b
          → finite.find name_cmp q (e ∷ es) ≡ Some v
      by rest true is = absurd (none-some e.1 (sym (rw is at none)))
      by rest false is = rw is (rest (rw is at none))

  unfound-suc : (es : List (List ℕ × X)) (i : ℕ) (n : List ℕ) (v : X) → finite.find name_cmp q (take i es) ≡ None
      → slice_get es i ≡ Some (n, v) → same n q ≡ false → finite.find name_cmp q (take (suc i) es) ≡ None
  unfound-suc [] i n v none here other = refl
  unfound-suc (e ∷ es) zero n v none here other =
      let is : e ≡ (n, v) = same_Some e (n, v) here in
      let test : is_eq (name_cmp q n) ≡ false = sym (texts_ties q n) ∙ sym (nat_list_eq_equiv.symm n q) ∙ other in
      ap (λ (f : List ℕ × X). cond (is_eq (name_cmp q f.0)) (Some f.1) None) is ∙ ap (λ b. cond b (Some v) None) test
  unfound-suc (e ∷ es) (suc i) n v none here other = by (λ before. unfound-suc es i n v before here other) (is_eq (name_cmp q e.0)) refl
    where
      by : (finite.find name_cmp q (take i es) ≡ None → finite.find name_cmp q (take (suc i) es) ≡ None) → (b : Bool) → is_eq (name_cmp q e.0) ≡ b
          → finite.find name_cmp q (take (suc (suc i)) (e ∷ es)) ≡ None
      by rest true is = absurd (none-some e.1 (sym (rw is at none)))
      by rest false is = rw is (rest (rw is at none))

  -- a name that was not found before an index, and is not the one there, is not found among those up to it
  pub unfound-more : (es : List (List ℕ × X)) (i : ℕ) (n : List ℕ) (v : X) → finite.find name_cmp q (take i es) ≡ None
      → slice_get es i ≡ Some (n, v) → same n q ≡ false → finite.find name_cmp q (take (i + 1) es) ≡ None
  unfound-more es i n v none here other =
      let next : i + 1 ≡ suc i = omega arith in
      ap (λ k. finite.find name_cmp q (take k es)) next ∙ unfound-suc es i n v none here other

  -- a name that was not found up to the end is not found
  pub unfound-all : (es : List (List ℕ × X)) (i : ℕ) → finite.find name_cmp q (take i es) ≡ None → length es ≤ i → finite.find name_cmp q es ≡ None
  unfound-all es i none past = ap (finite.find name_cmp q) (sym (take_all i es past)) ∙ none

module _ {X : Type 0} (test : List ℕ → Bool) where
  -- the first name that passes is here
  pub first-here : (es : List (List ℕ × X)) (i : ℕ) (n : List ℕ) (v : X) → find test (map (λ e. e.0) (take i es)) ≡ None
      → slice_get es i ≡ Some (n, v) → test n ≡ true → find test (map (λ e. e.0) es) ≡ Some n
  first-here [] i n v none here passes = absurd (none-some (n, v) here)
  first-here (e ∷ es) zero n v none here passes =
      let is : e ≡ (n, v) = same_Some e (n, v) here in
      ap (λ (f : List ℕ × X). cond (test f.0) (Some f.0) (find test (map (λ e. e.0) es))) is ∙ ap (λ b. cond b (Some n) (find test (map (λ e. e.0) es))) passes
  first-here (e ∷ es) (suc i) n v none here passes = by (λ before. first-here es i n v before here passes) (test e.0) refl
    where
      by : (find test (map (λ e. e.0) (take i es)) ≡ None → find test (map (λ e. e.0) es) ≡ Some n) → (b : Bool) → test e.0 ≡ b
          → find test (map (λ e. e.0) (e ∷ es)) ≡ Some n
      by rest true is = absurd (none-some e.0 (sym (rw is at none)))
      by rest false is = rw is (rest (rw is at none))

  none-suc : (es : List (List ℕ × X)) (i : ℕ) (n : List ℕ) (v : X) → find test (map (λ e. e.0) (take i es)) ≡ None
      → slice_get es i ≡ Some (n, v) → test n ≡ false → find test (map (λ e. e.0) (take (suc i) es)) ≡ None
  none-suc [] i n v none here fails = refl
  none-suc (e ∷ es) zero n v none here fails =
      let is : e ≡ (n, v) = same_Some e (n, v) here in
      ap (λ (f : List ℕ × X). cond (test f.0) (Some f.0) None) is ∙ ap (λ b. cond b (Some n) None) fails
  none-suc (e ∷ es) (suc i) n v none here fails = by (λ before. none-suc es i n v before here fails) (test e.0) refl
    where
      by : (find test (map (λ e. e.0) (take i es)) ≡ None → find test (map (λ e. e.0) (take (suc i) es)) ≡ None) → (b : Bool) → test e.0 ≡ b
          → find test (map (λ e. e.0) (take (suc (suc i)) (e ∷ es))) ≡ None
      by rest true is = absurd (none-some e.0 (sym (rw is at none)))
      by rest false is = rw is (rest (rw is at none))

  -- none passes up to here
  pub none-more : (es : List (List ℕ × X)) (i : ℕ) (n : List ℕ) (v : X) → find test (map (λ e. e.0) (take i es)) ≡ None
      → slice_get es i ≡ Some (n, v) → test n ≡ false → find test (map (λ e. e.0) (take (i + 1) es)) ≡ None
  none-more es i n v none here fails =
      let next : i + 1 ≡ suc i = omega arith in
      ap (λ k. find test (map (λ e. e.0) (take k es))) next ∙ none-suc es i n v none here fails

  -- none passes at all
  pub none-all : (es : List (List ℕ × X)) (i : ℕ) → find test (map (λ e. e.0) (take i es)) ≡ None → length es ≤ i → find test (map (λ e. e.0) es) ≡ None
  none-all es i none past = ap (λ (fs : List (List ℕ × X)). find test (map (λ e. e.0) fs)) (sym (take_all i es past)) ∙ none

-- there is nothing past the end
pub none-past : {X : Type 0} (es : List X) (i : ℕ) → slice_get es i ≡ None → length es ≤ i
none-past [] i none = omega arith
none-past (e ∷ es) zero none = absurd (none-some e (sym none))
none-past (e ∷ es) (suc i) none = (let past = none-past es i none in omega (arith, past))

-- the least torn pass
no-less : (n : List ℕ) → is_lt (name_cmp n n) ≡ false
no-less n = by (name_cmp n n) (nat_list_cmp_total.antisymm n n)
  where
    by : (r : Ordering) → r ≡ ordering_reverse r → is_lt r ≡ false
    by Less turned = absurd (true≢false (ap is_lt turned))
    by Equal turned = refl
    by Greater turned = refl

-- of two names at most one is less
not-both : (m n : List ℕ) → is_lt (name_cmp m n) ≡ true → is_lt (name_cmp n m) ≡ false
not-both m n less = ap is_lt (nat_list_cmp_total.antisymm n m) ∙ by (name_cmp m n) less
  where
    by : (r : Ordering) → is_lt r ≡ true → is_lt (ordering_reverse r) ≡ false
    by Less is = refl
    by Equal is = absurd (true≢false (sym is))
    by Greater is = absurd (true≢false (sym is))

-- what is not less than a name is not less than one that isn't greater
still-no-less : (q m n : List ℕ) → is_lt (name_cmp q m) ≡ false → is_lt (name_cmp m n) ≡ false → is_lt (name_cmp q n) ≡ false
still-no-less q m n up down = by (name_cmp q n) refl (name_cmp m q) refl
  where
    by : (r : Ordering) → name_cmp q n ≡ r → (s : Ordering) → name_cmp m q ≡ s → is_lt (name_cmp q n) ≡ false
    by Less less Less below = absurd (true≢false (sym (ap is_lt (nat_list_cmp_total.trans m q n below less)) ∙ down))
    by Less less Equal tied = absurd (true≢false (sym (ap is_lt (nat_list_cmp_total.congr m q n tied ∙ less)) ∙ down))
    by Less less Greater above = absurd (true≢false (sym (ap is_lt (nat_list_cmp_total.antisymm q m ∙ ap ordering_reverse above)) ∙ up))
    by Equal is s tied = ap is_lt is
    by Greater is s tied = ap is_lt is

-- one more pass with which the sessions agree
pub torn-same : (s : Sessions) (ps : List Passed) (p : Passed) (o : Option (List ℕ)) → LeastTorn s ps o → Agrees s p → LeastTorn s (ps ++ p ∷ []) o
torn-same s ps p None all agrees = All-push (Agrees s) ps p all agrees
torn-same s ps p (Some n) least agrees = (
  (least.0.0, Contains-append_left ps (p ∷ []) least.0.0 least.0.1, least.0.2, least.0.3),
  All-push (λ pass. Agrees s pass ⊎ (is_lt (name_cmp pass.session n) ≡ false)) ps p least.1 (inl agrees),
)

-- one more pass, with which the sessions do not agree
pub torn-more : (s : Sessions) (ps : List Passed) (p : Passed) (o : Option (List ℕ)) → LeastTorn s ps o → (Agrees s p → ⊥)
    → LeastTorn s (ps ++ p ∷ []) (Some (lesser o p.session))
torn-more s ps p None all torn = (
  (p, Contains-push ps p, refl, torn),
  All-push (λ pass. Agrees s pass ⊎ (is_lt (name_cmp pass.session p.session) ≡ false)) ps p
      (All-weaker (Agrees s) (λ pass. Agrees s pass ⊎ (is_lt (name_cmp pass.session p.session) ≡ false)) (λ pass agrees. inl agrees) ps all)
      (inr (no-less p.session)),
)
torn-more s ps p (Some m) least torn = by (is_lt (name_cmp m p.session)) refl
  where
    NoLess : List ℕ → Passed → Type 0
    NoLess n pass = Agrees s pass ⊎ (is_lt (name_cmp pass.session n) ≡ false)

    by : (b : Bool) → is_lt (name_cmp m p.session) ≡ b → LeastTorn s (ps ++ p ∷ []) (Some (lesser (Some m) p.session))
    by true less = rw less (
      (least.0.0, Contains-append_left ps (p ∷ []) least.0.0 least.0.1, least.0.2, least.0.3),
      All-push (NoLess m) ps p least.1 (inr (not-both m p.session less)),
    )
    by false up = rw up (
      (p, Contains-push ps p, refl, torn),
      All-push (NoLess p.session) ps p
          (All-weaker (NoLess m) (NoLess p.session)
          (λ pass is. ⊎_elim (λ agrees. inl agrees) (λ no_less. inr (still-no-less pass.session m p.session no_less up)) is) ps least.1)
          (inr (no-less p.session)),
    )
