-- The first name that is repeated, by a set of the names before it.
use Rattle.std.proofs.Common.{◌≡◌, ℕ, ◌+◌, ◌<◌, Bool, true, false, cond, not, ◌||◌, List, [], ◌∷◌, ◌++◌, length, take, drop, get_or, refl, sym, ap, ◌∙◌, Some}
use Rattle.std.proofs.lemmas.List.{take_more}
use Rattle.std.proofs.lemmas.List.Folds.{list_any-append}
use Rattle.std.specs.Prelude.{nat_eq}
use Rattle.std.specs.BTreeSet.{BTreeSet, Updates, contains}
use Rattle.std.specs.Ordering.{nat_cmp}
use Rattle.std.specs.Cmp.Lexicographic.{nat_list_eq_equiv, pointwise, slice_cmp, texts_ties}
use Rattle.tcc_txn.specs.Snapshots.{first_repeated}
use Rattle.tcc_txn.proofs.Parts.{has_name, names_of, repeated_at}

either : (t u b : Bool) → t ≡ u → cond t true b ≡ (b || (u || false))
either true true true e = refl
either true true false e = refl
either false false true e = refl
either false false false e = refl
either true false b e = cc e
either false true b e = cc e

opposite : (a b : Bool) → a ≡ not b → b ≡ not a
opposite true true e = cc e
opposite true false e = refl
opposite false true e = refl
opposite false false e = cc e

module _ {X : Type 0} (parts : List (List ℕ × X)) (i : ℕ) (part : List ℕ × X) (within : i < length parts) (is : part ≡ get_or parts i part) where
  -- whether a name is among the first names, after one more of them
  pub has_name-more : (q : List ℕ) → has_name (take (i + 1) parts) q ≡ (has_name (take i parts) q || (pointwise nat_eq q part.0 || false))
  has_name-more q =
      ap (λ ps. has_name ps q) (take_more parts i part within ∙ ap (λ p. take i parts ++ p ∷ []) (sym is))
      ∙ list_any-append (λ (p : List ℕ × X). pointwise nat_eq q p.0) (take i parts) (part ∷ [])

  -- the set after the name is inserted holds one more of the names
  pub holds-more : (old new : BTreeSet (List ℕ)) → ((q : List ℕ) → contains (slice_cmp nat_cmp) old q ≡ has_name (take i parts) q)
      → Updates (slice_cmp nat_cmp) old new part.0 true → (q : List ℕ) → contains (slice_cmp nat_cmp) new q ≡ has_name (take (i + 1) parts) q
  holds-more old new holds updates q =
      updates.0 q
      ∙ either _ (pointwise nat_eq q part.0) (contains (slice_cmp nat_cmp) old q) (sym (texts_ties part.0 q) ∙ nat_list_eq_equiv.symm part.0 q)
      ∙ ap (λ b. b || (pointwise nat_eq q part.0 || false)) (holds q)
      ∙ sym (has_name-more q)

  -- what the part adds
  pub at_part : (b : Bool) → b ≡ has_name (take i parts) part.0
      → first_repeated (names_of (take i parts)) (names_of (drop i parts))
      ≡ cond b (Some part.0) (first_repeated (names_of (take (i + 1) parts)) (names_of (drop (i + 1) parts)))
  at_part b tested =
      repeated_at parts i part within
      ∙ sym (ap (λ p. cond (has_name (take i parts) p.0) (Some p.0) (first_repeated (names_of (take (i + 1) parts)) (names_of (drop (i + 1) parts)))) is)
      ∙ ap (λ t. cond t (Some part.0) (first_repeated (names_of (take (i + 1) parts)) (names_of (drop (i + 1) parts)))) (sym tested)

  -- the name was in the set already, or it was not
  pub was-there : (old : BTreeSet (List ℕ)) (added : Bool) → ((q : List ℕ) → contains (slice_cmp nat_cmp) old q ≡ has_name (take i parts) q)
      → added ≡ not (contains (slice_cmp nat_cmp) old part.0) → not added ≡ has_name (take i parts) part.0
  was-there old added holds is_new = sym (opposite added (contains (slice_cmp nat_cmp) old part.0) is_new) ∙ holds part.0
