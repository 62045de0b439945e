-- What is in order by the indices of keys is in order by their names.
use Rattle.std.proofs.Common.{◌≡◌, ℕ, ◌<◌, Bool, true, false, cond, List, [], ◌∷◌, ◌++◌, None, length, map, filter_map, drop, All, inl, inr, refl, ap, sym, subst}
use Rattle.std.proofs.Common.{◌∙◌}
use Rattle.std.specs.Prelude.{option_to_list}
use Rattle.std.specs.BTreeSet.{insert_key}
use Rattle.std.specs.Cmp.{nat_cmp_is}
use Rattle.std.specs.List.Sorted.{IsStrictlySortedBy}
use Rattle.std.specs.Ordering.{nat_cmp, match_ordering, ordering_reverse, ordering_then}
use Rattle.std.specs.declared.cmp.Ordering.{Ordering}
use Rattle.std.specs.declared.cmp.Ordering.TheVariants.{Less, Equal, Greater}
use Rattle.std.proofs.lemmas.Bool.{cases_order}
use Rattle.std.proofs.lemmas.Cmp.{nat_list_cmp_total, tied_itself}
use Rattle.std.proofs.lemmas.List.{map-append}
use Rattle.std.proofs.lemmas.List.Elements.{All-append, All-cons, All-nil, All-head, All-tail}
use Rattle.std.proofs.lemmas.Map.Keys.{Less-from_sorted}
use Rattle.tcc_txn.specs.KeyNumbers.{name_at}
use Rattle.tcc_txn.specs.Symbols.{IsNumber}
use Rattle.tcc_txn.specs.Transactions.{op_key}
use Rattle.tcc_txn.specs.declared.op.Op.{Op}
use Rattle.tcc_txn.specs.declared.op.Op.TheVariants.{Get, Put}
use Rattle.tcc_reads.specs.History.{Entry, places_of}
use Rattle.tcc_reads.specs.Indexed.{Indexed, IsWithin, entry_of, entries_of, named}
use Rattle.tcc_reads.specs.Sources.{name_cmp, pair_cmp, key_put, sorted_once}
use Rattle.tcc_reads.specs.declared.judging.OpJudgement.{OpJudgement}
use Rattle.tcc_reads.specs.declared.judging.OpJudgement.TheVariants.{Faulty, ReadsFrom, Silent}
use Rattle.tcc_reads.specs.private.KeyIndices.{indices_put, key_index, AreKnownIn}
use Rattle.tcc_reads.specs.private.Verdicts.{read_in, source_in}
use Rattle.tcc_reads.proofs.Indices.{stands_at}
use Rattle.tcc_reads.proofs.StoredEntries.{All-sorted_once}

-- a function that keeps the order of items: sorted items without repeats are mapped to sorted images without repeats
module _ {A B : Type 0} (R : A → A → Ordering) (S : B → B → Ordering) (f : A → B) (P : A → Type 0)
    (alike : (a b : A) → P a → P b → S (f a) (f b) ≡ R a b) where
  mapped_insert : (k : A) (xs : List A) → P k → All P xs → map f (insert_key R xs k) ≡ insert_key S (map f xs) (f k)
  mapped_insert k [] here rest = refl
  mapped_insert k (x ∷ xs) here rest =
      (elim (R k x) as (λ r. map f (match_ordering r (k ∷ x ∷ xs) (x ∷ xs) (x ∷ insert_key R xs k))
      ≡ match_ordering r (f k ∷ f x ∷ map f xs) (f x ∷ map f xs) (f x ∷ insert_key S (map f xs) (f k))) [
        | Less ↦ refl
        | Equal ↦ refl
        | Greater ↦ ap (λ ys. f x ∷ ys) (mapped_insert k xs here (All-tail P x xs rest))
      ])
      ∙ ap (λ o. match_ordering o (f k ∷ f x ∷ map f xs) (f x ∷ map f xs) (f x ∷ insert_key S (map f xs) (f k)))
      (sym (alike k x here (All-head P x xs rest)))

  mapped_once : (xs : List A) → All P xs → map f (sorted_once R xs) ≡ sorted_once S (map f xs)
  mapped_once [] each = refl
  mapped_once (x ∷ xs) each =
      mapped_insert x (sorted_once R xs) (All-head P x xs each) (All-sorted_once P R xs (All-tail P x xs each))
      ∙ ap (λ ys. insert_key S ys (f x)) (mapped_once xs (All-tail P x xs each))

-- by the index of the key, then by number
abbrev pub index_cmp : ℕ × ℕ → ℕ × ℕ → Ordering
index_cmp a b = ordering_then (nat_cmp a.0 b.0) (nat_cmp a.1 b.1)

module _ (keys : List (List ℕ)) where
  abbrev Below : ℕ → Type 0
  Below k = k < length keys

  abbrev BelowRead : ℕ × ℕ → Type 0
  BelowRead read = read.0 < length keys

  module _ (sorted : IsStrictlySortedBy name_cmp keys) where
    pub names_alike : (i j : ℕ) → Below i → Below j → name_cmp (name_at keys i) (name_at keys j) ≡ nat_cmp i j
    names_alike i j h k = elim (cases_order i j) [
      | inl e ↦ subst (λ m. name_cmp (name_at keys i) (name_at keys m) ≡ nat_cmp i m) e
          (tied_itself nat_list_cmp_total (name_at keys i) ∙ nat_cmp_is i i Equal refl)
      | inr less ↦ elim less [
        | inl below ↦ Less-from_sorted name_cmp keys i j [] sorted below k ∙ nat_cmp_is i j Less below
        | inr above ↦ (
            nat_list_cmp_total.antisymm (name_at keys i) (name_at keys j)
            ∙ ap ordering_reverse (Less-from_sorted name_cmp keys j i [] sorted above h)
            ∙ nat_cmp_is i j Greater above)
      ]
    ]

    pub names_once : (ns : List ℕ) → All Below ns → map (name_at keys) (sorted_once nat_cmp ns) ≡ sorted_once name_cmp (map (name_at keys) ns)
    names_once = mapped_once nat_cmp name_cmp (name_at keys) Below names_alike

    pub reads_once : (reads : List (ℕ × ℕ)) → All BelowRead reads → named keys (sorted_once index_cmp reads) ≡ sorted_once pair_cmp (named keys reads)
    reads_once =
        mapped_once index_cmp pair_cmp (λ (read : ℕ × ℕ). (name_at keys read.0, read.1)) BelowRead
        (λ a b h k. ap (λ o. ordering_then o (nat_cmp a.1 b.1)) (names_alike a.0 b.0 h k))

  -- the names of the keys that are written
  pub names_put : (ops : List Op) → AreKnownIn keys ops → map (name_at keys) (indices_put keys ops) ≡ filter_map key_put ops
  names_put [] known = refl
  names_put (Get key value ∷ ops) known = names_put ops known
  names_put (Put key value ∷ ops) known = λ i. (stands_at keys key known.0).named i ∷ names_put ops known.1 i

  pub put_within : (ops : List Op) → AreKnownIn keys ops → All Below (indices_put keys ops)
  put_within [] known = All-nil Below
  put_within (Get key value ∷ ops) known = put_within ops known
  put_within (Put key value ∷ ops) known =
      All-cons Below (key_index keys key) (indices_put keys ops) (stands_at keys key known.0).within (put_within ops known.1)

  -- one more read, or none
  module _ (old new : List (ℕ × ℕ)) (op : Op) (k : ℕ) (number : IsNumber keys (op_key op) k) where
    read_named : (judgement : OpJudgement) → named keys (option_to_list (read_in k judgement)) ≡ option_to_list (source_in op judgement)
    read_named (Faulty kind) = refl
    read_named (ReadsFrom source) = ap (λ (x : List ℕ). (x, source) ∷ []) number.named
    read_named Silent = refl

    read_within : (judgement : OpJudgement) → All BelowRead (option_to_list (read_in k judgement))
    read_within (Faulty kind) = All-nil BelowRead
    read_within (ReadsFrom source) = All-cons BelowRead (k, source) [] number.within (All-nil BelowRead)
    read_within Silent = All-nil BelowRead

    pub more_named : (judgement : OpJudgement) → new ≡ old ++ option_to_list (read_in k judgement)
        → named keys new ≡ named keys old ++ option_to_list (source_in op judgement)
    more_named judgement is =
        ap (named keys) is
        ∙ map-append (λ (read : ℕ × ℕ). (name_at keys read.0, read.1)) old (option_to_list (read_in k judgement))
        ∙ ap (λ rs. named keys old ++ rs) (read_named judgement)

    pub more_within : (judgement : OpJudgement) → new ≡ old ++ option_to_list (read_in k judgement) → All BelowRead old → All BelowRead new
    more_within judgement is before =
        subst (All BelowRead) (sym is) (All-append BelowRead old (option_to_list (read_in k judgement)) before (read_within judgement))

    -- if only the reads that pass are kept
    pub kept_named : (b : Bool) (judgement : OpJudgement) → new ≡ old ++ option_to_list (cond b (read_in k judgement) None)
        → named keys new ≡ named keys old ++ option_to_list (cond b (source_in op judgement) None)
    kept_named true judgement is = more_named judgement is
    kept_named false judgement is = ap (named keys) is ∙ map-append (λ (read : ℕ × ℕ). (name_at keys read.0, read.1)) old []

    pub kept_within : (b : Bool) (judgement : OpJudgement) → new ≡ old ++ option_to_list (cond b (read_in k judgement) None) → All BelowRead old → All BelowRead new
    kept_within true judgement is before = more_within judgement is before
    kept_within false judgement is before = subst (All BelowRead) (sym is) (All-append BelowRead old [] before (All-nil BelowRead))

  -- one more transaction
  pub entries_more : (old new : List Indexed) (p : Indexed) (e : Entry) → new ≡ old ++ p ∷ [] → entry_of keys p ≡ e
      → entries_of keys new ≡ entries_of keys old ++ e ∷ []
  entries_more old new p e is same =
      ap (entries_of keys) is ∙ map-append (entry_of keys) old (p ∷ []) ∙ ap (λ z. entries_of keys old ++ z ∷ []) same

  pub places_named : (ps : List Indexed) → places_of (entries_of keys ps) ≡ map {B = ℕ × ℕ} (λ p. (p.owner, p.place)) (drop 1 ps)
  places_named [] = refl
  places_named (p ∷ ps) = each ps
    where
      each : (qs : List Indexed) → map {B = ℕ × ℕ} (λ e. (e.owner, e.place)) (entries_of keys qs) ≡ map {B = ℕ × ℕ} (λ p. (p.owner, p.place)) qs
      each [] = refl
      each (q ∷ qs) = ap (λ l. (q.owner, q.place) ∷ l) (each qs)

pub within_more : (n : ℕ) (old new : List Indexed) (p : Indexed) → new ≡ old ++ p ∷ [] → IsWithin n p → All (IsWithin n) old → All (IsWithin n) new
within_more n old new p is here before =
    subst (All (IsWithin n)) (sym is) (All-append (IsWithin n) old (p ∷ []) before (All-cons (IsWithin n) p [] here (All-nil (IsWithin n))))
