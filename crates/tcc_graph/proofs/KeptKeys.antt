-- The marked names, and their indices among each other.
use Rattle.std.proofs.Common.{ℕ, zero, suc, ◌+◌, ◌<◌, ◌≡◌, Bool, true, false, List, [], ◌∷◌, ◌++◌, length, get_or, set, refl, sym, ap, subst, inl, inr, ◌⊎◌, ◌∙◌, arith}
use Rattle.std.proofs.Common.{append_assoc, drop, length-append, take}
use Rattle.std.specs.Prelude.{All, map}
use Rattle.std.specs.List.Sorted.{IsStrictlySortedBy}
use Rattle.std.specs.declared.cmp.Ordering.TheVariants.{Less}
use Rattle.std.proofs.lemmas.Bool.{cases_eq, false≢true}
use Rattle.std.proofs.lemmas.List.{drop_more, get_or_push, get_or_append_left, get_or-set_other, get_or-set_same, take_more}
use Rattle.std.proofs.lemmas.Map.Keys.{sorted_tail}
use Rattle.std.proofs.lemmas.List.Elements.{All-append, All-cons, All-head, All-nil, All-tail, All-weaker}
use Rattle.tcc_txn.specs.Symbols.{IsNumber}
use Rattle.tcc_reads.specs.Indexed.{Indexed, IsWithin, entries_of, named}
use Rattle.tcc_reads.specs.Sources.{name_cmp}
use Rattle.tcc_graph.specs.KeyIndices.{name_of}
use Rattle.tcc_graph.specs.private.Marks.{is_marked, kept_of, moved_by, rank_at, ranks_from}
use Rattle.tcc_graph.specs.private.ReadTables.{UsesOnly}
use Rattle.tcc_graph.proofs.SortedKeys.{below_head, sorted_cons, sorted_none}

-- what holds for each marked name holds for those that are kept
pub all_kept : (P : List ℕ → Type 0) (names : List (List ℕ)) (marks : List Bool)
    → ((k : ℕ) → k < length names → get_or marks k false ≡ true → P (name_of names k)) → All P (kept_of names marks)
all_kept P [] marks each = All-nil P
all_kept P (x ∷ xs) [] each = All-nil P
all_kept P (x ∷ xs) (true ∷ marks) each =
    All-cons P x (kept_of xs marks) (each 0 (omega arith) refl) (all_kept P xs marks (λ k h at. each (suc k) (omega (arith, h)) at))
all_kept P (x ∷ xs) (false ∷ marks) each = all_kept P xs marks (λ k h at. each (suc k) (omega (arith, h)) at)

pub kept_sorted : (names : List (List ℕ)) (marks : List Bool) → IsStrictlySortedBy name_cmp names → IsStrictlySortedBy name_cmp (kept_of names marks)
kept_sorted [] marks sorted = sorted_none
kept_sorted (x ∷ xs) [] sorted = sorted_none
kept_sorted (x ∷ xs) (true ∷ marks) sorted =
    let below = below_head x xs sorted in
    sorted_cons x (kept_of xs marks) (all_kept (λ y. name_cmp x y ≡ Less) xs marks (λ k h at. below k [] h)) (kept_sorted xs marks (sorted_tail name_cmp x xs sorted))
kept_sorted (x ∷ xs) (false ∷ marks) sorted = kept_sorted xs marks (sorted_tail name_cmp x xs sorted)

-- a marked name is at its rank, after those that were kept before
rank_behind : (done names : List (List ℕ)) (marks : List Bool) (k : ℕ) → k < length names → get_or marks k false ≡ true
    → IsNumber (done ++ kept_of names marks) (name_of names k) (rank_at (ranks_from (length done) marks) k)
rank_behind done [] marks k h at = absurd (omega (arith, h))
rank_behind done (x ∷ xs) [] k h at = absurd (false≢true at)
rank_behind done (x ∷ xs) (true ∷ marks) zero h at = record {
  within = omega (arith, length-append done (x ∷ kept_of xs marks));
  named =
      ap (λ (l : List (List ℕ)). get_or l (length done) []) (sym (append_assoc done (x ∷ []) (kept_of xs marks)))
      ∙ get_or_append_left (done ++ x ∷ []) (kept_of xs marks) [] (length done) (omega (arith, length-append done (x ∷ [])))
      ∙ get_or_push done x [] (length done) refl;
}
rank_behind done (x ∷ xs) (false ∷ marks) zero h at = absurd (false≢true at)
rank_behind done (x ∷ xs) (true ∷ marks) (suc k) h at =
    let long : length (done ++ x ∷ []) ≡ length done + 1 = omega (arith, length-append done (x ∷ [])) in
    subst (λ (l : List (List ℕ)). IsNumber l (name_of xs k) (rank_at (ranks_from (length done + 1) marks) k)) (append_assoc done (x ∷ []) (kept_of xs marks))
    (subst (λ (n : ℕ). IsNumber ((done ++ x ∷ []) ++ kept_of xs marks) (name_of xs k) (rank_at (ranks_from n marks) k)) long
    (rank_behind (done ++ x ∷ []) xs marks k (omega (arith, h)) at))
rank_behind done (x ∷ xs) (false ∷ marks) (suc k) h at = rank_behind done xs marks k (omega (arith, h)) at

module _ (names : List (List ℕ)) (marks : List Bool) where
  abbrev kept : List (List ℕ)
  kept = kept_of names marks

  abbrev ranks : List ℕ
  ranks = ranks_from 0 marks

  abbrev is_kept : ℕ → Bool
  is_kept = is_marked marks

  rank_stands : (k : ℕ) → k < length names → is_kept k ≡ true → IsNumber kept (name_of names k) (rank_at ranks k)
  rank_stands k h at = rank_behind [] names marks k h at

  writes_moved : (ks : List ℕ) → All (λ k. k < length names) ks → All (λ k. is_kept k ≡ true) ks → map (name_of kept) (map (rank_at ranks) ks) ≡ map (name_of names) ks
  writes_moved [] within used = refl
  writes_moved (k ∷ ks) within used =
      let one = (rank_stands k (within 0 k (omega arith)) (used 0 k (omega arith))).named in
      let rest = writes_moved ks (λ i d l. within (suc i) d (omega (arith, l))) (λ i d l. used (suc i) d (omega (arith, l))) in
      λ i. one i ∷ rest i

  writes_inside : (ks : List ℕ) → All (λ k. k < length names) ks → All (λ k. is_kept k ≡ true) ks → All (λ k. k < length kept) (map (rank_at ranks) ks)
  writes_inside [] within used = All-nil (λ (k : ℕ). k < length kept)
  writes_inside (k ∷ ks) within used =
      All-cons (λ (k : ℕ). k < length kept) (rank_at ranks k) (map (rank_at ranks) ks) (rank_stands k (within 0 k (omega arith)) (used 0 k (omega arith))).within
      (writes_inside ks (λ i d l. within (suc i) d (omega (arith, l))) (λ i d l. used (suc i) d (omega (arith, l))))

  reads_moved : (rs : List (ℕ × ℕ)) → All (λ r. r.0 < length names) rs → All (λ r. is_kept r.0 ≡ true) rs
      → named kept (map (λ r. (rank_at ranks r.0, r.1)) rs) ≡ named names rs
  reads_moved [] within used = refl
  reads_moved (r ∷ rs) within used =
      let one = (rank_stands r.0 (within 0 r (omega arith)) (used 0 r (omega arith))).named in
      let rest = reads_moved rs (λ i d l. within (suc i) d (omega (arith, l))) (λ i d l. used (suc i) d (omega (arith, l))) in
      λ i. (one i, r.1) ∷ rest i

  reads_inside : (rs : List (ℕ × ℕ)) → All (λ r. r.0 < length names) rs → All (λ r. is_kept r.0 ≡ true) rs
      → All (λ r. r.0 < length kept) (map {B = ℕ × ℕ} (λ r. (rank_at ranks r.0, r.1)) rs)
  reads_inside [] within used = All-nil (λ (r : ℕ × ℕ). r.0 < length kept)
  reads_inside (r ∷ rs) within used =
      All-cons (λ (r : ℕ × ℕ). r.0 < length kept) (rank_at ranks r.0, r.1) (map {B = ℕ × ℕ} (λ r. (rank_at ranks r.0, r.1)) rs)
      (rank_stands r.0 (within 0 r (omega arith)) (used 0 r (omega arith))).within
      (reads_inside rs (λ i d l. within (suc i) d (omega (arith, l))) (λ i d l. used (suc i) d (omega (arith, l))))

  -- by their names the transactions are as they were
  pub moved_same : (ps : List Indexed) → All (IsWithin (length names)) ps → All (UsesOnly is_kept) ps
      → entries_of kept (map (moved_by ranks) ps) ≡ entries_of names ps
  moved_same [] within used = refl
  moved_same (p ∷ ps) within used =
      let inside = All-head (IsWithin (length names)) p ps within in
      let marked = All-head (UsesOnly is_kept) p ps used in
      let written = writes_moved p.writes inside.writes marked.writes in
      let read = reads_moved p.reads inside.reads marked.reads in
      let rest = moved_same ps (All-tail (IsWithin (length names)) p ps within) (All-tail (UsesOnly is_kept) p ps used) in
      λ i. record { owner = p.owner; place = p.place; writes = written i; reads = read i } ∷ rest i

  pub moved_within : (ps : List Indexed) → All (IsWithin (length names)) ps → All (UsesOnly is_kept) ps → All (IsWithin (length kept)) (map (moved_by ranks) ps)
  moved_within [] within used = All-nil (IsWithin (length kept))
  moved_within (p ∷ ps) within used =
      let inside = All-head (IsWithin (length names)) p ps within in
      let marked = All-head (UsesOnly is_kept) p ps used in
      All-cons (IsWithin (length kept)) (moved_by ranks p) (map (moved_by ranks) ps)
      (record { writes = writes_inside p.writes inside.writes marked.writes; reads = reads_inside p.reads inside.reads marked.reads })
      (moved_within ps (All-tail (IsWithin (length names)) p ps within) (All-tail (UsesOnly is_kept) p ps used))

pub long_ranks : (n : ℕ) (marks : List Bool) → length (ranks_from n marks) ≡ length marks
long_ranks n [] = refl
long_ranks n (true ∷ marks) = ap suc (long_ranks (n + 1) marks)
long_ranks n (false ∷ marks) = ap suc (long_ranks n marks)

-- ---- more marks

pub mark_kept : (marks : List Bool) (i k : ℕ) → i < length marks → is_marked marks k ≡ true → is_marked (set marks i true) k ≡ true
mark_kept marks i k inside at = go (cases_eq k i)
  where
    go : (k ≡ i) ⊎ (k ≡ i → ⊥) → is_marked (set marks i true) k ≡ true
    go (inl e) = subst (λ (j : ℕ). is_marked (set marks i true) j ≡ true) (sym e) (get_or-set_same marks i true false inside)
    go (inr ne) = get_or-set_other marks i k true false ne ∙ at

pub mark_here : (marks : List Bool) (i : ℕ) → i < length marks → is_marked (set marks i true) i ≡ true
mark_here marks i inside = get_or-set_same marks i true false inside

-- one more item of a list has what all before it have, even if these then have something weaker
pub one_taken : {X : Type 0} (P Q : X → Type 0) → ((x : X) → P x → Q x) → (xs : List X) (i : ℕ) (d : X) → i < length xs → All P (take i xs) → Q (get_or xs i d)
    → All Q (take (i + 1) xs)
one_taken P Q weaker xs i d inside before here =
    subst (All Q) (sym (take_more xs i d inside))
    (All-append Q (take i xs) (get_or xs i d ∷ []) (All-weaker P Q weaker (take i xs) before) (All-cons Q (get_or xs i d) [] here (All-nil Q)))

pub uses_kept : (old new : List Bool) → ((k : ℕ) → is_marked old k ≡ true → is_marked new k ≡ true) → (p : Indexed) → UsesOnly (is_marked old) p
    → UsesOnly (is_marked new) p
uses_kept old new more p uses = record {
  writes = All-weaker (λ k. is_marked old k ≡ true) (λ k. is_marked new k ≡ true) more p.writes uses.writes;
  reads = All-weaker (λ (read : ℕ × ℕ). is_marked old read.0 ≡ true) (λ (read : ℕ × ℕ). is_marked new read.0 ≡ true) (λ read. more read.0) p.reads uses.reads;
}

-- ---- one more name

module _ (names : List (List ℕ)) (marks : List Bool) (i : ℕ) (d : List ℕ) (inside : i < length names) (long : length marks ≡ length names) where
  later_names : drop i names ≡ get_or names i d ∷ drop (i + 1) names
  later_names = drop_more names i d inside

  later_marks : drop i marks ≡ get_or marks i false ∷ drop (i + 1) marks
  later_marks = drop_more marks i false (omega (arith, inside, long))

  pub kept_here : get_or marks i false ≡ true → kept_of (drop i names) (drop i marks) ≡ get_or names i d ∷ kept_of (drop (i + 1) names) (drop (i + 1) marks)
  kept_here at =
      (λ j. kept_of (later_names j) (later_marks j))
      ∙ ap (λ b. kept_of (get_or names i d ∷ drop (i + 1) names) (b ∷ drop (i + 1) marks)) at

  pub kept_later : get_or marks i false ≡ false → kept_of (drop i names) (drop i marks) ≡ kept_of (drop (i + 1) names) (drop (i + 1) marks)
  kept_later at =
      (λ j. kept_of (later_names j) (later_marks j))
      ∙ ap (λ b. kept_of (get_or names i d ∷ drop (i + 1) names) (b ∷ drop (i + 1) marks)) at

  pub ranks_here : (n : ℕ) → get_or marks i false ≡ true → ranks_from n (drop i marks) ≡ n ∷ ranks_from (n + 1) (drop (i + 1) marks)
  ranks_here n at = ap (ranks_from n) later_marks ∙ ap (λ b. ranks_from n (b ∷ drop (i + 1) marks)) at

  pub ranks_later : (n : ℕ) → get_or marks i false ≡ false → ranks_from n (drop i marks) ≡ n ∷ ranks_from n (drop (i + 1) marks)
  ranks_later n at = ap (ranks_from n) later_marks ∙ ap (λ b. ranks_from n (b ∷ drop (i + 1) marks)) at
