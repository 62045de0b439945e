-- A cut that breaks the limits of a snapshot: the links need more transactions, or those of more sessions, than it may have.
use Rattle.std.proofs.Common.{ℕ, zero, suc, ◌≡◌, ◌<◌, ◌≤◌, ◌+◌, ◌-◌, ◌⊎◌, inl, inr, T, List, [], ◌∷◌, length, get_or, map, refl, sym, ap, ◌∙◌, arith}
use Rattle.std.specs.Prelude.{All, slice_index}
use Rattle.std.specs.List.{AllByRecursion, Contains}
use Rattle.std.specs.List.Sorted.{IsStrictlySortedBy}
use Rattle.std.specs.FinMap as finite
use Rattle.std.specs.FinMap.{entries, entries_sorted}
use Rattle.std.specs.FinMap.Entries.{below_all, is_sorted}
use Rattle.std.specs.Ordering.{is_lt, nat_cmp, ordering_reverse}
use Rattle.std.specs.Cmp.{nat_cmp_is}
use Rattle.std.specs.declared.cmp.Ordering.TheVariants.{Less, Equal, Greater}
use Rattle.std.specs.Cmp.Lexicographic.{nat_list_cmp_total}
use Rattle.std.proofs.lemmas.Bool.{cases_lt, cases_order}
use Rattle.std.proofs.lemmas.Cmp.{tied_itself}
use Rattle.std.proofs.lemmas.List.{get_or-map, length-map}
use Rattle.std.proofs.lemmas.List.Elements.{All-cons, All-nil}
use Rattle.std.proofs.lemmas.Map.Keys.{Less-from_sorted}
use Rattle.tcc_txn.specs.Finished.{IsWithinLimits, transaction_count}
use Rattle.tcc_txn.specs.Snapshots.{Sessions}
use Rattle.tcc_txn.specs.declared.limits.Limits.TheVariants.{Small}
use Rattle.tcc_txn.specs.declared.limits.TheConstants.{MAX_SESSIONS, MAX_TRANSACTIONS}
use Rattle.tcc_txn.proofs.Growing.{both-parts, less-if}
use Rattle.tcc_txn.proofs.SessionEntries.{Named, sorted_names}
use Rattle.tcc_txn.proofs.SortedParts.{name_cmp}
use Rattle.tcc_reads.specs.History.{History, owner}
use Rattle.tcc_reads.proofs.Counting.{length-stands_from}
use Rattle.tcc_graph.specs.declared.link.Link.{Link}
use Rattle.tcc_slices.specs.Needs.{IsMet}
use Rattle.tcc_slices.specs.Limits.{NeedTooMuch}
use Rattle.tcc_slices.specs.private.Carrying.{IsRising}
use Rattle.tcc_slices.specs.private.Cutting.{IsCut, IsNamed}
use Rattle.tcc_slices.specs.declared.needs.Need.{Need}
use Rattle.tcc_slices.proofs.Named.{at_parts}

less_is : (m n : ℕ) → m < n → nat_cmp m n ≡ Less
less_is m n low = sym (nat_cmp_is m n Less low)

module _ (s slice : Sessions) (h : History) (links : List Link) (needs : List (ℕ × Need)) (numbers : List ℕ) (k : ℕ) (inside : k < length numbers + 1)
    (rising : IsRising numbers) (met : (j : ℕ) → 0 < j → j < length numbers → IsMet links (slice_index numbers j)) (cut : IsCut s h needs numbers k slice) where
  -- ---- transactions
  -- the numbers of so many, from an index on
  numbers_at : ℕ → ℕ → List ℕ
  numbers_at j zero = []
  numbers_at j (suc n) = slice_index numbers j ∷ numbers_at (j + 1) n

  length_at : (j n : ℕ) → length (numbers_at j n) ≡ n
  unfolding numbers_at
  length_at j zero = refl
  length_at j (suc n) = let more = length_at (j + 1) n in omega (arith, more)

  above_at : (i j n : ℕ) → i < j → j + n ≤ length numbers → AllByRecursion (λ m. nat_cmp (slice_index numbers i) m ≡ Less) (numbers_at j n)
  unfolding numbers_at
  above_at i j zero low few = tt
  above_at i j (suc n) low few =
      (less_is (slice_index numbers i) (slice_index numbers j) (rising i j low (omega (arith, few))), above_at i (j + 1) n (omega (arith, low)) (omega (arith, few)))

  sorted_at : (j n : ℕ) → j + n ≤ length numbers → IsStrictlySortedBy nat_cmp (numbers_at j n)
  unfolding numbers_at IsStrictlySortedBy
  sorted_at j zero few = tt
  sorted_at j (suc n) few = (above_at j (j + 1) n (omega arith) (omega (arith, few)), sorted_at (j + 1) n (omega (arith, few)))

  met_at : (j n : ℕ) → 0 < j → j + n ≤ length numbers → All (λ m. (0 < m) × IsMet links m) (numbers_at j n)
  unfolding numbers_at
  met_at j zero some few = All-nil (λ m. (0 < m) × IsMet links m)
  met_at j (suc n) some few =
      All-cons (λ m. (0 < m) × IsMet links m) (slice_index numbers j) (numbers_at (j + 1) n)
      (let up = rising 0 j some (omega (arith, few)) in omega (arith, up), met j some (omega (arith, few)))
      (met_at (j + 1) n (omega arith) (omega (arith, few)))

  count_is : transaction_count slice + 1 ≡ k
  count_is = let long = length-stands_from 0 (entries slice) in omega (arith, long, cut.long)

  too_many : MAX_TRANSACTIONS < transaction_count slice → NeedTooMuch h links
  too_many over =
      inl (
        numbers_at 1 (k - 1),
        omega (arith, over, count_is, length_at 1 (k - 1)),
        sorted_at 1 (k - 1) (omega (arith, inside, count_is)),
        met_at 1 (k - 1) (omega arith) (omega (arith, inside, count_is)),
      )

  -- ---- sessions
  abbrev names : List (List ℕ)
  names = map (λ (e : Named). e.0) (entries s)

  -- one of the sessions of the cut, by the index of a transaction of it
  record HasOwner (e : Named) : Type 0 where
    index : ℕ
    number : ℕ
    some : 0 < number
    is_met : IsMet links number
    owned : owner h number ≡ index
    within : index < length (entries s)
    named : get_or names index [] ≡ e.0

  has_owner : (e : Named) → Contains (entries slice) e → HasOwner e
  has_owner e there = go (cut.names e there)
    where
      go : (j : ℕ) × (0 < j) × (j < k) × IsNamed s h (slice_index numbers j) e.0 → HasOwner e
      go (j, some, below, (i, p, at_is, in_i, x_i)) =
          let a = at_parts h (slice_index numbers j) i p at_is in
          record {
            index = i;
            number = slice_index numbers j;
            some = a.0;
            is_met = met j some (omega (arith, below, inside));
            owned = a.2;
            within = in_i;
            named = get_or-map (λ (f : Named). f.0) (entries s) i (e.0, []) [] in_i ∙ x_i;
          }

  owners : (es : List Named) → ((e : Named) → Contains es e → HasOwner e) → List ℕ
  owners [] w = []
  owners (e ∷ es) w = (w e (0, omega arith, refl)).index ∷ owners es (λ f c. w f (suc c.0, omega (arith, c.1), c.2))

  length_owners : (es : List Named) (w : (e : Named) → Contains es e → HasOwner e) → length (owners es w) ≡ length es
  unfolding owners
  length_owners [] w = refl
  length_owners (e ∷ es) w = let more = length_owners es (λ f c. w f (suc c.0, omega (arith, c.1), c.2)) in omega (arith, more)

  all_owners : (es : List Named) (w : (e : Named) → Contains es e → HasOwner e) → All (λ i. (n : ℕ) × (0 < n) × IsMet links n × (owner h n ≡ i)) (owners es w)
  unfolding owners
  all_owners [] w = All-nil (λ i. (n : ℕ) × (0 < n) × IsMet links n × (owner h n ≡ i))
  all_owners (e ∷ es) w =
      let here = w e (0, omega arith, refl) in
      All-cons (λ i. (n : ℕ) × (0 < n) × IsMet links n × (owner h n ≡ i)) here.index (owners es (λ f c. w f (suc c.0, omega (arith, c.1), c.2)))
      (here.number, here.some, here.is_met, here.owned) (all_owners es (λ f c. w f (suc c.0, omega (arith, c.1), c.2)))

  -- a lower name has a lower index
  lower : (e f : Named) (a : HasOwner e) (b : HasOwner f) → name_cmp e.0 f.0 ≡ Less → a.index < b.index
  lower e f a b less = go (cases_order a.index b.index)
    where
      go : (a.index ≡ b.index) ⊎ ((a.index < b.index) ⊎ (b.index < a.index)) → a.index < b.index
      go (inl same) =
          let tie : name_cmp e.0 f.0 ≡ Equal
          = ap (name_cmp e.0) (sym b.named ∙ ap (λ (i : ℕ). get_or names i []) (sym same) ∙ a.named) ∙ tied_itself nat_list_cmp_total e.0 in
          absurd cc
      go (inr (inl low)) = low
      go (inr (inr high)) =
          let up : name_cmp f.0 e.0 ≡ Less
          = (λ j. name_cmp (sym b.named j) (sym a.named j))
          ∙ Less-from_sorted name_cmp names b.index a.index [] (sorted_names s) high (omega (arith, a.within, length-names)) in
          let down : name_cmp e.0 f.0 ≡ Greater = nat_list_cmp_total.antisymm e.0 f.0 ∙ ap ordering_reverse up in
          absurd cc
        where
          length-names : length names ≡ length (entries s)
          length-names = length-map (entries s) (λ (g : Named). g.0)

  above_owner : (e : Named) (a : HasOwner e) (es : List Named) (w : (f : Named) → Contains es f → HasOwner f) → T (below_all name_cmp e.0 es)
      → AllByRecursion (λ m. nat_cmp a.index m ≡ Less) (owners es w)
  unfolding owners
  above_owner e a [] w below = tt
  above_owner e a (f ∷ es) w below =
      let parts = both-parts (is_lt (name_cmp e.0 f.0)) (below_all name_cmp e.0 es) below in
      let b = w f (0, omega arith, refl) in
      (less_is a.index b.index (lower e f a b (less-if (name_cmp e.0 f.0) parts.0)), above_owner e a es (λ g c. w g (suc c.0, omega (arith, c.1), c.2)) parts.1)

  sorted_owners : (es : List Named) (w : (e : Named) → Contains es e → HasOwner e) → T (is_sorted name_cmp es) → IsStrictlySortedBy nat_cmp (owners es w)
  unfolding owners IsStrictlySortedBy
  sorted_owners [] w sorted = tt
  sorted_owners (e ∷ es) w sorted =
      let parts = both-parts (below_all name_cmp e.0 es) (is_sorted name_cmp es) sorted in (
        above_owner e (w e (0, omega arith, refl)) es (λ f c. w f (suc c.0, omega (arith, c.1), c.2)) parts.0,
        sorted_owners es (λ f c. w f (suc c.0, omega (arith, c.1), c.2)) parts.1,
      )

  too_wide : MAX_SESSIONS < finite.len slice → NeedTooMuch h links
  too_wide over =
      inr (
        owners (entries slice) has_owner,
        omega (arith, over, finite.len-entries slice, length_owners (entries slice) has_owner),
        sorted_owners (entries slice) has_owner (entries_sorted slice),
        all_owners (entries slice) has_owner,
      )

  pub beyond : (IsWithinLimits Small slice → ⊥) → NeedTooMuch h links
  beyond not = go (cases_lt MAX_SESSIONS (finite.len slice)) (cases_lt MAX_TRANSACTIONS (transaction_count slice))
    where
      go : (MAX_SESSIONS < finite.len slice) ⊎ (finite.len slice ≤ MAX_SESSIONS) → (MAX_TRANSACTIONS < transaction_count slice) ⊎ (transaction_count slice ≤ MAX_TRANSACTIONS)
          → NeedTooMuch h links
      go (inl wide) count = too_wide wide
      go (inr narrow) (inl many) = too_many many
      go (inr narrow) (inr few) = absurd (not (narrow, few))
