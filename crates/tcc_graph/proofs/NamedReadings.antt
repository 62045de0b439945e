-- Readings by the indices of keys are readings by their names.
use Rattle.std.proofs.Common.{ℕ, ◌<◌, ◌≡◌, ◌⊎◌, inl, inr, List, [], ◌∷◌, length, map, refl, sym, ap, subst, ◌∙◌}
use Rattle.std.specs.Prelude.{zip}
use Rattle.std.specs.List.{AllByRecursion, Contains}
use Rattle.std.specs.List.Sorted.{IsStrictlySortedBy}
use Rattle.std.specs.Ordering.{nat_cmp, ordering_then}
use Rattle.std.specs.Cmp.{nat_cmp_is}
use Rattle.std.specs.declared.cmp.Ordering.{Ordering}
use Rattle.std.specs.declared.cmp.Ordering.TheVariants.{Less, Equal, Greater}
use Rattle.std.proofs.lemmas.Bool.{cases_order}
use Rattle.std.proofs.lemmas.List.{length-map}
use Rattle.std.proofs.lemmas.List.Elements.{recursion_from_All}
use Rattle.std.proofs.lemmas.Map.Keys.{Less-from_sorted}
use Rattle.tcc_txn.proofs.Lists.{in_map, from_map}
use Rattle.tcc_reads.specs.History.{History}
use Rattle.tcc_reads.specs.Sources.{name_cmp}
use Rattle.tcc_graph.specs.Relations.{by_number, IsReadsPair}
use Rattle.tcc_graph.specs.KeyIndices.{name_of}
use Rattle.tcc_graph.specs.Keys.{keys, key_at}
use Rattle.tcc_graph.specs.Readings.{AreReadings, AreReadingsByIndex}
use Rattle.tcc_graph.proofs.SortedKeys.{keys_sorted}
use Rattle.tcc_graph.proofs.WriterLemmas.{key_place}

-- the name in place of the index
abbrev pub with_name : List (List ℕ) → ℕ × ℕ → ℕ × List ℕ
with_name names p = (p.0, name_of names p.1)

pub zip-named : (names : List (List ℕ)) (numbers indices : List ℕ) → zip numbers (map (name_of names) indices) ≡ map (with_name names) (zip numbers indices)
zip-named names [] [] = refl
zip-named names [] (k ∷ indices) = refl
zip-named names (c ∷ numbers) [] = refl
zip-named names (c ∷ numbers) (k ∷ indices) = ap (λ rest. (c, name_of names k) ∷ rest) (zip-named names numbers indices)

lower : (i j : ℕ) → nat_cmp i j ≡ Less → i < j
lower i j less = go (cases_order i j)
  where
    go : (i ≡ j) ⊎ ((i < j) ⊎ (j < i)) → i < j
    go (inl same) = let tie = nat_cmp_is i j Equal same in absurd cc
    go (inr (inl below)) = below
    go (inr (inr above)) = let over = nat_cmp_is i j Greater above in absurd cc

module _ (names : List (List ℕ)) (sorted : IsStrictlySortedBy name_cmp names) where
  one_named : (p q : ℕ × ℕ) → q.1 < length names → by_number nat_cmp p q ≡ Less → by_number name_cmp (with_name names p) (with_name names q) ≡ Less
  one_named p q within less = go (nat_cmp p.0 q.0) less
    where
      go : (o : Ordering) → ordering_then o (nat_cmp p.1 q.1) ≡ Less → ordering_then o (name_cmp (name_of names p.1) (name_of names q.1)) ≡ Less
      go Less e = refl
      go Equal e = Less-from_sorted name_cmp names p.1 q.1 [] sorted (lower p.1 q.1 e) within
      go Greater e = absurd cc

  above_named : (p : ℕ × ℕ) (numbers indices : List ℕ) → AllByRecursion (λ k. k < length names) indices
      → AllByRecursion (λ q. by_number nat_cmp p q ≡ Less) (zip numbers indices)
      → AllByRecursion (λ q. by_number name_cmp (with_name names p) q ≡ Less) (map (with_name names) (zip numbers indices))
  above_named p [] [] within all = tt
  above_named p [] (k ∷ indices) within all = tt
  above_named p (c ∷ numbers) [] within all = tt
  above_named p (c ∷ numbers) (k ∷ indices) within all = (one_named p (c, k) within.0 all.0, above_named p numbers indices within.1 all.1)

  order_named : (numbers indices : List ℕ) → AllByRecursion (λ k. k < length names) indices → IsStrictlySortedBy (by_number nat_cmp) (zip numbers indices)
      → IsStrictlySortedBy (by_number name_cmp) (map (with_name names) (zip numbers indices))
  unfolding IsStrictlySortedBy
  order_named [] [] within all = tt
  order_named [] (k ∷ indices) within all = tt
  order_named (c ∷ numbers) [] within all = tt
  order_named (c ∷ numbers) (k ∷ indices) within all = (above_named (c, k) numbers indices within.1 all.0, order_named numbers indices within.1 all.1)

-- the readings of a, each with its key's name in place of the index
pub named_readings : (h : History) (a : ℕ) (readers indices : List ℕ) → AreReadingsByIndex h a readers indices → AreReadings h a readers (map (key_at h) indices)
named_readings h a readers indices are = record {
  long = are.long ∙ sym (length-map indices (key_at h));
  each = λ c x. (forth c x, back c x);
  order = subst (IsStrictlySortedBy (by_number name_cmp)) (sym zipped)
      (order_named (keys h) (keys_sorted h) readers indices (recursion_from_All (λ k. k < length (keys h)) indices are.within) are.order);
}
  where
    zipped : zip readers (map (key_at h) indices) ≡ map (with_name (keys h)) (zip readers indices)
    zipped = zip-named (keys h) readers indices

    forth : (c : ℕ) (x : List ℕ) → Contains (zip readers (map (key_at h) indices)) (c, x) → IsReadsPair h a c x
    forth c x there =
        let w = from_map (with_name (keys h)) (zip readers indices) (c, x) (subst (λ z. Contains z (c, x)) zipped there) in
        subst (λ (p : ℕ × List ℕ). IsReadsPair h a p.0 p.1) w.2 ((are.each w.0.0 w.0.1).0 w.1).1

    back : (c : ℕ) (x : List ℕ) → IsReadsPair h a c x → Contains (zip readers (map (key_at h) indices)) (c, x)
    back c x read =
        let w = key_place h a c x read in
        let named : IsReadsPair h a c (key_at h w.0) = subst (λ z. IsReadsPair h a c z) (sym w.2) read in
        let there : Contains (zip readers (map (key_at h) indices)) (c, key_at h w.0)
        = subst (λ z. Contains z (c, key_at h w.0)) (sym zipped)
        (in_map (with_name (keys h)) (zip readers indices) (c, w.0) ((are.each c w.0).1 (w.1, named))) in
        subst (λ z. Contains (zip readers (map (key_at h) indices)) (c, z)) w.2 there
