-- What transactions write and read, by the names of the keys.
use Rattle.std.proofs.Common.{ℕ, ◌+◌, ◌<◌, ◌≤◌, ◌≡◌, ◌⊎◌, inl, inr, Bool, true, false, List, [], ◌∷◌, ◌++◌, length, get_or, map, refl, sym, ap, ◌∙◌}
use Rattle.std.proofs.Common.{arith, length-append}
use Rattle.std.specs.Prelude.{All, zip, ◌==◌}
use Rattle.std.proofs.lemmas.Bool.{cases_lt, ne_eqb}
use Rattle.std.proofs.lemmas.List.{get_or_read, get_or_push, get_or_append_left, get_or-map, length-map}
use Rattle.std.proofs.lemmas.Slice.Zip.{seconds-zip}
use Rattle.tcc_reads.specs.History.{History, count, entry_at}
use Rattle.tcc_graph.specs.KeyIndices.{name_of}
use Rattle.tcc_graph.specs.Keys.{has_name, keys, key_at, IsWriter}
use Rattle.tcc_graph.specs.Relations.{reads_from, IsReadsPair}
use Rattle.tcc_graph.specs.Readings.{AreReadingsByIndex}
use Rattle.tcc_graph.specs.private.Grouped.{of_group}
use Rattle.tcc_graph.specs.private.Graphs.{Named, named_of, IsNamed, AreNamed}
use Rattle.tcc_graph.proofs.GroupedLemmas.{map-zip, zip-map}
use Rattle.tcc_graph.proofs.NameLemmas.{has_name-contains, contains-has_name}
use Rattle.tcc_graph.proofs.NamedReadings.{with_name, zip-named, named_readings}

-- ---- one transaction

of_group-named : (names : List (List ℕ)) (ps : List (ℕ × ℕ)) (b : ℕ) → of_group (map (with_name names) ps) b ≡ map (name_of names) (of_group ps b)
of_group-named names [] b = refl
of_group-named names (p ∷ ps) b = go (p.0 == b) refl (of_group-named names ps b)
  where
    go : (t : Bool) → (p.0 == b) ≡ t → of_group (map (with_name names) ps) b ≡ map (name_of names) (of_group ps b)
        → of_group (map (with_name names) (p ∷ ps)) b ≡ map (name_of names) (of_group (p ∷ ps) b)
    go true e rest = rw e (ap (λ z. name_of names p.1 ∷ z) rest)
    go false e rest = rw e rest

-- by its tables of indices
module _ (h : History) (n : ℕ) (p : Named) (row : List (ℕ × ℕ)) where
  pub is_named : p.writes ≡ (entry_at h n).writes → p.reads ≡ (entry_at h n).reads → All (λ read. read.1 < count h) p.reads
      → p.readings ≡ zip (map (λ q. q.0) row) (map (key_at h) (map (λ q. q.1) row))
      → AreReadingsByIndex h n (map (λ q. q.0) row) (map (λ q. q.1) row)
      → ((b : ℕ) → b < count h → map (key_at h) (of_group row b) ≡ reads_from h n b) → IsNamed h n p
  is_named written read sources readings are from = record {
    writes = written;
    reads = read;
    sources = sources;
    from = λ b below. rw readings
        (ap (λ ps. of_group ps b) (zip-named (keys h) readers indices ∙ ap (map (with_name (keys h))) (zip-map row)) ∙ of_group-named (keys h) row b ∙ from b below);
    readings = rw (readings, map-zip readers names long, seconds-zip readers names long) (named_readings h n readers indices are);
  }
    where
      readers : List ℕ
      readers = map (λ q. q.0) row

      indices : List ℕ
      indices = map (λ q. q.1) row

      names : List (List ℕ)
      names = map (key_at h) indices

      long : length names ≡ length readers
      long = length-map indices (key_at h) ∙ sym are.long

-- ---- all of them

pub more_named : (h : History) (n : ℕ) (names : List Named) (p : Named) → AreNamed h n names → IsNamed h n p → AreNamed h (n + 1) (names ++ p ∷ [])
more_named h n names p before here = record {
  long = omega (arith, length-append names (p ∷ []), before.long);
  each = λ k low. go k (cases_lt k n) low;
}
  where
    go : (k : ℕ) → (k < n) ⊎ (n ≤ k) → k < n + 1 → IsNamed h k (named_of (names ++ p ∷ []) k)
    go k (inl early) low = rw (get_or_append_left names (p ∷ []) (named_of [] 0) k (omega (arith, early, before.long))) (before.each k early)
    go k (inr late) low =
        let same : k ≡ n = omega arith in
        rw (get_or_push names p (named_of [] 0) k (omega (arith, same, before.long)), same) here

pub named_at : (h : History) (m : ℕ) (names : List Named) → AreNamed h m names → (n : ℕ) → n < m → (p : Named) → p ≡ get_or names n p → IsNamed h n p
named_at h m names are n below p is = rw (get_or_read names n p (omega (arith, below, are.long)) is (named_of [] 0)) (are.each n below)

-- ---- a key among those at some indices

module _ (names : List (List ℕ)) (indices : List ℕ) (i : ℕ) (one : List ℕ) (inside : i < length indices) (within : get_or indices i 0 < length names)
    (is : one ≡ get_or names (get_or indices i 0) one) where
  pub name_there : (d : List ℕ) → get_or (map (name_of names) indices) i d ≡ one
  name_there d = get_or-map (name_of names) indices i 0 d inside ∙ sym (get_or_read names (get_or indices i 0) one within is [])

-- ---- reads and writes, found by name

module _ (h : History) (a c : ℕ) (x : List ℕ) (r : Bool) (from : a < count h) (to : c < count h) (is : r ≡ has_name (reads_from h a c) x) where
  pub read_found : r ≡ true → IsReadsPair h a c x
  read_found found = (from, to, has_name-contains (reads_from h a c) x (sym is ∙ found))

  pub found_read : IsReadsPair h a c x → r ≡ true
  found_read (f, t, there) = is ∙ contains-has_name (reads_from h a c) x there

module _ (h : History) (b : ℕ) (x : List ℕ) (r : Bool) (below : b < count h) (some : b ≡ 0 → ⊥) (is : r ≡ has_name (entry_at h b).writes x) where
  pub write_found : r ≡ true → IsWriter h b x
  write_found found = (below, rw (ne_eqb b 0 some) (sym is ∙ found))

  pub found_write : IsWriter h b x → r ≡ true
  found_write (l, w) = is ∙ rw (ne_eqb b 0 some) at w
