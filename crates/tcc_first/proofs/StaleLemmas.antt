-- Derived links of two steps into a source, by their readers.
use Rattle.std.proofs.Common.{ℕ, ◌<◌, ◌≤◌, inl, inr, Bool, List, length, sym, subst, arith}
use Rattle.std.specs.Prelude.{◌↔◌, IsTrue, slice_index, slice_index_or}
use Rattle.tcc_reads.specs.History.{History, count}
use Rattle.tcc_graph.specs.Relations.{IsReadsPair}
use Rattle.tcc_graph.specs.Readings.{AreReadingsByIndex}
use Rattle.tcc_graph.specs.Keys.{IsWriter, key_at}
use Rattle.tcc_least.specs.Shapes.{IsRead}
use Rattle.tcc_least.proofs.ReadLemmas.{AreReadsAt}
use Rattle.tcc_least.proofs.ReturnLemmas.{read_at, place_of}
use Rattle.tcc_first.specs.private.Ways.{HasStaleSource, IsReadTwoStep, IsSessionTwoStep}
use Rattle.tcc_first.proofs.WayLemmas.{reader_at, place_of_reader}

module _ (h : History) (s : ℕ) where
  -- s overwrites what c reads from a source of s above it
  abbrev pub ReadsOverwritten : ℕ → Type 0
  ReadsOverwritten c = (u : ℕ) × (x : List ℕ) × IsReadsPair h u c x × (s < u) × IsWriter h s x × IsRead h u s

  -- ---- the reads of c
  module _ (c : ℕ) (reads : List (ℕ × ℕ)) (are : AreReadsAt h c reads) (below : c < count h) where
    -- s overwrites one of them, and reads from its source above
    abbrev pub IsThis : ℕ → Type 0
    IsThis k =
        (s < (slice_index_or reads k (0, 0)).1) × IsWriter h s (key_at h (slice_index_or reads k (0, 0)).0) × IsRead h (slice_index_or reads k (0, 0)).1 s

    pub this_read : (k : ℕ) → k < length reads → IsThis k → ReadsOverwritten c
    this_read k inside is =
        ((slice_index_or reads k (0, 0)).1, key_at h (slice_index_or reads k (0, 0)).0, read_at h c reads are below k inside, is.0, is.1, is.2)

    pub no_read : (n : ℕ) → length reads ≤ n → ((k : ℕ) → k < n → IsThis k → ⊥) → ReadsOverwritten c → ⊥
    no_read n all none (u, x, read, up, writer, source) =
        let w = place_of h c reads are below u x read in
        none w.0 (omega (arith, all, w.1))
        (omega (arith, up, w.2), subst (λ (z : List ℕ). IsWriter h s z) (sym w.3) writer, subst (λ (z : ℕ). IsRead h z s) (sym w.2) source)

  -- ---- the readers of s
  module _ (readers key_indices : List ℕ) (are : AreReadingsByIndex h s readers key_indices) where
    abbrev pub HasStaleRead : Type 0
    HasStaleRead = (u : ℕ) × IsRead h u s × (s ≤ u) × IsReadTwoStep h s u

    pub stale_read : (k : ℕ) → k < length readers → ReadsOverwritten (slice_index readers k) → HasStaleRead
    stale_read k inside (u, x, read, up, writer, source) = (
      u,
      source,
      omega (arith, up),
      (x, slice_index readers k, ((λ same. absurd (omega (arith, up, same))), read, writer), reader_at h s readers key_indices are k inside),
    )

    pub no_stale_read : (n : ℕ) → length readers ≤ n → ((k : ℕ) → k < n → ReadsOverwritten (slice_index readers k) → ⊥) → HasStaleRead → ⊥
    no_stale_read n all none (u, source, up, (x, c, (other, read, writer), by)) =
        let w = place_of_reader h s readers key_indices are c by in
        none w.0 (omega (arith, all, w.1))
        (subst (λ (z : ℕ). ReadsOverwritten z) (sym w.2) (u, x, read, omega (arith, up, other), writer, source))

  -- ---- the sources of s
  module _ (reads : List (ℕ × ℕ)) (are : AreReadsAt h s reads) (below : s < count h) where
    abbrev pub HasStaleSession : Type 0
    HasStaleSession = (u : ℕ) × IsRead h u s × (s ≤ u) × IsSessionTwoStep h s u

    pub stale_session : (k : ℕ) → k < length reads → s ≤ (slice_index_or reads k (0, 0)).1 → IsSessionTwoStep h s (slice_index_or reads k (0, 0)).1
        → HasStaleSession
    stale_session k inside up short = (
      (slice_index_or reads k (0, 0)).1,
      (key_at h (slice_index_or reads k (0, 0)).0, read_at h s reads are below k inside),
      up,
      short,
    )

    pub no_stale_session : (n : ℕ) → length reads ≤ n
        → ((k : ℕ) → k < n → s ≤ (slice_index_or reads k (0, 0)).1 → IsSessionTwoStep h s (slice_index_or reads k (0, 0)).1 → ⊥) → HasStaleSession → ⊥
    no_stale_session n all none (u, (x, read), up, short) =
        let w = place_of h s reads are below u x read in
        none w.0 (omega (arith, all, w.1)) (omega (arith, up, w.2)) (subst (λ (z : ℕ). IsSessionTwoStep h s z) (sym w.2) short)

  -- ---- by which they are
  pub by_session : ((u : ℕ) × IsRead h u s × (s ≤ u) × IsSessionTwoStep h s u) → HasStaleSource h s
  by_session (u, source, up, (x, c, against, p)) = (u, source, up, (x, c, against, inl p))

  pub stale_or : (r : Bool) → (((u : ℕ) × IsRead h u s × (s ≤ u) × IsSessionTwoStep h s u) → ⊥)
      → IsTrue r ↔ ((u : ℕ) × IsRead h u s × (s ≤ u) × IsReadTwoStep h s u) → IsTrue r ↔ HasStaleSource h s
  stale_or r none both = ((λ e. let (u, source, up, (x, c, against, q)) = both.0 e in (u, source, up, (x, c, against, inr q))), go)
    where
      go : HasStaleSource h s → IsTrue r
      go (u, source, up, (x, c, against, inl p)) = absurd (none (u, source, up, (x, c, against, p)))
      go (u, source, up, (x, c, against, inr q)) = both.1 (u, source, up, (x, c, against, q))
