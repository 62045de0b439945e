-- The tables of reads and of writes, as they grow.
use Rattle.std.proofs.Common.{ℕ, ◌+◌, ◌<◌, ◌≤◌, ◌≡◌, ◌⊎◌, inl, inr, List, [], length, get_or, refl, sym, ap, ◌∙◌, arith, ⊎_elim}
use Rattle.std.specs.List.{All, Contains}
use Rattle.std.specs.Prelude.{zip, ◌↔◌}
use Rattle.tcc_bits.proofs.Lists.{zip_at, zip_has, zip-long}
use Rattle.std.proofs.lemmas.Bool.{cases_eq, cases_lt}
use Rattle.std.proofs.lemmas.List.{get_or_default, get_or_past}
use Rattle.std.proofs.lemmas.List.Elements.{Contains-get_or}
use Rattle.tcc_reads.specs.History.{History, count}
use Rattle.tcc_graph.specs.Relations.{IsReadsPair}
use Rattle.tcc_graph.specs.Keys.{keys, writers, IsWriter}
use Rattle.tcc_graph.specs.KeyIndices.{name_of}
use Rattle.tcc_derive.specs.private.Buckets.{bucket, Puts}
use Rattle.tcc_derive.specs.private.KeyTables.{AreReadsAt, IsReadsOf, HasWrites, IsWritesOf}
use Rattle.tcc_derive.specs.private.Lowering.{HaveReads}
use Rattle.tcc_derive.specs.declared.read.Read.{Read}
use Rattle.tcc_graph.proofs.WriterLemmas.{writer_writes, writer_in}
use Rattle.tcc_derive.proofs.KeyLemmas.{key_at}

no_items : {X : Type 0} (table : List (List X)) (i : ℕ) (x : X) → All (λ bucket. bucket ≡ []) table → Contains (bucket table i) x → ⊥
no_items table i x empty h = go (rw (nothing (cases_lt i (length table))) at h)
  where
    nothing : (i < length table) ⊎ (length table ≤ i) → bucket table i ≡ []
    nothing (inl inside) = empty i [] inside
    nothing (inr past) = get_or_past table i [] past

    go : Contains {X = _} [] x → ⊥
    go (k, l, e) = absurd (omega arith)

-- the source and the reader of each read of a key are transactions of the history
pub reads_below : (h : History) (x : List ℕ) (sources readers : List ℕ) → length sources ≡ length readers
    → ((a c : ℕ) → Contains (zip sources readers) (a, c) ↔ IsReadsPair h a c x) → (i : ℕ) → i < length sources
    → (get_or sources i 0 < count h) × (get_or readers i 0 < count h)
reads_below h x sources readers same pairs i inside =
    let pair = (pairs (get_or sources i 0) (get_or readers i 0)).0 (zip_has sources readers i 0 same inside) in
    (pair.0, pair.1)

-- reads that are listed as their sources and their readers are, are the reads of a key
pub reads_listed : (h : History) (k : ℕ) (sources readers : List ℕ) (reads : List Read) → length sources ≡ length readers
    → ((a c : ℕ) → Contains (zip sources readers) (a, c) ↔ IsReadsPair h a c (name_of (keys h) k)) → length reads ≡ length sources
    → ((i : ℕ) (d : Read) → i < length sources → get_or reads i d ≡ record { source = get_or sources i 0; reader = get_or readers i 0 }) → AreReadsAt h k reads
reads_listed h k sources readers reads same pairs long each r = (onward, back)
  where
    onward : Contains reads r → IsReadsPair h r.source r.reader (name_of (keys h) k)
    onward (i, l, e) =
        let inside : i < length sources = omega (arith, long) in
        let is : record { source = get_or sources i 0; reader = get_or readers i 0 } ≡ r = sym (each i r inside) ∙ (sym (get_or_default reads i r _ l) ∙ e) in
        rw (← is) ((pairs (get_or sources i 0) (get_or readers i 0)).0 (zip_has sources readers i 0 same inside))

    back : IsReadsPair h r.source r.reader (name_of (keys h) k) → Contains reads r
    back pair = go ((pairs r.source r.reader).1 pair)
      where
        go : Contains (zip sources readers) (r.source, r.reader) → Contains reads r
        go (i, l, e) =
            let inside : i < length sources = omega (arith, zip-long sources readers same) in
            let both : (get_or sources i r.source, get_or readers i r.reader) ≡ (r.source, r.reader) =
            sym (zip_at sources readers i r.source r.reader same inside) ∙ e in
            let first : get_or sources i 0 ≡ r.source = sym (get_or_default sources i r.source 0 inside) ∙ ap (λ (p : ℕ × ℕ). p.0) both in
            let second : get_or readers i 0 ≡ r.reader =
            sym (get_or_default readers i r.reader 0 (omega (arith, same, inside))) ∙ ap (λ (p : ℕ × ℕ). p.1) both in
            let is : record { source = get_or sources i 0; reader = get_or readers i 0 } ≡ r = rw (first, second) refl in
            (i, omega (arith, long), each i _ inside ∙ is)

module _ (h : History) where
  pub no_writes_yet : (written : List (List ℕ)) → length written ≡ count h → All (λ bucket. bucket ≡ []) written → HasWrites h 0 written
  no_writes_yet written long empty = record {
    long = long;
    wrote = λ b k l there. absurd (no_items written b k empty there);
    each = λ b k l m w. absurd (omega arith);
  }

  pub writes_added : (n : ℕ) (old new : List (List ℕ)) (x : List ℕ) → HasWrites h n old → n < length (keys h) → x ≡ name_of (keys h) n
      → Puts old new (Contains (writers h x)) n → HasWrites h (n + 1) new
  writes_added n old new x before within is puts = record {
    long = puts.long ∙ before.long;
    wrote = λ b k l there. ⊎_elim
        (λ was. before.wrote b k l was)
        (λ w. rw w.1 (within, rw (← is) (writer_writes h x b w.0)))
        (puts.only b k there);
    each = λ b k l m w. go b k l m w (cases_eq k n);
  }
    where
      go : (b k : ℕ) → b < count h → k < n + 1 → IsWriter h b (name_of (keys h) k) → (k ≡ n) ⊎ (k ≡ n → ⊥) → Contains (bucket new b) k
      go b k l m w (inl same) =
          rw same (puts.put b (omega (arith, before.long)) (rw is (writer_in h (name_of (keys h) n) b (key_at h n within) (rw same at w))))
      go b k l m w (inr other) = puts.kept b k (before.each b k l (omega arith) w)

  pair_in : (reads : List (List Read)) → IsReadsOf h reads → (k : ℕ) (d : List Read) → k < length reads → (j : ℕ) (e : Read) → j < length (get_or reads k d)
      → IsReadsPair h (get_or (get_or reads k d) j e).source (get_or (get_or reads k d) j e).reader (name_of (keys h) k)
  pair_in reads read k d l j e m =
      (read.each k (omega (arith, read.long)) (get_or (get_or reads k d) j e)).0
      (rw (get_or_default reads k [] d l) (Contains-get_or (get_or reads k d) j e m))

  -- what the rows of a transaction need
  pub have_reads : (n : ℕ) (reads : List (List Read)) (written : List (List ℕ)) (b : ℕ) → n ≡ count h → IsReadsOf h reads → IsWritesOf h written
      → b < count h → HaveReads n reads (bucket written b)
  have_reads n reads written b long read wrote from = record {
    inside = λ k d l. rw read.long (wrote.wrote b (get_or (bucket written b) k d) from (Contains-get_or (bucket written b) k d l)).0;
    sources = λ k d l j e m. rw long (pair_in reads read k d l j e m).0;
    readers = λ k d l j e m. rw long (pair_in reads read k d l j e m).1;
  }

  -- the sources and the readers of all reads are transactions
  pub all_sources : (n : ℕ) (reads : List (List Read)) → n ≡ count h → IsReadsOf h reads
      → All (λ (bucket : List Read). All (λ (r : Read). r.source < n) bucket) reads
  all_sources n reads long read k d l j e m = rw long (pair_in reads read k d l j e m).0

  pub all_readers : (n : ℕ) (reads : List (List Read)) → n ≡ count h → IsReadsOf h reads
      → All (λ (bucket : List Read). All (λ (r : Read). r.reader < n) bucket) reads
  all_readers n reads long read k d l j e m = rw long (pair_in reads read k d l j e m).1
