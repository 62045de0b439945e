-- The external reads of a history in a list.
use Rattle.std.proofs.Common.{◌≡◌, ◌<◌, ◌≤◌, ◌+◌, ◌==◌, ◌⊎◌, inl, inr, ℕ, zero, suc, List, [], ◌∷◌, ◌++◌, length, length-append, map, filter, get_or, refl, sym, ap, ◌∙◌, subst, arith}
use Rattle.std.specs.List.{All, Contains}
use Rattle.std.proofs.lemmas.Bool.{cases_lt, eq-eqb}
use Rattle.std.proofs.lemmas.List.{get_or_default, length-map}
use Rattle.tcc_txn.proofs.Lists.{in_filter, in_map}
use Rattle.tcc_reads.specs.History.{History, count, entry_at}
use Rattle.tcc_graph.specs.Relations.{IsReadsPair}
use Rattle.tcc_graph.specs.Keys.{keys, key_at}
use Rattle.tcc_survey.specs.declared.external_reads.Reading.{Reading}
use Rattle.tcc_survey.specs.Contradictions.{ComesBefore}
use Rattle.tcc_survey.specs.private.Settled.{reading_of}
use Rattle.tcc_survey.specs.private.Listed.{IsEarlier, IsReadOf, AreReadsUpTo}
use Rattle.tcc_survey.proofs.Pushed.{pushed_early, pushed_last, pushed_all, pushed_order}

-- a read that is listed is a pair
pub listed_pair : (h : History) (a c : ℕ) (x : List ℕ) → a < count h → c < count h → (let read : List ℕ × ℕ = (x, a) in Contains (entry_at h c).reads read)
    → IsReadsPair h a c x
listed_pair h a c x from to there = (
  from,
  to,
  in_map (λ (read : List ℕ × ℕ). read.0) (filter (λ read. read.1 == a) (entry_at h c).reads) (x, a)
      (in_filter (λ (read : List ℕ × ℕ). read.1 == a) (entry_at h c).reads (x, a) there (eq-eqb a a refl)),
)

-- the one of an index, by key and source
read_of : (f : ℕ → List ℕ) (reads : List (ℕ × ℕ)) (i : ℕ) → i < length reads
    → ◌≡◌ {A = List ℕ × ℕ} (get_or (map (λ (read : ℕ × ℕ). (f read.0, read.1)) reads) i ([], 0)) (f (get_or reads i (0, 0)).0, (get_or reads i (0, 0)).1)
read_of f [] i l = absurd (omega arith)
read_of f (r ∷ reads) zero l = refl
read_of f (r ∷ reads) (suc i) l = read_of f reads i (omega arith)

abbrev added : ℕ → ℕ → ℕ → ℕ → Reading
added reader index key_index source = record { reader = reader; index = index; key_index = key_index; source = source }

module _ (h : History) (c i : ℕ) (reads : List (ℕ × ℕ)) (value : map (λ read. (key_at h read.0, read.1)) reads ≡ (entry_at h c).reads)
    (within : All (λ read. (read.0 < length (keys h)) × (read.1 < count h)) reads) (below : c < count h) (inside : i < length reads) where
  abbrev one : ℕ × ℕ
  one = get_or reads i (0, 0)

  long : length (entry_at h c).reads ≡ length reads
  long = ap length (sym value) ∙ length-map reads (λ (read : ℕ × ℕ). (key_at h read.0, read.1))

  here : ◌≡◌ {A = List ℕ × ℕ} (get_or (entry_at h c).reads i ([], 0)) (key_at h (get_or reads i (0, 0)).0, (get_or reads i (0, 0)).1)
  here = ap (λ (z : List (List ℕ × ℕ)). get_or z i ([], 0)) (sym value) ∙ read_of (key_at h) reads i inside

  is_read : IsReadOf h (added c i (get_or reads i (0, 0)).0 (get_or reads i (0, 0)).1)
  is_read = record {
    inside = omega (arith, inside, long);
    read = here;
    reading = record {
      key = (within i (0, 0) inside).0;
      pair = listed_pair h one.1 c (key_at h one.0) (within i (0, 0) inside).1 below (
        i,
        omega (arith, inside, long),
        get_or_default (entry_at h c).reads i (key_at h one.0, one.1) ([], 0) (omega (arith, inside, long)) ∙ here,
      );
    };
  }

  abbrev new : Reading
  new = added c i (get_or reads i (0, 0)).0 (get_or reads i (0, 0)).1

  -- what stands where there is no read
  abbrev unread : Reading
  unread = added 0 0 0 0

  -- one read more
  pub reads_more : (all : List Reading) → AreReadsUpTo h c i all
      → AreReadsUpTo h c (i + 1) (all ++ added c i (get_or reads i (0, 0)).0 (get_or reads i (0, 0)).1 ∷ [])
  reads_more all are = record {
    each = pushed_all all new unread (IsReadOf h) are.each is_read;
    early = pushed_all all new unread (λ r. IsEarlier r.reader r.index c (i + 1)) (λ m n. later m (are.early m n)) (inr (refl, omega arith));
    whole = λ d e low less early. find d e low less (split d e early);
    order = pushed_order all new unread ComesBefore are.order are.early;
  }
    where
      later : (m : ℕ) → IsEarlier (reading_of all m).reader (reading_of all m).index c i → IsEarlier (reading_of all m).reader (reading_of all m).index c (i + 1)
      later m (inl less) = inl less
      later m (inr w) = inr (w.0, omega (arith, w.1))

      split : (d e : ℕ) → IsEarlier d e c (i + 1) → IsEarlier d e c i ⊎ ((d ≡ c) × (e ≡ i))
      split d e (inl less) = inl (inl less)
      split d e (inr w) = go (cases_lt e i)
        where
          go : (e < i) ⊎ (i ≤ e) → IsEarlier d e c i ⊎ ((d ≡ c) × (e ≡ i))
          go (inl less) = inl (inr (w.0, less))
          go (inr more) = inr (w.0, omega (arith, w.1, more))

      find : (d e : ℕ) → d < count h → e < length (entry_at h d).reads → IsEarlier d e c i ⊎ ((d ≡ c) × (e ≡ i))
          → (k : ℕ) × (k < length (all ++ new ∷ [])) × ((reading_of (all ++ new ∷ []) k).reader ≡ d) × ((reading_of (all ++ new ∷ []) k).index ≡ e)
      find d e low less (inl before) =
          let w = are.whole d e low less before in
          let was = pushed_early all new unread w.0 w.1 in
          (w.0, omega (arith, w.1, length-append all (new ∷ [])), ap (λ r. r.reader) was ∙ w.2, ap (λ r. r.index) was ∙ w.3)
      find d e low less (inr same) =
          let last = pushed_last all new unread (length all) refl in
          (length all, omega (arith, length-append all (new ∷ [])), ap (λ r. r.reader) last ∙ sym same.0, ap (λ r. r.index) last ∙ sym same.1)

-- all reads of a transaction are those before the next one
pub reads_next : (h : History) (c i : ℕ) (all : List Reading) → length (entry_at h c).reads ≤ i → AreReadsUpTo h c i all → AreReadsUpTo h (c + 1) 0 all
reads_next h c i all past are = record {
  each = are.each;
  early = λ k l. up k (are.early k l);
  whole = λ d e low less early. are.whole d e low less (down d e less early);
  order = are.order;
}
  where
    up : (k : ℕ) → IsEarlier (reading_of all k).reader (reading_of all k).index c i → IsEarlier (reading_of all k).reader (reading_of all k).index (c + 1) 0
    up k (inl less) = inl (omega (arith, less))
    up k (inr w) = inl (omega (arith, w.0))

    down : (d e : ℕ) → e < length (entry_at h d).reads → IsEarlier d e (c + 1) 0 → IsEarlier d e c i
    down d e less (inr w) = absurd (omega (arith, w.1))
    down d e less (inl early) = go (cases_lt d c)
      where
        go : (d < c) ⊎ (c ≤ d) → IsEarlier d e c i
        go (inl low) = inl low
        go (inr high) =
            let same : d ≡ c = omega (arith, early, high) in
            let short : e < length (entry_at h c).reads = subst (λ (z : ℕ). e < length (entry_at h z).reads) same less in
            inr (same, omega (arith, short, past))

pub reads_none : (h : History) → AreReadsUpTo h 0 0 []
reads_none h = record {
  each = λ k l. absurd (omega arith);
  early = λ k l. absurd (omega arith);
  whole = λ d e low less early. absurd (never d e early);
  order = λ k l less up. absurd (omega arith);
}
  where
    never : (d e : ℕ) → IsEarlier d e 0 0 → ⊥
    never d e (inl less) = omega arith
    never d e (inr w) = omega (arith, w.1)
