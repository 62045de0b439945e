-- Reads that are kept where a transaction reaches a reader by a single pair.
use Rattle.std.proofs.Common.{◌≡◌, ◌<◌, ◌≤◌, ◌+◌, ◌-◌, ℕ, true, ◌⊎◌, inl, inr, List, length, get_or, set, min, map}
use Rattle.std.proofs.Common.{replicate, arith, sym, ap, subst, ◌∙◌, ◌==◌}
use Rattle.std.specs.Prelude.{All}
use Rattle.std.specs.List.{Contains}
use Rattle.std.proofs.lemmas.Bool.{cases_eq, cases_lt, or_cases, eqb-true}
use Rattle.std.proofs.lemmas.List.{get_or_default, get_or-set_other, get_or-set_same, length-replicate, length-set}
use Rattle.tcc_reads.specs.History.{History, entry_at, owner, place}
use Rattle.tcc_graph.specs.Keys.{has_name, key_at, keys, writers}
use Rattle.tcc_graph.specs.Relations.{IsReadsPair, IsSessionPair}
use Rattle.tcc_graph.specs.declared.level.Level.TheVariants.{Atomic}
use Rattle.tcc_graph.proofs.NameLemmas.{has_name-contains}
use Rattle.tcc_graph.proofs.Pairs.{PairParts, pair_parts}
use Rattle.tcc_graph.proofs.WriterLemmas.{writer_listed}
use Rattle.tcc_check.specs.private.Latest.{AreApart, AreReadsKept, KeepsSessions, StandBefore}
use Rattle.tcc_check.specs.private.SinglePairs.{AreSourcePositions, DoSessionsStand, DoSourcesStand, DoesSessionStand, DoesWriterStand}
use Rattle.tcc_check.proofs.KeyOrder.{one_index}
use Rattle.tcc_check.proofs.Sessions.{by_keys, initial_before, read_listed, strictly_before}
use Rattle.tcc_txn.proofs.Lists.{from_map}

-- ---- the source of each key that is read

abbrev pub IsKey : History → ℕ × ℕ → Type 0
IsKey h read = read.0 < length (keys h)

-- the reads of a transaction are at their keys' positions
pub read_there : (h : History) (a c k : ℕ) (reads : List (ℕ × ℕ)) → map (λ (read : ℕ × ℕ). (key_at h read.0, read.1)) reads ≡ (entry_at h c).reads
    → All (IsKey h) reads → k < length (keys h) → IsReadsPair h a c (key_at h k)
    → (j : ℕ) × (j < length reads) × (get_or reads j (0, 0) ≡ (k, a))
read_there h a c k reads are within inside p =
    let there : Contains (map (λ (read : ℕ × ℕ). (key_at h read.0, read.1)) reads) (key_at h k, a) =
    subst (λ (rs : List (List ℕ × ℕ)). Contains rs (key_at h k, a)) (sym are) (read_listed h a c (key_at h k) p) in
    let w = from_map (λ (read : ℕ × ℕ). (key_at h read.0, read.1)) reads (key_at h k, a) there in
    let j : ℕ = w.1.0 in
    let l : j < length reads = w.1.1 in
    let is : get_or reads j (0, 0) ≡ w.0 = get_or_default reads j (0, 0) w.0 l ∙ w.1.2 in
    let low : w.0.0 < length (keys h) = subst (λ (r : ℕ × ℕ). r.0 < length (keys h)) is (within j (0, 0) l) in
    let one : w.0.0 ≡ k = one_index h w.0.0 k low inside (ap (λ (z : List ℕ × ℕ). z.0) w.2) in
    (j, l, is ∙ whole w.0 one (ap (λ (z : List ℕ × ℕ). z.1) w.2))
  where
    whole : (r : ℕ × ℕ) → r.0 ≡ k → r.1 ≡ a → r ≡ (k, a)
    whole r key source = ap (λ z. (z, r.1)) key ∙ ap (λ z. (k, z)) source

-- no more than the positions of the first sources
pub record AreLowTo (i : ℕ) (n : ℕ) (reads : List (ℕ × ℕ)) (positions sources : List ℕ) : Type 0 where
  pub long : length sources ≡ n
  pub low : (j : ℕ) → j < i → get_or sources (get_or reads j (0, 0)).0 0 ≤ get_or positions (get_or reads j (0, 0)).1 0

pub none_low : (n : ℕ) (reads : List (ℕ × ℕ)) (positions sources : List ℕ) (unread : ℕ) → sources ≡ replicate n unread → AreLowTo 0 n reads positions sources
none_low n reads positions sources unread is = record {
  long = ap length is ∙ length-replicate n unread;
  low = λ j l. absurd (omega (arith, l));
}

pub more_low : (i n : ℕ) (reads : List (ℕ × ℕ)) (positions sources : List ℕ) → (get_or reads i (0, 0)).0 < n → AreLowTo i n reads positions sources
    → AreLowTo (i + 1) n reads positions
    (set sources (get_or reads i (0, 0)).0 (min (get_or sources (get_or reads i (0, 0)).0 0) (get_or positions (get_or reads i (0, 0)).1 0)))
more_low i n reads positions sources inside before = record {
  long = length-set sources k least ∙ before.long;
  low = λ j l. go j l (cases_eq j i) (cases_eq (get_or reads j (0, 0)).0 k);
}
  where
    k : ℕ
    k = (get_or reads i (0, 0)).0

    least : ℕ
    least = min (get_or sources k 0) (get_or positions (get_or reads i (0, 0)).1 0)

    here : get_or (set sources k least) k 0 ≡ least
    here = get_or-set_same sources k least 0 (omega (arith, inside, before.long))

    go : (j : ℕ) → j < i + 1 → (j ≡ i) ⊎ (j ≡ i → ⊥) → ((get_or reads j (0, 0)).0 ≡ k) ⊎ ((get_or reads j (0, 0)).0 ≡ k → ⊥)
        → get_or (set sources k least) (get_or reads j (0, 0)).0 0 ≤ get_or positions (get_or reads j (0, 0)).1 0
    go j l (inl same) t = rw same (omega (arith, here))
    go j l (inr apart) (inl same) =
        let old = before.low j (omega (arith, l, apart)) in
        rw same (omega (arith, here, old, ap (λ (z : ℕ). get_or sources z 0) same))
    go j l (inr apart) (inr other) =
        let old = before.low j (omega (arith, l, apart)) in
        omega (arith, get_or-set_other sources k (get_or reads j (0, 0)).0 least 0 other, old)

pub all_low : (h : History) (c i : ℕ) (reads : List (ℕ × ℕ)) (positions sources : List ℕ) → i ≡ length reads
    → map (λ (read : ℕ × ℕ). (key_at h read.0, read.1)) reads ≡ (entry_at h c).reads → All (IsKey h) reads
    → AreLowTo i (length (keys h)) reads positions sources → AreSourcePositions h positions c sources
all_low h c i reads positions sources all are within low k a inside p =
    let there = read_there h a c k reads are within inside p in
    let old = low.low there.0 (omega (arith, there.1, all)) in
    omega (
      arith,
      old,
      ap (λ (z : ℕ × ℕ). get_or sources z.0 0) there.2,
      ap (λ (z : ℕ × ℕ). get_or positions z.1 0) there.2,
    )

-- ---- what a writer writes

pub writer_stands_by : (h : History) (b : ℕ) (ks positions sources : List ℕ) → map (key_at h) ks ≡ (entry_at h b).writes
    → All (λ k. k < length (keys h)) ks → ((j : ℕ) → j < length ks → get_or positions b 0 ≤ get_or sources (get_or ks j 0) 0)
    → DoesWriterStand h positions sources b
writer_stands_by h b ks positions sources are within each k inside named =
    let there : Contains (map (key_at h) ks) (key_at h k) =
    subst (λ (names : List (List ℕ)). Contains names (key_at h k)) (sym are) (has_name-contains (entry_at h b).writes (key_at h k) named) in
    let w = from_map (key_at h) ks (key_at h k) there in
    let low : w.0 < length (keys h) = subst (λ (z : ℕ). z < length (keys h)) w.1.2 (within w.1.0 w.0 w.1.1) in
    let one : w.0 ≡ k = one_index h w.0 k low inside w.2 in
    omega (
      arith,
      each w.1.0 w.1.1,
      ap (λ (z : ℕ). get_or sources z 0) (get_or_default ks w.1.0 0 w.0 w.1.1 ∙ w.1.2 ∙ one),
    )

-- the same for all sources
pub sources_stand_by : (h : History) (c : ℕ) (reads : List (ℕ × ℕ)) (positions sources : List ℕ)
    → map (λ (read : ℕ × ℕ). (key_at h read.0, read.1)) reads ≡ (entry_at h c).reads → All (IsKey h) reads → AreSourcePositions h positions c sources
    → ((j : ℕ) → j < length reads → DoesWriterStand h positions sources (get_or reads j (0, 0)).1) → DoSourcesStand h positions c
sources_stand_by h c reads positions sources are within low each b y a x from reading some writer = go (or_cases (b == 0) (has_name (entry_at h b).writes x) writer)
  where
    at : (z : List ℕ) (e : ℕ) → IsReadsPair h e c z → (k : ℕ) × (k < length (keys h)) × (key_at h k ≡ z) × ((j : ℕ) × (j < length reads) × ((get_or reads j (0, 0)).1 ≡ e))
    at z e p =
        let there : Contains (map (λ (read : ℕ × ℕ). (key_at h read.0, read.1)) reads) (z, e) =
        subst (λ (rs : List (List ℕ × ℕ)). Contains rs (z, e)) (sym are) (read_listed h e c z p) in
        let w = from_map (λ (read : ℕ × ℕ). (key_at h read.0, read.1)) reads (z, e) there in
        let is : get_or reads w.1.0 (0, 0) ≡ w.0 = get_or_default reads w.1.0 (0, 0) w.0 w.1.1 ∙ w.1.2 in (
          w.0.0,
          subst (λ (r : ℕ × ℕ). r.0 < length (keys h)) is (within w.1.0 (0, 0) w.1.1),
          ap (λ (r : List ℕ × ℕ). r.0) w.2,
          (
            w.1.0,
            w.1.1,
            ap (λ (r : ℕ × ℕ). r.1) is ∙ ap (λ (r : List ℕ × ℕ). r.1) w.2,
          ),
        )

    go : ((b == 0) ≡ true) ⊎ (has_name (entry_at h b).writes x ≡ true) → get_or positions b 0 ≤ get_or positions a 0
    go (inl zeroth) = absurd (omega (arith, eqb-true b 0 zeroth, some))
    go (inr named) =
        let key = at x a reading in
        let source = (at y b from).3 in
        let stands : DoesWriterStand h positions sources b = subst (DoesWriterStand h positions sources) source.2 (each source.0 source.1) in
        let under = stands key.0 key.1 (subst (λ (z : List ℕ). has_name (entry_at h b).writes z ≡ true) (sym key.2) named) in
        let over = low key.0 a key.1 (subst (λ (z : List ℕ). IsReadsPair h a c z) (sym key.2) reading) in
        omega (arith, under, over)

-- the same for all reads
pub sessions_stand_by : (h : History) (c : ℕ) (reads : List (ℕ × ℕ)) (positions : List ℕ)
    → map (λ (read : ℕ × ℕ). (key_at h read.0, read.1)) reads ≡ (entry_at h c).reads
    → ((j : ℕ) (d : ℕ × ℕ) → j < length reads → DoesSessionStand h positions (writers h (key_at h (get_or reads j d).0)) (get_or reads j d).1 c)
    → DoSessionsStand h positions c
sessions_stand_by h c reads positions are each =
    by_keys h c (λ x a. DoesSessionStand h positions (writers h x) a c) reads are each

-- ---- the reader's session

pub session_none : (h : History) (positions ws : List ℕ) (source c : ℕ) → ((b : ℕ) → 0 < b → IsSessionPair h b c → ⊥) → DoesSessionStand h positions ws source c
session_none h positions ws source c none b w some pair = absurd (none b some pair)

pub session_first : (h : History) (c : ℕ) → place h c ≡ 0 → (b : ℕ) → 0 < b → IsSessionPair h b c → ⊥
session_first h c first b some pair = let parts : PairParts h b c = pair_parts h b c pair in omega (arith, parts.lower some, first)

pub session_by : (h : History) (positions ws : List ℕ) (source c : ℕ) → StandBefore h positions ws (owner h c) (place h c - 1) source
    → DoesSessionStand h positions ws source c
session_by h positions ws source c stand b w some pair =
    let parts : PairParts h b c = pair_parts h b c pair in
    stand b w some (parts.same some) (omega (arith, parts.lower some))

-- ---- all reads

module _ (h : History) (positions : List ℕ) (c : ℕ) (kept : KeepsSessions h positions) (apart : AreApart positions) (sessions : DoSessionsStand h positions c)
    (sources : DoSourcesStand h positions c) (clocks : List (List ℕ)) where
  pub kept_by_pairs : AreReadsKept h Atomic positions clocks c
  kept_by_pairs x a reads b (other, reading, writer) reach = go (cases_lt 0 b) reach
    where
      go : (0 < b) ⊎ (b ≤ 0) → IsSessionPair h b c ⊎ ((y : List ℕ) × IsReadsPair h b c y) → get_or positions b 0 < get_or positions a 0
      go (inl some) (inl pair) =
          strictly_before h positions a b apart kept.long other writer.0 reads.0 (sessions x a reads b (writer_listed h x a c b reads writer) some pair)
      go (inl some) (inr (y, from)) =
          strictly_before h positions a b apart kept.long other writer.0 reads.0 (sources b y a x from reads some writer.1)
      go (inr none) p = initial_before h positions a b kept (omega (arith, none)) other writer.0 reads.0
