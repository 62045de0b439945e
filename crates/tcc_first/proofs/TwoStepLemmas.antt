-- Derived links of two steps, by the keys of the one transaction and the readers of the other.
use Rattle.std.proofs.Common.{ℕ, ◌<◌, ◌≤◌, ◌≡◌, ◌⊎◌, inl, inr, true, List, length, map, refl, sym, subst, arith}
use Rattle.std.specs.Prelude.{◌≢◌, ◌↔◌, slice_index, zip}
use Rattle.std.specs.List.{Contains}
use Rattle.std.proofs.lemmas.Bool.{cases_eq}
use Rattle.tcc_reads.specs.History.{History, IsBySession, count, entry_at}
use Rattle.tcc_graph.specs.Relations.{IsSessionPair, IsReadsPair, IsCausalPair, causal_pair, session_pair}
use Rattle.tcc_graph.specs.Readings.{AreReadingsByIndex, AreReadingsOfKey}
use Rattle.tcc_graph.specs.Keys.{key_at}
use Rattle.tcc_graph.proofs.Pairs.{pair_kinds, pair_from_kinds}
use Rattle.tcc_graph.proofs.Sessions.{upto}
use Rattle.tcc_least.proofs.ReturnLemmas.{written_at}
use Rattle.tcc_first.specs.private.Ways.{IsSessionTwoStep, IsTwoStep}
use Rattle.tcc_first.proofs.WayLemmas.{reader_at, place_of_reader, rises_to}
use Rattle.tcc_first.proofs.ReturnLemmas.{place_of_key}

-- ---- the readers of a key from one source
module _ (h : History) (source key_index : ℕ) (sources all_readers readers : List ℕ) (of_key : AreReadingsOfKey h key_index sources all_readers)
    (each : (c : ℕ) → Contains readers c ↔ Contains (zip sources all_readers) (source, c)) where
  pub reader_listed : (c : ℕ) → IsReadsPair h source c (key_at h key_index) → Contains readers c
  reader_listed c read = (each c).1 ((of_key.each source c).1 read)

  pub listed_reads : (c : ℕ) → Contains readers c → IsReadsPair h source c (key_at h key_index)
  listed_reads c there = (of_key.each source c).0 ((each c).0 there)

  -- a pair from a transaction to a reader of the key from the source
  abbrev pub IsLed : ℕ → Type 0
  IsLed from = (c : ℕ) × IsReadsPair h source c (key_at h key_index) × IsCausalPair h from c

  module _ (from low high : ℕ) (later : (c : ℕ) → IsSessionPair h from c ↔ ((low ≤ c) × (c < high))) where
    pub session_led : ((n : ℕ) × Contains readers n × (low ≤ n) × (n < high)) → IsLed from
    session_led (n, there, past, below) = (n, listed_reads n there, inl ((later n).1 (past, below)))

    module _ (froms indices : List ℕ) (are : AreReadingsByIndex h from froms indices) where
      pub read_led : (k : ℕ) → k < length froms → Contains readers (slice_index froms k) → IsLed from
      read_led k inside there = (slice_index froms k, listed_reads (slice_index froms k) there, inr (reader_at h from froms indices are k inside))

      pub none_led : (((n : ℕ) × Contains readers n × (low ≤ n) × (n < high)) → ⊥) → (n : ℕ) → length froms ≤ n
          → ((k : ℕ) → k < n → Contains readers (slice_index froms k) → ⊥) → IsLed from → ⊥
      none_led none n all never (c, read, inl p) = let w = (later c).0 p in none (c, reader_listed c read, w.0, w.1)
      none_led none n all never (c, read, inr q) =
          let w = place_of_reader h from froms indices are c q in
          never w.0 (omega (arith, all, w.1)) (subst (λ (z : ℕ). Contains readers z) (sym w.2) (reader_listed c read))

  -- a reader that follows a transaction in session order
  abbrev pub IsLater : ℕ → Type 0
  IsLater from = (c : ℕ) × IsReadsPair h source c (key_at h key_index) × IsSessionPair h from c

  module _ (ordered : IsBySession h.entries) (from : ℕ) (some : 0 < from) where
    pub none_later : ((n : ℕ) → Contains readers n → n ≤ from) → IsLater from → ⊥
    none_later low (c, read, p) = omega (arith, low c (reader_listed c read), rises_to h ordered from c some p)

    -- if there is one, it is the first above it
    pub first_later : (m : ℕ) → from < m → ((n : ℕ) → Contains readers n → from < n → m ≤ n) → IsLater from → IsSessionPair h from m
    first_later m past least (c, read, p) = go (cases_eq m c)
      where
        up : m ≤ c
        up = least c (reader_listed c read) (rises_to h ordered from c some p)

        go : (m ≡ c) ⊎ (m ≡ c → ⊥) → IsSessionPair h from m
        go (inl same) = subst (λ (z : ℕ). IsSessionPair h from z) (sym same) p
        go (inr other) = upto h ordered from c some p m past (omega (arith, up, other))

-- ---- pairs from `init`
module _ (h : History) (source : ℕ) (readers indices : List ℕ) (are : AreReadingsByIndex h source readers indices) where
  pub init_led : (k : ℕ) → k < length readers → causal_pair h 0 (slice_index readers k) ≡ true
      → (x : List ℕ) × (c : ℕ) × IsReadsPair h source c x × IsCausalPair h 0 c
  init_led k inside pair =
      let read = reader_at h source readers indices are k inside in
      (read.0, slice_index readers k, read.1, pair_kinds h 0 (slice_index readers k) pair)

  pub none_from_init : (n : ℕ) → length readers ≤ n → ((k : ℕ) → k < n → causal_pair h 0 (slice_index readers k) ≡ true → ⊥)
      → ((x : List ℕ) × (c : ℕ) × IsReadsPair h source c x × IsCausalPair h 0 c) → ⊥
  none_from_init n all none (x, c, read, pair) =
      let w = place_of_reader h source readers indices are c (x, read) in
      none w.0 (omega (arith, all, w.1)) (subst (λ (z : ℕ). causal_pair h 0 z ≡ true) (sym w.2) (pair_from_kinds h 0 c pair))

  pub init_after : (k : ℕ) → k < length readers → session_pair h 0 (slice_index readers k) ≡ true
      → (x : List ℕ) × (c : ℕ) × IsReadsPair h source c x × IsSessionPair h 0 c
  init_after k inside pair = let read = reader_at h source readers indices are k inside in (read.0, slice_index readers k, read.1, pair)

  pub none_after_init : (n : ℕ) → length readers ≤ n → ((k : ℕ) → k < n → session_pair h 0 (slice_index readers k) ≡ true → ⊥)
      → ((x : List ℕ) × (c : ℕ) × IsReadsPair h source c x × IsSessionPair h 0 c) → ⊥
  none_after_init n all none (x, c, read, pair) =
      let w = place_of_reader h source readers indices are c (x, read) in
      none w.0 (omega (arith, all, w.1)) (subst (λ (z : ℕ). session_pair h 0 z ≡ true) (sym w.2) pair)

  pub none_reads_init : (((x : List ℕ) × (c : ℕ) × IsReadsPair h source c x × IsCausalPair h 0 c) → ⊥) → IsTwoStep h 0 source → ⊥
  none_reads_init none (x, c, (other, read, writer), pair) = none (x, c, read, pair)

-- `init` writes every key
pub init_two_step : (h : History) (source : ℕ) → 0 < count h → (0 ≢ source) → ((x : List ℕ) × (c : ℕ) × IsReadsPair h source c x × IsCausalPair h 0 c)
    → IsTwoStep h 0 source
init_two_step h source some other (x, c, read, pair) = (x, c, (other, read, (some, refl)), pair)

pub init_session_two_step : (h : History) (source : ℕ) → 0 < count h → (0 ≢ source)
    → ((x : List ℕ) × (c : ℕ) × IsReadsPair h source c x × IsSessionPair h 0 c) → IsSessionTwoStep h 0 source
init_session_two_step h source some other (x, c, read, pair) = (x, c, (other, read, (some, refl)), pair)

pub session_two_step_init : (h : History) (source : ℕ) → IsSessionTwoStep h 0 source
    → (x : List ℕ) × (c : ℕ) × IsReadsPair h source c x × IsSessionPair h 0 c
session_two_step_init h source (x, c, (other, read, writer), pair) = (x, c, read, pair)

-- ---- each key that b writes
module _ (h : History) (b a : ℕ) (writes : List ℕ) (value : map (key_at h) writes ≡ (entry_at h b).writes) where
  pub written_two_step : (k : ℕ) → b < count h → k < length writes → b ≢ a
      → ((c : ℕ) × IsReadsPair h a c (key_at h (slice_index writes k)) × IsCausalPair h b c) → IsTwoStep h b a
  written_two_step k below inside other (c, read, pair) =
      (key_at h (slice_index writes k), c, (other, read, written_at h b writes value k below inside), pair)

  pub none_written : (n : ℕ) → 0 < b → length writes ≤ n
      → ((k : ℕ) → k < n → ((c : ℕ) × IsReadsPair h a c (key_at h (slice_index writes k)) × IsCausalPair h b c) → ⊥) → IsTwoStep h b a → ⊥
  none_written n some all none (x, c, (other, read, writer), pair) =
      let w = place_of_key h b writes value x some writer in
      none w.0 (omega (arith, all, w.1)) (c, subst (λ (z : List ℕ). IsReadsPair h a c z) (sym w.2) read, pair)

  pub written_session : (k : ℕ) → b < count h → k < length writes → b ≢ a
      → ((c : ℕ) × IsReadsPair h a c (key_at h (slice_index writes k)) × IsSessionPair h b c) → IsSessionTwoStep h b a
  written_session k below inside other (c, read, pair) =
      (key_at h (slice_index writes k), c, (other, read, written_at h b writes value k below inside), pair)

  pub none_written_session : (n : ℕ) → 0 < b → length writes ≤ n
      → ((k : ℕ) → k < n → ((c : ℕ) × IsReadsPair h a c (key_at h (slice_index writes k)) × IsSessionPair h b c) → ⊥) → IsSessionTwoStep h b a → ⊥
  none_written_session n some all none (x, c, (other, read, writer), pair) =
      let w = place_of_key h b writes value x some writer in
      none w.0 (omega (arith, all, w.1)) (c, subst (λ (z : List ℕ). IsReadsPair h a c z) (sym w.2) read, pair)
