-- Blocks of sessions that have a writer of a key that is read from another transaction.
use Rattle.std.proofs.Common.{◌≡◌, ◌≢◌, ◌<◌, ◌≤◌, ◌+◌, ◌*◌, ◌/◌, ◌==◌, ◌⊎◌, inl, inr, ℕ, Bool, true, false, List, length, map, filter, get_or, set, slice_index, refl, sym, ap, ◌∙◌, subst, arith}
use Rattle.std.specs.List.{All, Contains}
use Rattle.std.specs.Int.{div_ceil}
use Rattle.std.proofs.lemmas.Bool.{cases_eq, cases_lt, eqb-true, false≢true}
use Rattle.std.proofs.lemmas.List.{get_or_default, get_or-set_same, get_or-set_other, get_or_past}
use Rattle.tcc_txn.proofs.Lists.{from_filter, from_map}
use Rattle.tcc_reads.specs.History.{History, count, owner, entry_at}
use Rattle.tcc_graph.specs.Keys.{keys, key_at, writers}
use Rattle.tcc_graph.proofs.WriterLemmas.{writers_below}
use Rattle.std.proofs.lemmas.List.Elements.{All-contains}
use Rattle.tcc_clocks.specs.Clocks.{AreOwners}
use Rattle.tcc_clocks.specs.declared.latest.TheConstants.{WIDE}
use Rattle.tcc_clocks.specs.declared.needed.KeySources.{KeySources}
use Rattle.tcc_clocks.specs.declared.needed.KeySources.TheVariants as sources
use Rattle.tcc_clocks.specs.Needed.{AreMarked, AreNeeded, AreSourcesRead, HaveGrown, HasSourcesRead, IsMarked, IsSourceOf, sources_at}

-- ---- marks
pub marked_more : (needed : List Bool) (i session : ℕ) → IsMarked needed session → IsMarked (set needed i true) session
marked_more needed i session is = go (cases_eq (session / WIDE) i) (cases_lt i (length needed))
  where
    go : (session / WIDE ≡ i) ⊎ (session / WIDE ≢ i) → (i < length needed) ⊎ (length needed ≤ i) → IsMarked (set needed i true) session
    go (inr other) kind = rw (get_or-set_other needed i (session / WIDE) true false other) is
    go (inl same) (inl inside) = rw (same, get_or-set_same needed i true false inside) refl
    go (inl same) (inr past) = absurd (false≢true (sym (get_or_past needed (session / WIDE) false (omega (arith, same, past))) ∙ is))

pub new_mark : (needed : List Bool) (session : ℕ) → session < length needed * WIDE → IsMarked (set needed (session / WIDE) true) session
new_mark needed session room = get_or-set_same needed (session / WIDE) true false (omega (arith, room))

-- the blocks of one more key
pub marked_key : (h : History) (owners : List ℕ) (all : List KeySources) (n : ℕ) (needed next : List Bool) → AreMarked h owners all n needed
    → ((s : ℕ) → IsMarked needed s → IsMarked next s)
    → ((a b : ℕ) → IsSourceOf (sources_at all n) a → Contains (writers h (key_at h n)) b → b ≢ a → IsMarked next (slice_index owners b))
    → AreMarked h owners all (n + 1) next
marked_key h owners all n needed next before kept new k l a b source there apart = go (cases_eq k n)
  where
    go : (k ≡ n) ⊎ (k ≢ n) → IsMarked next (slice_index owners b)
    go (inl same) =
        new a b (subst (λ (m : ℕ). IsSourceOf (sources_at all m) a) same source) (subst (λ (m : ℕ). Contains (writers h (key_at h m)) b) same there) apart
    go (inr other) = kept (slice_index owners b) (before k (omega (arith, l, other)) a b source there apart)

-- there is room for the session of each
pub owners_room : (h : History) (owners : List ℕ) → AreOwners h owners → (sessions : ℕ) → ((n : ℕ) → 0 < n → n < count h → owner h n < sessions)
    → (size : ℕ) → (0 < size) × (sessions ≤ size * WIDE) → (b : ℕ) → b < length owners → slice_index owners b < size * WIDE
owners_room h owners known sessions few size (some, room) b l = go (cases_eq b 0)
  where
    go : (b ≡ 0) ⊎ (b ≢ 0) → slice_index owners b < size * WIDE
    go (inl none) = subst (λ (z : ℕ). slice_index owners z < size * WIDE) (sym none) (omega (arith, known.init, some))
    go (inr other) =
        let low : 0 < b = omega (arith, other) in
        let below : b < count h = omega (arith, l, known.long) in
        omega (arith, known.each b low below, few b low below, room)

-- this many blocks have room for all sessions
pub blocks_hold : (sessions blocks : ℕ) → div_ceil sessions 64 ≤ blocks → sessions ≤ blocks * WIDE
blocks_hold sessions blocks enough = omega (arith, enough)

-- ---- the sources of keys
-- one more source of the key at an index
pub grown_by : (all : List KeySources) (i : ℕ) → i < length all → (v : KeySources) → ((a : ℕ) → IsSourceOf (sources_at all i) a → IsSourceOf v a)
    → HaveGrown all (set all i v)
grown_by all i inside v kept k a is = go (cases_eq k i)
  where
    go : (k ≡ i) ⊎ (k ≢ i) → IsSourceOf (sources_at (set all i v) k) a
    go (inl same) = rw (same, get_or-set_same all i v sources.Nobody inside) (kept a (subst (λ (z : ℕ). IsSourceOf (sources_at all z) a) same is))
    go (inr other) = rw (get_or-set_other all i k v sources.Nobody other) is

-- the sources of the first n of these reads are among those of their keys
abbrev pub AreSourcesTo : List (ℕ × ℕ) → ℕ → List KeySources → Type 0
AreSourcesTo reads n all = (j : ℕ) → j < n → IsSourceOf (sources_at all (get_or reads j (0, 0)).0) (get_or reads j (0, 0)).1

pub sources_on : (reads : List (ℕ × ℕ)) (n : ℕ) (old new : List KeySources) → HaveGrown old new → AreSourcesTo reads n old
    → IsSourceOf (sources_at new (get_or reads n (0, 0)).0) (get_or reads n (0, 0)).1 → AreSourcesTo reads (n + 1) new
sources_on reads n old new grown before here j l = go (cases_eq j n)
  where
    go : (j ≡ n) ⊎ (j ≢ n) → IsSourceOf (sources_at new (get_or reads j (0, 0)).0) (get_or reads j (0, 0)).1
    go (inl same) = subst (λ (z : ℕ). IsSourceOf (sources_at new (get_or reads z (0, 0)).0) (get_or reads z (0, 0)).1) (sym same) here
    go (inr other) = grown (get_or reads j (0, 0)).0 (get_or reads j (0, 0)).1 (before j (omega (arith, l, other)))

-- all reads of a transaction
pub sources_all : (h : History) (c : ℕ) (reads : List (ℕ × ℕ)) → map (λ read. (key_at h read.0, read.1)) reads ≡ (entry_at h c).reads
    → All (λ read. (read.0 < length (keys h)) × (read.1 < count h)) reads → (all : List KeySources) → AreSourcesTo reads (length reads) all
    → HasSourcesRead h c all
sources_all h c reads named within all are a x pair = named_read (from_map (λ read. read.0) filtered x pair.2)
  where
    filtered : List (List ℕ × ℕ)
    filtered = filter (λ read. read.1 == a) (entry_at h c).reads

    Found : Type 0
    Found = (k : ℕ) × (k < length (keys h)) × (key_at h k ≡ x) × IsSourceOf (sources_at all k) a

    at_index : (read : ℕ × ℕ) → key_at h read.0 ≡ x → read.1 ≡ a → Contains reads read → Found
    at_index read name source (j, l, e) =
        let here : get_or reads j (0, 0) ≡ read = get_or_default reads j (0, 0) read l ∙ e in (
          (get_or reads j (0, 0)).0,
          (within j (0, 0) l).0,
          ap (λ z. key_at h z.0) here ∙ name,
          subst (λ (z : ℕ). IsSourceOf (sources_at all (get_or reads j (0, 0)).0) z) (ap (λ z. z.1) here ∙ source) (are j l),
        )

    by_index : (read : List ℕ × ℕ) → read.0 ≡ x → read.1 ≡ a → (index : ℕ × ℕ) × Contains reads index × ((key_at h index.0, index.1) ≡ read) → Found
    by_index read name source (index, there, same) = at_index index (ap (λ z. z.0) same ∙ name) (ap (λ z. z.1) same ∙ source) there

    named_read : (read : List ℕ × ℕ) × Contains filtered read × (read.0 ≡ x) → Found
    named_read (read, there, name) =
        let w = from_filter (λ read. read.1 == a) (entry_at h c).reads read there in
        by_index read name (eqb-true read.1 a w.1)
        (from_map (λ (r : ℕ × ℕ). (key_at h r.0, r.1)) reads read (subst (λ (z : List (List ℕ × ℕ)). Contains z read) (sym named) w.0))

-- for one more transaction
pub sources_next : (h : History) (n : ℕ) (old new : List KeySources) → HaveGrown old new → AreSourcesRead h n old → HasSourcesRead h n new
    → AreSourcesRead h (n + 1) new
sources_next h n old new grown before here c l = go (cases_eq c n)
  where
    go : (c ≡ n) ⊎ (c ≢ n) → HasSourcesRead h c new
    go (inl same) = rw same here
    go (inr other) = λ a x pair. let w = before c (omega (arith, l, other)) a x pair in (w.0, w.1, w.2, grown w.0 a w.3)

-- ---- the blocks of all writers of a key that has another source
pub all_needed : (h : History) (owners : List ℕ) → AreOwners h owners → (all : List KeySources) (needed : List Bool) → length all ≡ length (keys h)
    → AreSourcesRead h (count h) all → AreMarked h owners all (length all) needed → AreNeeded h needed
all_needed h owners known all needed long read marked a b c x pair there some apart =
    let w = read c pair.1 a x pair in
    let below : b < count h = All-contains (λ b. b < count h) (writers h x) b (writers_below h x) there in
    let here : Contains (writers h (key_at h w.0)) b = subst (λ (z : List ℕ). Contains (writers h z) b) (sym w.2) there in
    subst (λ (z : ℕ). IsMarked needed z) (known.each b some below) (marked w.0 (omega (arith, w.1, long)) a b w.3 here apart)
