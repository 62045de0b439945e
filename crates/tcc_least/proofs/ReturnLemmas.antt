-- Derived links of two steps with a pair back, as the loops find them.
use Rattle.std.proofs.Common.{ℕ, ◌+◌, ◌<◌, ◌≤◌, ◌≡◌, ◌==◌, ◌⊎◌, inl, inr, true, List, [], length, map, get_or, refl, sym, ap, subst, ◌∙◌, arith, below_more}
use Rattle.std.specs.Prelude.{◌≢◌, Option, Some, None, MatchOption, slice_index, slice_index_or}
use Rattle.std.specs.List.{Contains}
use Rattle.std.proofs.lemmas.Bool.{cases_lt, or_cases, or_right, eqb-true}
use Rattle.std.proofs.lemmas.List.{get_or_default}
use Rattle.std.proofs.lemmas.List.Elements.{Contains-get_or}
use Rattle.tcc_txn.proofs.Lists.{in_map, from_map}
use Rattle.tcc_reads.specs.History.{History, count, entry_at}
use Rattle.tcc_graph.specs.Relations.{IsSessionPair, IsReadsPair, IsCausalPair}
use Rattle.tcc_graph.specs.Keys.{key_at, has_name, IsWriter, writers}
use Rattle.tcc_graph.specs.Links.{MayContradict}
use Rattle.tcc_graph.specs.Readings.{AreReadings}
use Rattle.tcc_graph.proofs.NameLemmas.{has_name-contains, contains-has_name}
use Rattle.tcc_graph.proofs.Pairs.{PairParts, pair_parts, initial_pair}
use Rattle.tcc_graph.proofs.WriterLemmas.{writer_writes, writer_listed}
use Rattle.tcc_least.specs.Shapes.{IsRead, IsReturn, IsFirstPlace}
use Rattle.tcc_least.specs.private.Places.{IsFoundUpTo, IsSound, IsAsGood}
use Rattle.tcc_least.specs.private.Returns.{IsFirstWithin, IsSession, IsWriterBetween, IsBetween, IsThrough, IsStale}
use Rattle.tcc_least.proofs.Listed.{pair_at, at_pair}
use Rattle.tcc_least.proofs.ReadLemmas.{AreReadsAt, is_read, read_is}
use Rattle.tcc_least.proofs.Sessions.{not_itself}

-- which writer overwrites what c reads from a, between a and c
abbrev pub IsFirstWriter : History → ℕ → List ℕ → ℕ → Option ℕ → Type 0
IsFirstWriter h a x c found =
    MatchOption found ((b : ℕ) → IsWriterBetween h a x c b → ⊥) (λ b. IsWriterBetween h a x c b × ((d : ℕ) → IsWriterBetween h a x c d → b ≤ d))

-- ---- one read, and the session of its reader
module _ (h : History) (first end c a : ℕ) (x : List ℕ) (session : IsSession h first end) (from : first ≤ c) (within : c < end)
    (read : IsReadsPair h a c x) where
  -- what is before c in its session
  in_session : (b : ℕ) → 0 < b → IsSessionPair h b c → (first ≤ b) × (b < c)
  in_session b some p = (session.before b c some from within).0 p

  listed : (b : ℕ) → IsWriterBetween h a x c b → Contains (writers h x) b
  listed b w = writer_listed h x a c b read w.1

  pub from_initial : (found : Option ℕ) → a ≡ 0 → IsFirstWithin (writers h x) first c found → IsFirstWriter h a x c found
  from_initial None initial none = λ b w. let l = in_session b w.0 w.3 in omega (arith, l.1, none b (listed b w) l.0)
  from_initial (Some b) initial (there, low, high, least) =
      let writer = writer_writes h x b there in
      let some : 0 < b = omega (arith, session.some, low) in (
        (some, writer, initial_pair h a b initial read.0 some writer.0, (session.before b c some from within).1 (low, high)),
        λ d w. least d (listed d w) (in_session d w.0 w.3).0,
      )

  pub from_session : (found : Option ℕ) → first ≤ a → IsFirstWithin (writers h x) (a + 1) c found → IsFirstWriter h a x c found
  from_session None low none = λ b w.
      let l = in_session b w.0 w.3 in
      let some : 0 < a = omega (arith, session.some) in
      let m = (session.before a b some l.0 (omega (arith, l.1))).0 w.2 in
      omega (arith, l.1, none b (listed b w) (omega (arith, m.1)))
  from_session (Some b) low (there, past, high, least) =
      let writer = writer_writes h x b there in
      let some : 0 < a = omega (arith, session.some) in (
        (
          omega (arith, past),
          writer,
          (session.before a b some (omega (arith, past)) (omega (arith, high))).1 (low, omega (arith, past)),
          (session.before b c (omega (arith, past)) from within).1 (omega (arith, past), high),
        ),
        λ d w.
            let l = in_session d w.0 w.3 in
            let m = (session.before a d some l.0 (omega (arith, l.1))).0 w.2 in
            least d (listed d w) (omega (arith, m.1)),
      )

  pub below_first : 0 < a → a < first → IsFirstWriter h a x c None
  below_first some low b w =
      let l = in_session b w.0 w.3 in let m = (session.before a b some l.0 (omega (arith, l.1))).0 w.2 in omega (arith, m.0)

  pub past_reader : 0 < a → c ≤ a → IsFirstWriter h a x c None
  past_reader some high b w =
      let l = in_session b w.0 w.3 in let m = (session.before a b some l.0 (omega (arith, l.1))).0 w.2 in omega (arith, l.1, m.1)

-- what was found up to a place was found up to a later one with the same end
pub up_to_later : (best : Option (ℕ × ℕ)) (b d a : ℕ) → b ≤ d → IsFoundUpTo best b a → IsFoundUpTo best d a
up_to_later None b d a up found = found
up_to_later (Some place) b d a up (inl less) = inl (omega (arith, less))
up_to_later (Some place) b d a up (inr (same, low)) = go (cases_lt b d)
  where
    go : (b < d) ⊎ (d ≤ b) → (place.0 < d) ⊎ ((place.0 ≡ d) × (place.1 ≤ a))
    go (inl less) = inl (omega (arith, same))
    go (inr more) = inr (omega (arith, same), low)

module _ (h : History) where
  pub between_return : (a c b : ℕ) (x : List ℕ) → IsReadsPair h a c x → IsWriterBetween h a x c b → IsReturn h b a
  between_return a c b x read w =
      ((x, c, ((λ same. not_itself h a (subst (λ (z : ℕ). IsSessionPair h a z) same w.2)), read, w.1), inl w.3), inl w.2)

-- ---- what the loops keep for the first n reads of c
module _ (h : History) (c : ℕ) (reads : List (ℕ × ℕ)) where
  -- transactions between source and reader
  abbrev pub AreBetween : ℕ → Option (ℕ × ℕ) → Type 0
  AreBetween n least =
      (k : ℕ) → k < n → (b : ℕ) → IsWriterBetween h (slice_index_or reads k (0, 0)).1 (key_at h (slice_index_or reads k (0, 0)).0) c b
      → IsFoundUpTo least b (slice_index_or reads k (0, 0)).1

  -- sources of the reader that overwrite one read
  abbrev pub AreThroughRead : ℕ → List ℕ → ℕ → Option (ℕ × ℕ) → Type 0
  AreThroughRead a x n least =
      (k : ℕ) → k < n → MayContradict h (slice_index_or reads k (0, 0)).1 a x c × IsCausalPair h a (slice_index_or reads k (0, 0)).1
      → IsFoundUpTo least (slice_index_or reads k (0, 0)).1 a

  -- and those that overwrite any of its reads
  abbrev pub AreThrough : ℕ → Option (ℕ × ℕ) → Type 0
  AreThrough n least =
      (k : ℕ) → k < n → (b : ℕ) → MayContradict h b (slice_index_or reads k (0, 0)).1 (key_at h (slice_index_or reads k (0, 0)).0) c → IsRead h b c
      → IsCausalPair h (slice_index_or reads k (0, 0)).1 b → IsFoundUpTo least b (slice_index_or reads k (0, 0)).1

  -- sources from which a later transaction reads a key that this one writes
  abbrev pub AreStaleKey : List ℕ → ℕ → Option (ℕ × ℕ) → Type 0
  AreStaleKey x n least =
      (k : ℕ) → k < n → (d : ℕ) → MayContradict h c (slice_index_or reads k (0, 0)).1 x d → IsSessionPair h c d
      → IsFoundUpTo least c (slice_index_or reads k (0, 0)).1

-- for the first n keys that b writes
module _ (h : History) (b : ℕ) (writes : List ℕ) where
  abbrev pub AreStale : ℕ → Option (ℕ × ℕ) → Type 0
  AreStale n least =
      (k : ℕ) → k < n → (a d : ℕ) → MayContradict h b a (key_at h (slice_index writes k)) d → IsSessionPair h b d → IsRead h a b → IsFoundUpTo least b a

-- for the first n reads of `init`
module _ (h : History) (reads : List (ℕ × ℕ)) where
  abbrev pub ArePastInitial : ℕ → Option (ℕ × ℕ) → Type 0
  ArePastInitial n least =
      (k : ℕ) → k < n → (0 ≢ (slice_index_or reads k (0, 0)).1) × ((c : ℕ) × (0 < c) × IsRead h (slice_index_or reads k (0, 0)).1 c)
      → IsFoundUpTo least 0 (slice_index_or reads k (0, 0)).1

module _ (h : History) (c : ℕ) (reads : List (ℕ × ℕ)) (are : AreReadsAt h c reads) (below : c < count h) where
  pub read_at : (k : ℕ) → k < length reads
      → IsReadsPair h (slice_index_or reads k (0, 0)).1 c (key_at h (slice_index_or reads k (0, 0)).0)
  read_at k inside = is_read h c reads are (slice_index_or reads k (0, 0)) (Contains-get_or reads k (0, 0) inside) below

  -- the index of a read among them
  pub place_of : (a : ℕ) (x : List ℕ) → IsReadsPair h a c x
      → (k : ℕ) × (k < length reads) × ((slice_index_or reads k (0, 0)).1 ≡ a) × (key_at h (slice_index_or reads k (0, 0)).0 ≡ x)
  place_of a x read =
      let w = read_is h c reads are a x read in
      let at : slice_index_or reads w.1.0 (0, 0) ≡ w.0 = get_or_default reads w.1.0 (0, 0) w.0 w.1.1 ∙ w.1.2 in
      (w.1.0, w.1.1, ap (λ (r : ℕ × ℕ). r.1) at ∙ w.2, ap (λ (r : ℕ × ℕ). key_at h r.0) at ∙ w.3)

  -- ---- transactions between source and reader
  pub between_all : (n : ℕ) (least : Option (ℕ × ℕ)) → length reads ≤ n → AreBetween h c reads n least → (b a : ℕ) → IsBetween h c b a → IsFoundUpTo least b a
  between_all n least all found b a (some, (x, against), pair, back) =
      let w = place_of a x against.1 in
      let writer : IsWriter h b (key_at h (slice_index_or reads w.0 (0, 0)).0) = subst (λ (z : List ℕ). IsWriter h b z) (sym w.3) against.2 in
      subst (λ (z : ℕ). IsFoundUpTo least b z) w.2
      (found w.0 (omega (arith, w.1)) b (some, writer, subst (λ (z : ℕ). IsSessionPair h z b) (sym w.2) back, pair))

  -- ---- sources of the reader that overwrite one read
  pub through_read_all : (a : ℕ) (x : List ℕ) (n : ℕ) (least : Option (ℕ × ℕ)) → length reads ≤ n → AreThroughRead h c reads a x n least
      → (b : ℕ) → MayContradict h b a x c → IsRead h b c → IsCausalPair h a b → IsFoundUpTo least b a
  through_read_all a x n least all found b against (y, read) pair =
      let w = place_of b y read in
      subst (λ (z : ℕ). IsFoundUpTo least z a) w.2
      (found w.0 (omega (arith, w.1))
      (subst (λ (z : ℕ). MayContradict h z a x c) (sym w.2) against, subst (λ (z : ℕ). IsCausalPair h a z) (sym w.2) pair))

  -- ---- and those that overwrite any of its reads
  pub through_all : (n : ℕ) (least : Option (ℕ × ℕ)) → length reads ≤ n → AreThrough h c reads n least → (b a : ℕ) → IsThrough h c b a → IsFoundUpTo least b a
  through_all n least all found b a ((x, against), read, pair) =
      let w = place_of a x against.1 in
      let same : MayContradict h b (slice_index_or reads w.0 (0, 0)).1 (key_at h (slice_index_or reads w.0 (0, 0)).0) c
      = rw (w.2, w.3) against in
      subst (λ (z : ℕ). IsFoundUpTo least b z) w.2
      (found w.0 (omega (arith, w.1)) b same read (subst (λ (z : ℕ). IsCausalPair h z b) (sym w.2) pair))

  -- ---- sources from which a later transaction reads a key that this one writes
  pub stale_key_all : (x : List ℕ) (n : ℕ) (least : Option (ℕ × ℕ)) → length reads ≤ n → AreStaleKey h c reads x n least
      → (a d : ℕ) → MayContradict h c a x d → IsSessionPair h c d → IsRead h a c → IsFoundUpTo least c a
  stale_key_all x n least all found a d against pair (y, read) =
      let w = place_of a y read in
      subst (λ (z : ℕ). IsFoundUpTo least c z) w.2
      (found w.0 (omega (arith, w.1)) d (subst (λ (z : ℕ). MayContradict h c z x d) (sym w.2) against) pair)

-- the keys that a transaction writes, by their indices
module _ (h : History) (b : ℕ) (writes : List ℕ) (value : map (key_at h) writes ≡ (entry_at h b).writes) where
  pub written_at : (k : ℕ) → b < count h → k < length writes → IsWriter h b (key_at h (slice_index writes k))
  written_at k below inside =
      let there : Contains (entry_at h b).writes (key_at h (slice_index writes k))
      = subst (λ (z : List (List ℕ)). Contains z (key_at h (slice_index writes k))) value
      (in_map (key_at h) writes (slice_index writes k) (Contains-get_or writes k 0 inside)) in
      (below, or_right _ _ (contains-has_name (entry_at h b).writes (key_at h (slice_index writes k)) there))

  place_of_key : (x : List ℕ) → 0 < b → IsWriter h b x → (k : ℕ) × (k < length writes) × (key_at h (slice_index writes k) ≡ x)
  place_of_key x some writer = go (or_cases (b == 0) (has_name (entry_at h b).writes x) writer.1)
    where
      go : ((b == 0) ≡ true) ⊎ (has_name (entry_at h b).writes x ≡ true) → (k : ℕ) × (k < length writes) × (key_at h (slice_index writes k) ≡ x)
      go (inl none) = let e : b ≡ 0 = eqb-true b 0 none in absurd (omega arith)
      go (inr named) =
          let listed : Contains (map (key_at h) writes) x
          = subst (λ (z : List (List ℕ)). Contains z x) (sym value) (has_name-contains (entry_at h b).writes x named) in
          let w = from_map (key_at h) writes x listed in
          (w.1.0, w.1.1, ap (key_at h) (get_or_default writes w.1.0 0 w.0 w.1.1 ∙ w.1.2) ∙ w.2)

  pub stale_all : (n : ℕ) (least : Option (ℕ × ℕ)) → 0 < b → length writes ≤ n → AreStale h b writes n least → (a : ℕ) → IsStale h b a → IsFoundUpTo least b a
  stale_all n least some all found a ((x, d, against, pair), read) =
      let w = place_of_key x some against.2 in
      found w.0 (omega (arith, w.1)) a d (subst (λ (z : List ℕ). MayContradict h b a z d) (sym w.2) against) pair read

-- ---- the readers of a
-- none of the first n readers comes after `init`
abbrev pub AreInitial : List ℕ → ℕ → Type 0
AreInitial readers n = (k : ℕ) → k < n → 0 < slice_index readers k → ⊥

module _ (h : History) (a : ℕ) (readers : List ℕ) (names : List (List ℕ)) (are : AreReadings h a readers names) where
  pub reads_there : (k : ℕ) → k < length readers → IsRead h a (slice_index readers k)
  reads_there k inside =
      let x = get_or names k [] in (x, (are.each (slice_index readers k) x).0 (pair_at readers names [] are.long k inside))

  pub no_other : (n : ℕ) → length readers ≤ n → AreInitial readers n → ((c : ℕ) × (0 < c) × IsRead h a c) → ⊥
  no_other n all none (c, some, (x, read)) =
      let w = at_pair readers names [] are.long c x ((are.each c x).1 read) in none w.0 (omega (arith, w.1)) (omega (arith, w.2))

-- ---- what `init` reads
module _ (h : History) (reads : List (ℕ × ℕ)) (are : AreReadsAt h 0 reads) (some : 0 < count h) where
  pub initial_return : (k : ℕ) → k < length reads
      → (0 ≢ (slice_index_or reads k (0, 0)).1) × ((c : ℕ) × (0 < c) × IsRead h (slice_index_or reads k (0, 0)).1 c)
      → IsReturn h 0 (slice_index_or reads k (0, 0)).1
  initial_return k inside (other, (c, later, (x, read))) =
      let a : ℕ = (slice_index_or reads k (0, 0)).1 in
      ((x, c, (other, read, (some, refl)), inl (initial_pair h 0 c refl some later read.1)), inr (key_at h (slice_index_or reads k (0, 0)).0, read_at h 0 reads are some k inside))

  pub initial_all : (n : ℕ) (least : Option (ℕ × ℕ)) → length reads ≤ n → ArePastInitial h reads n least → (a : ℕ) → IsStale h 0 a → IsFoundUpTo least 0 a
  initial_all n least all found a ((x, c, against, pair), (y, read)) =
      let w = place_of h 0 reads are some a y read in
      let parts : PairParts h 0 c = pair_parts h 0 c pair in
      subst (λ (z : ℕ). IsFoundUpTo least 0 z) w.2
      (found w.0 (omega (arith, w.1))
      (subst (λ (z : ℕ). (0 ≢ z) × ((d : ℕ) × (0 < d) × IsRead h z d)) (sym w.2) (against.0, (c, parts.some, (x, against.1)))))

-- ---- all of them
-- the least of those whose reader and overwriting transaction are below n
pub record AreDone (h : History) (n : ℕ) (least : Option (ℕ × ℕ)) : Type 0 where
  pub sound : IsSound h least
  pub between : (c : ℕ) → c < n → 0 < c → (b a : ℕ) → IsBetween h c b a → IsFoundUpTo least b a
  pub through : (c : ℕ) → c < n → (b a : ℕ) → IsThrough h c b a → IsFoundUpTo least b a
  pub stale : (b : ℕ) → b < n → (a : ℕ) → IsStale h b a → IsFoundUpTo least b a

module _ (h : History) where
  pub done_first : (old least : Option (ℕ × ℕ)) → IsSound h old → ((a : ℕ) → IsStale h 0 a → IsFoundUpTo old 0 a) → IsAsGood h old least
      → ((b a : ℕ) → IsThrough h 0 b a → IsFoundUpTo least b a) → AreDone h 1 least
  done_first old least sound stale more through = record {
    sound = more.sound sound;
    between = λ c low some. absurd (omega arith);
    through = λ c low b a. let same : 0 ≡ c = omega arith in subst (λ (z : ℕ). IsThrough h z b a → IsFoundUpTo least b a) same (through b a);
    stale = λ b low a. let same : 0 ≡ b = omega arith in
        subst (λ (z : ℕ). IsStale h z a → IsFoundUpTo least z a) same (λ s. more.kept 0 a (stale a s));
  }

  pub done_more : (n : ℕ) (old first second least : Option (ℕ × ℕ)) → 0 < n → AreDone h n old → IsAsGood h old first → IsAsGood h first second
      → IsAsGood h second least → ((b a : ℕ) → IsBetween h n b a → IsFoundUpTo first b a) → ((b a : ℕ) → IsThrough h n b a → IsFoundUpTo second b a)
      → ((a : ℕ) → IsStale h n a → IsFoundUpTo least n a) → AreDone h (n + 1) least
  done_more n old first second least some done p q r between through stale = record {
    sound = r.sound (q.sound (p.sound done.sound));
    between = below_more _ _ (λ c low up b a is. r.kept b a (q.kept b a (p.kept b a (done.between c low up b a is)))) (λ up b a is. r.kept b a (q.kept b a (between b a is)));
    through = below_more _ _ (λ c low b a is. r.kept b a (q.kept b a (p.kept b a (done.through c low b a is)))) (λ b a is. r.kept b a (through b a is));
    stale = below_more _ _ (λ b low a is. r.kept b a (q.kept b a (p.kept b a (done.stale b low a is)))) stale;
  }

  -- each one is of one of the kinds
  pub all_found : (n : ℕ) (least : Option (ℕ × ℕ)) → count h ≤ n → AreDone h n least → (b a : ℕ) → IsReturn h b a → IsFoundUpTo least b a
  all_found n least all done b a ((x, c, against, inr read), back) = done.through c (omega (arith, against.1.1)) b a ((x, against), read, back)
  all_found n least all done b a ((x, c, against, inl pair), inr read) = done.stale b (omega (arith, against.2.0)) a ((x, c, against, pair), read)
  all_found n least all done b a ((x, c, against, inl pair), inl back) =
      let parts : PairParts h b c = pair_parts h b c pair in
      let start : PairParts h a b = pair_parts h a b back in
      done.between c (omega (arith, parts.to)) parts.some b a (start.some, (x, against), pair, back)

  pub first_found : (least : Option (ℕ × ℕ)) → IsSound h least → ((b a : ℕ) → IsReturn h b a → IsFoundUpTo least b a)
      → MatchOption least ((b a : ℕ) → IsReturn h b a → ⊥) (λ place. IsFirstPlace (IsReturn h) place.0 place.1)
  first_found None sound found = found
  first_found (Some place) sound found = record { here = sound; first = found }
