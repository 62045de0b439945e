-- What a read is called where the writers of its key are many.
use Rattle.std.proofs.Common.{◌≡◌, ◌≢◌, ◌<◌, ◌≤◌, ◌+◌, ◌-◌, ◌⊎◌, inl, inr, ℕ, true, List, [], ◌∷◌, length, map, slice_index, refl, sym, ap, ◌∙◌, subst, arith}
use Rattle.std.specs.List.{All, Contains}
use Rattle.std.specs.List.Sorted.{IsNonDecreasing}
use Rattle.std.specs.Ordering.{nat_cmp}
use Rattle.std.proofs.lemmas.Bool.{cases_lt, cases_eq}
use Rattle.std.proofs.lemmas.List.{get_or_default}
use Rattle.std.proofs.lemmas.List.Elements.{All-contains, All-contains_itself, All-weaker}
use Rattle.tcc_reads.specs.History.{History, count, entry_at, owner}
use Rattle.tcc_graph.specs.Keys.{key_at, writers}
use Rattle.tcc_graph.specs.Levels.{Judged, judged}
use Rattle.tcc_graph.specs.Readings.{AreReadingsOfKey}
use Rattle.tcc_graph.specs.Relations.{IsReadsPair, IsSessionPair}
use Rattle.tcc_graph.specs.Walks.{IsReached}
use Rattle.tcc_graph.specs.declared.level.Level.{Level}
use Rattle.tcc_graph.specs.declared.level.Level.TheVariants as level
use Rattle.tcc_graph.proofs.Pairs.{pair_from_session, pair_kinds}
use Rattle.tcc_graph.proofs.WriterLemmas.{writer_listed, writer_writes}
use Rattle.tcc_clocks.specs.declared.latest.TheConstants.{WIDE}
use Rattle.tcc_clocks.proofs.Reaching.{same_session}
use Rattle.tcc_clocks.proofs.SpanLemmas.{owners_rise}
use Rattle.tcc_least.proofs.Listed.{at_pair, pair_at, rises}
use Rattle.tcc_survey.specs.Names.{Fits, ReadsFrom, rank}
use Rattle.tcc_survey.specs.declared.called.Called.{Called}
use Rattle.tcc_survey.specs.declared.calling.Calling.{Calling}
use Rattle.tcc_survey.specs.declared.external_reads.Reading.{Reading}
use Rattle.tcc_survey.specs.declared.usual_name.UsualName.{UsualName}
use Rattle.tcc_survey.specs.declared.usual_name.UsualName.TheVariants as name
use Rattle.tcc_survey.specs.private.Called.{FitsRead, IsCalledAmong, IsCloser, IsNoLater, IsTried, as_called}
use Rattle.tcc_survey.specs.private.Calling.{IsBeforeAll, IsByWriter, IsCalledSoFar, IsCalling, IsCandidate, IsFirstOnLane, IsFractured, IsOnLane, IsReaderFrom, IsReaderOnLane}
use Rattle.tcc_survey.specs.private.Seen.{latest_mark}
use Rattle.tcc_survey.specs.private.Settled.{AreWritersIn, IsAgainst, IsKnown}
use Rattle.tcc_survey.proofs.AmongLemmas.{on_from}
use Rattle.tcc_survey.proofs.BesideLemmas.{source_at, source_index, there_at}
use Rattle.tcc_survey.proofs.CalledLemmas.{seen_after}
use Rattle.tcc_survey.proofs.CallingLemmas.{fits_reached, later_trans}
use Rattle.tcc_survey.proofs.ScanLemmas.{against_some, known_walk, walk_known}
use Rattle.tcc_survey.proofs.SeenLemmas.{reader_some}

-- by a name that is no later, and a writer that isn't
pub by_both : (n m o : Called) → IsNoLater n m → rank m.name ≤ rank o.name → m.writer ≤ o.writer → IsNoLater n o
by_both n m o up low upto = later_trans n m o up (go (cases_eq (rank m.name) (rank o.name)))
  where
    go : (rank m.name ≡ rank o.name) ⊎ (rank m.name ≢ rank o.name) → IsNoLater m o
    go (inl same) = inr (same, upto)
    go (inr other) = inl (omega (arith, low, other))

-- ---- from whom a key is read
module _ (h : History) (key_index : ℕ) (sources readers : List ℕ) (of_key : AreReadingsOfKey h key_index sources readers) where
  pub sources_rise : IsNonDecreasing sources
  sources_rise = rises sources readers 0 of_key.long nat_cmp of_key.order

  pub sources_below : All (λ b. b < count h) sources
  sources_below = All-weaker (Contains sources) (λ b. b < count h) (λ b there. go b there) sources (All-contains_itself sources)
    where
      go : (b : ℕ) → Contains sources b → b < count h
      go b (k, inside, e) =
          let pair = (of_key.each (slice_index sources k) (slice_index readers k)).0 (pair_at sources readers 0 of_key.long k inside) in
          omega (arith, pair.0, get_or_default sources k 0 b inside ∙ e)

  pub source_listed : (b e : ℕ) → IsReadsPair h b e (key_at h key_index) → Contains sources b
  source_listed b e pair =
      let at = at_pair sources readers 0 of_key.long b e ((of_key.each b e).1 pair) in
      there_at sources b at.0 at.1 at.2

-- less, or else so
pub early_or : (a b : ℕ) → (a ≤ b → ⊥) → b < a
early_or a b never = go (cases_lt b a)
  where
    go : (b < a) ⊎ (a ≤ b) → b < a
    go (inl less) = less
    go (inr upto) = absurd (never upto)

-- past one of some numbers and its copies is further on
pub further : (s : Calling) (n next : ℕ) → n < length s.sources.now
    → ((k : ℕ) → next ≤ k → k < length s.sources.now → slice_index s.sources.now n + 1 ≤ slice_index s.sources.now k) → n < next
further s n next inside others = go (cases_lt n next)
  where
    go : (n < next) ⊎ (next ≤ n) → n < next
    go (inl less) = less
    go (inr upto) = absurd (omega (arith, others n upto inside))

-- who reads the key from a writer that is called so
monotonic_reads : (h : History) (c : ℕ) (x : List ℕ) (b : ℕ) → Fits h c x b name.MonotonicReads → (e : ℕ) × IsReadsPair h b e x × IsSessionPair h e c
monotonic_reads h c x b (e, pair, before) = (e, pair, before)

follow_reads : (h : History) (c : ℕ) (x : List ℕ) (b : ℕ) → Fits h c x b name.WritesFollowReads → (e : ℕ) × IsReadsPair h b e x
follow_reads h c x b (e, d, upto, reads, (f, pair, way)) = (f, pair)

-- what is called so by a writer is by one before it too
earlier_writes : (h : History) (c : ℕ) (x : List ℕ) (w b : ℕ) → ((d : ℕ) → IsSessionPair h w d → IsSessionPair h b d) → Fits h c x w name.MonotonicWrites
    → Fits h c x b name.MonotonicWrites
earlier_writes h c x w b before (e, d, upto, reads, pair) = (e, d, upto, reads, before d pair)

-- a name that says where the reader knows the writer from is known at each level
known_session : (h : History) (l : Level) (b c : ℕ) → IsSessionPair h b c → IsKnown l h b c
known_session h level.Causal b c pair = tt
known_session h level.Atomic b c pair = pair_from_session h b c pair

-- before an index the writers of a session are too early
abbrev pub ArePassed : Calling → List ℕ → ℕ → ℕ → Type 0
ArePassed s among lane n = (k : ℕ) → k < n → 0 < slice_index among k → slice_index s.knowledge.owners.now (slice_index among k) ≡ s.from + lane
    → slice_index among k < slice_index s.first.now lane

-- those before an index of those from whom the key is read come no earlier
abbrev pub AreReadersMet : Calling → ℕ → ℕ → Called → Type 0
AreReadersMet s lane n o = (k : ℕ) → k < n → (m : Called) → IsCandidate s m → IsReaderOnLane s lane m → slice_index s.sources.now k ≡ m.writer → IsNoLater o m

module _ (s : Calling) (is : IsCalling s) where
  abbrev h : History
  h = s.knowledge.graph.now

  abbrev j : Judged
  j = judged s.knowledge.graph.now s.level

  abbrev r : Reading
  r = s.reading

  abbrev x : List ℕ
  x = key_at s.knowledge.graph.now s.reading.key_index

  abbrev owned_at : ℕ → ℕ
  owned_at b = slice_index s.knowledge.owners.now b

  pub so_far : (among : List ℕ) (n : Called) → IsCalledAmong j s.from among r n → IsCalledSoFar s n
  so_far among n are = record { by = are.by; fits = are.fits; first = λ m against fits tried. are.first m against fits (wider m tried) }
    where
      wider : (m : Called) → IsTried j s.from [] m → IsTried j s.from among m
      wider m (inl chain) = inl chain
      wider m (inr (inl early)) = inr (inl early)
      wider m (inr (inr (there, low))) = absurd (omega (arith, there.1))

  pub one_met : (b : ℕ) (n : Called) → IsCalledAmong j s.from (b ∷ []) r n → IsBeforeAll s (IsByWriter b) n
  one_met b n are m can same = are.first m can.against can.fits (inr (inr ((0, omega arith, sym same), can.high)))

  -- what comes before all, also where something earlier is found
  pub met_on : (Is : Called → Type 0) (n m : Called) → IsNoLater n m → IsBeforeAll s Is m → IsBeforeAll s Is n
  met_on Is n m up met o can are = later_trans n m o up (met o can are)

  candidate_some : (m : Called) → IsCandidate s m → 0 < m.writer
  candidate_some m can = against_some j is.knowledge.acyclic r is.reading m.writer can.against

  candidate_below : (m : Called) → IsCandidate s m → m.writer < count h
  candidate_below m can = can.against.0.1.0.2.0

  -- a candidate of a session is one that the source reaches
  candidate_first : (m : Called) → IsCandidate s m → (lane : ℕ) → lane < WIDE → IsOnLane s lane m → slice_index s.first.now lane ≤ m.writer
  candidate_first m can lane small on = (is.first.each lane small m.writer (candidate_some m can) (candidate_below m can) on).0 can.against.1

  candidate_owned : (m : Called) → IsCandidate s m → owned_at m.writer ≡ owner h m.writer
  candidate_owned m can = is.knowledge.owned.each m.writer (candidate_some m can) (candidate_below m can)

  -- sessions rise
  owned_rises : (b w : ℕ) → b ≤ w → w < count h → owned_at b ≤ owned_at w
  owned_rises b w upto below =
      owners_rise h is.knowledge.numbered s.knowledge.owners.now is.knowledge.owned b w 0 upto (omega (arith, below, is.knowledge.owned.long))

  -- some writer that is known contradicts the read
  against_at : (b : ℕ) → Contains (writers h x) b → IsReached h r.source b → IsReached h b r.reader → IsKnown s.level h b r.reader → IsAgainst j r b
  against_at b writer onward into known =
      let apart : b ≢ r.source = λ e. is.knowledge.acyclic r.source (subst (λ (z : ℕ). IsReached h r.source z) e onward) in
      let w = known_walk j b r.reader into known in
      ((w.0, ((apart, is.reading.pair, writer_writes h x b writer), (w.1, w.2))), onward)

  module _ (among : List ℕ) (in_block : AreWritersIn h s.from x among) where
    candidate_listed : (m : Called) → IsCandidate s m → Contains among m.writer
    candidate_listed m can =
        in_block.all m.writer (candidate_some m can) (writer_listed h x r.source r.reader m.writer is.reading.pair can.against.0.1.0.2) can.low can.high

    pub unlisted_met : (b : ℕ) → (Contains among b → ⊥) → (n : Called) → IsBeforeAll s (IsByWriter b) n
    unlisted_met b never n m can same = absurd (never (subst (Contains among) same (candidate_listed m can)))

    module _ (lane : ℕ) (small : lane < WIDE) where
      pub passed_more : (n : ℕ) → ArePassed s among lane n
          → (0 < slice_index among n → owned_at (slice_index among n) ≡ s.from + lane → slice_index among n < slice_index s.first.now lane) → ArePassed s among lane (n + 1)
      passed_more n were here k l = go (cases_eq k n)
        where
          go : (k ≡ n) ⊎ (k ≢ n) → 0 < slice_index among k → owned_at (slice_index among k) ≡ s.from + lane → slice_index among k < slice_index s.first.now lane
          go (inl same) = subst (λ (z : ℕ). 0 < slice_index among z → owned_at (slice_index among z) ≡ s.from + lane → slice_index among z < slice_index s.first.now lane) (sym same) here
          go (inr other) = were k (omega (arith, l, other))

      -- where a candidate stands
      standing : (n : ℕ) → ArePassed s among lane n → (m : Called) → IsCandidate s m → IsOnLane s lane m → (k : ℕ) × (n ≤ k) × (k < length among) × (slice_index among k ≡ m.writer)
      standing n passed m can on = go (candidate_listed m can)
        where
          go : Contains among m.writer → (k : ℕ) × (n ≤ k) × (k < length among) × (slice_index among k ≡ m.writer)
          go (k, inside, e) = by (cases_lt k n)
            where
              at : slice_index among k ≡ m.writer
              at = get_or_default among k 0 m.writer inside ∙ e

              by : (k < n) ⊎ (n ≤ k) → (k : ℕ) × (n ≤ k) × (k < length among) × (slice_index among k ≡ m.writer)
              by (inl early) =
                  let some : 0 < slice_index among k = omega (arith, at, candidate_some m can) in
                  let mine : owned_at (slice_index among k) ≡ s.from + lane
                  = subst (λ (z : ℕ). owned_at z ≡ s.from + lane) (sym at) (candidate_owned m can ∙ on) in
                  absurd (omega (arith, passed k early some mine, at, candidate_first m can lane small on))
              by (inr late) = (k, late, inside, at)

      pub none_left : (n : ℕ) → length among ≤ n → ArePassed s among lane n → (o : Called) → IsBeforeAll s (IsFirstOnLane s lane) o
      none_left n all passed o m can w = let at = standing n passed m can w.0 in absurd (omega (arith, all, at.1, at.2))

      module _ (n : ℕ) (inside : n < length among) (passed : ArePassed s among lane n) where
        candidate_upto : (m : Called) → IsCandidate s m → IsOnLane s lane m → slice_index among n ≤ m.writer
        candidate_upto m can on =
            let at = standing n passed m can on in
            omega (arith, in_block.rising n at.0 0 at.1 at.2, at.3)

        pub none_beyond : s.from + lane < owned_at (slice_index among n) → (o : Called) → IsBeforeAll s (IsFirstOnLane s lane) o
        none_beyond beyond o m can w =
            absurd (omega (
              arith,
              owned_rises (slice_index among n) m.writer (candidate_upto m can w.0) (candidate_below m can),
              candidate_owned m can,
              w.0,
              beyond,
            ))

        module _ (b : ℕ) (here : slice_index among n ≡ b) (some : 0 < b) (reached : slice_index s.first.now lane ≤ b) (mine : owned_at b ≡ s.from + lane) where
          there : Contains among b
          there = there_at among b n inside here

          writer : Contains (writers h x) b
          writer = in_block.listed b there

          below : b < count h
          below = (writer_writes h x b writer).0

          owned : owner h b ≡ s.from + lane
          owned = sym (is.knowledge.owned.each b some below) ∙ mine

          onward : IsReached h r.source b
          onward = (is.first.each lane small b some below owned).1 reached

          -- what comes after a later one of the session comes after it
          before_too : (m : Called) → IsCandidate s m → IsOnLane s lane m → (d : ℕ) → IsSessionPair h m.writer d → IsSessionPair h b d
          before_too m can on d pair = go (cases_eq b m.writer)
            where
              upto : b ≤ m.writer
              upto = omega (arith, candidate_upto m can on, here)

              go : (b ≡ m.writer) ⊎ (b ≢ m.writer) → IsSessionPair h b d
              go (inl same) = subst (λ (z : ℕ). IsSessionPair h z d) (sym same) pair
              go (inr other) =
                  on_from h is.knowledge.numbered b m.writer d some
                  (same_session h is.knowledge.numbered b m.writer some (omega (arith, upto, other)) (candidate_below m can) (owned ∙ sym on)) pair

          pub first_met : (o : Called) → IsCalledAmong j s.from (b ∷ []) r o → IsBeforeAll s (IsFirstOnLane s lane) o
          first_met o are m can (on, kind) = go kind
            where
              met : (it : UsualName) → IsCloser it → Fits h r.reader x b it → IsKnown s.level h b r.reader → it ≡ m.name → IsNoLater o m
              met it closer fits known same =
                  let into : IsReached h b r.reader = fits_reached h r.reader x b it closer fits in
                  let first : IsNoLater o (as_called it b)
                  = are.first (as_called it b) (against_at b writer onward into known) fits (inr (inr ((0, omega arith, refl), omega (arith, owned, small)))) in
                  by_both o (as_called it b) m first (omega (arith, ap rank same)) (omega (arith, candidate_upto m can on, here))

              go : (m.name ≡ name.ReadYourWrites) ⊎ ((s.level ≡ level.Causal) × (m.name ≡ name.MonotonicWrites)) → IsNoLater o m
              go (inl own) =
                  let fits : Fits h r.reader x m.writer name.ReadYourWrites = subst (λ (it : UsualName). Fits h r.reader x m.writer it) own can.fits in
                  let pair : IsSessionPair h b r.reader = before_too m can on r.reader fits in
                  met name.ReadYourWrites (omega arith) pair (known_session h s.level b r.reader pair) (sym own)
              go (inr (causal, past)) =
                  let fits : Fits h r.reader x m.writer name.MonotonicWrites = subst (λ (it : UsualName). Fits h r.reader x m.writer it) past can.fits in
                  met name.MonotonicWrites (omega arith) (earlier_writes h r.reader x m.writer b (before_too m can on) fits)
                  (subst (λ (l : Level). IsKnown l h b r.reader) (sym causal) tt) (sym past)

  pub source_below : (n : ℕ) → n < length s.sources.now → slice_index s.sources.now n < count h
  source_below n inside =
      All-contains (λ (z : ℕ). z < count h) s.sources.now (slice_index s.sources.now n) is.below (there_at s.sources.now (slice_index s.sources.now n) n inside refl)

  pub writer_below : (among : List ℕ) → AreWritersIn h s.from x among → (n : ℕ) → n < length among → slice_index among n < count h
  writer_below among in_block n inside =
      (writer_writes h x (slice_index among n) (in_block.listed (slice_index among n) (there_at among (slice_index among n) n inside refl))).0

  -- one lane more
  pub lanes_more : (Is : ℕ → Called → Type 0) (lane : ℕ) (n : Called) → ((k : ℕ) → k < lane → IsBeforeAll s (Is k) n) → (v : Called) → IsNoLater v n
      → IsBeforeAll s (Is lane) v → (k : ℕ) → k < lane + 1 → IsBeforeAll s (Is k) v
  lanes_more Is lane n were v up new k l = go (cases_eq k lane)
    where
      go : (k ≡ lane) ⊎ (k ≢ lane) → IsBeforeAll s (Is k) v
      go (inl same) = subst (λ (z : ℕ). IsBeforeAll s (Is z) v) (sym same) new
      go (inr other) = met_on (Is k) v n up (were k (omega (arith, l, other)))

  -- ---- whom the reader reads from
  pub listed_more : (items : List (ℕ × ℕ)) (n : ℕ) (o : Called) → ((k : ℕ) → k < n → IsBeforeAll s (IsByWriter (source_at items k)) o) → (v : Called)
      → IsNoLater v o → IsBeforeAll s (IsByWriter (source_at items n)) v → (k : ℕ) → k < n + 1 → IsBeforeAll s (IsByWriter (source_at items k)) v
  listed_more items n o were v up new = lanes_more (λ k. IsByWriter (source_at items k)) n o were v up new

  pub fractured_met : (items : List (ℕ × ℕ)) → map (λ read. (key_at h read.0, read.1)) items ≡ (entry_at h r.reader).reads → (n : ℕ) → length items ≤ n → (o : Called)
      → ((k : ℕ) → k < n → IsBeforeAll s (IsByWriter (source_at items k)) o) → IsBeforeAll s IsFractured o
  fractured_met items value n all o met m can same =
      let fits : ReadsFrom h m.writer r.reader = subst (λ (it : UsualName). Fits h r.reader x m.writer it) same can.fits in
      let at = source_index h r.reader items value m.writer fits.0 fits.1 in
      met at.0 (omega (arith, at.1, all)) m can (sym at.2)

  -- ---- from whom the key is read
  module _ (lane : ℕ) (small : lane < WIDE) where
    pub early_met : (n : ℕ) → ((k : ℕ) → k < n → slice_index s.sources.now k < slice_index s.first.now lane) → (o : Called) → AreReadersMet s lane n o
    early_met n early o k less m can w at = absurd (omega (arith, early k less, at, candidate_first m can lane small w.0))

    reads_key : (m : Called) → IsCandidate s m → (m.name ≡ name.MonotonicReads) ⊎ (m.name ≡ name.WritesFollowReads) → (e : ℕ) × IsReadsPair h m.writer e x
    reads_key m can (inl same) =
        let w = monotonic_reads h r.reader x m.writer (subst (λ (it : UsualName). Fits h r.reader x m.writer it) same can.fits) in (w.0, w.1)
    reads_key m can (inr same) =
        follow_reads h r.reader x m.writer (subst (λ (it : UsualName). Fits h r.reader x m.writer it) same can.fits)

    -- where the source of a candidate stands
    source_there : (m : Called) → IsCandidate s m → IsReaderOnLane s lane m → (k : ℕ) × (k < length s.sources.now) × (slice_index s.sources.now k ≡ m.writer)
    source_there m can w = go (let e = reads_key m can w.1 in is.sources m.writer e.0 e.1)
      where
        go : Contains s.sources.now m.writer → (k : ℕ) × (k < length s.sources.now) × (slice_index s.sources.now k ≡ m.writer)
        go (k, inside, e) = (k, inside, get_or_default s.sources.now k 0 m.writer inside ∙ e)

    pub all_readers_met : (n : ℕ) → length s.sources.now ≤ n → (o : Called) → AreReadersMet s lane n o → IsBeforeAll s (IsReaderOnLane s lane) o
    all_readers_met n all o met m can w = let at = source_there m can w in met at.0 (omega (arith, at.1, all)) m can w at.2

    module _ (n : ℕ) (b : ℕ) (here : slice_index s.sources.now n ≡ b) (o : Called) (met : AreReadersMet s lane n o) where
      -- those before were met, and the others are no less
      by_place : (m : Called) → IsCandidate s m → IsReaderOnLane s lane m → (b ≤ m.writer → IsNoLater o m) → IsNoLater o m
      by_place m can w late = go (cases_lt at.0 n)
        where
          at : (k : ℕ) × (k < length s.sources.now) × (slice_index s.sources.now k ≡ m.writer)
          at = source_there m can w

          go : (at.0 < n) ⊎ (n ≤ at.0) → IsNoLater o m
          go (inl early) = met at.0 early m can w at.2
          go (inr upto) = late (omega (arith, is.rising n at.0 0 upto at.1, here, at.2))

      pub beyond_met : s.from + lane < owned_at b → IsBeforeAll s (IsReaderOnLane s lane) o
      beyond_met beyond m can w = by_place m can w (λ upto.
          absurd (omega (arith, owned_rises b m.writer upto (candidate_below m can), candidate_owned m can, w.0, beyond)))

      pub stopped_met : (session : ℕ) → session ≡ s.from + lane
          → ((m : Called) → IsReaderFrom (latest_mark s.knowledge.owners.now s.knowledge.marks.now s.knowledge.reader session) b m → IsNoLater o m)
          → IsBeforeAll s (IsReaderOnLane s lane) o
      stopped_met session mine first m can w = by_place m can w (λ upto. first m (upto, kinds w.1))
        where
          -- who is read from by the reader's session is no later than the last that is
          seen : m.name ≡ name.MonotonicReads → m.writer ≤ latest_mark s.knowledge.owners.now s.knowledge.marks.now s.knowledge.reader (owned_at m.writer)
          seen same =
              let fits = monotonic_reads h r.reader x m.writer (subst (λ (it : UsualName). Fits h r.reader x m.writer it) same can.fits) in
              let early : 0 < fits.0 = reader_some h is.knowledge.acyclic m.writer fits.0 x fits.1 in
              (seen_after s.knowledge is.knowledge m.writer (candidate_some m can) (candidate_below m can)).1
              (m.writer, (fits.0, (early, inr (subst (IsSessionPair h fits.0) (sym is.reader) fits.2)), (x, fits.1)), inl refl)

          kinds : (m.name ≡ name.MonotonicReads) ⊎ (m.name ≡ name.WritesFollowReads)
              → ((m.name ≡ name.MonotonicReads)
              × (m.writer ≤ latest_mark s.knowledge.owners.now s.knowledge.marks.now s.knowledge.reader session)) ⊎ (m.name ≡ name.WritesFollowReads)
          kinds (inl same) =
              let at : owned_at m.writer ≡ session = candidate_owned m can ∙ (w.0 ∙ sym mine) in
              inl (same, subst (λ (l : ℕ). m.writer ≤ latest_mark s.knowledge.owners.now s.knowledge.marks.now s.knowledge.reader l) at (seen same))
          kinds (inr same) = inr same

      -- one source more, with its copies
      pub readers_more : (next : ℕ) → ((k : ℕ) → k < next → slice_index s.sources.now k < b + 1) → next ≤ length s.sources.now → (v : Called) → IsNoLater v o
          → IsBeforeAll s (IsByWriter b) v → AreReadersMet s lane next v
      readers_more next less within v up new k low m can w at = go (cases_lt k n)
        where
          go : (k < n) ⊎ (n ≤ k) → IsNoLater v m
          go (inl early) = later_trans v o m up (met k early m can w at)
          go (inr upto) = new m can (omega (arith, less k low, is.rising n k 0 upto (omega (arith, low, within)), here, at))

  -- ---- all names
  module _ (among : List ℕ) (o : Called) (called : IsCalledSoFar s o) (fractured : IsBeforeAll s IsFractured o)
      (firsts : (lane : ℕ) → lane < WIDE → IsBeforeAll s (IsFirstOnLane s lane) o) (readers : (lane : ℕ) → lane < WIDE → IsBeforeAll s (IsReaderOnLane s lane) o) where
    all_met : (m : Called) → IsCandidate s m → IsNoLater o m
    all_met m can = go m.name refl
      where
        lane : ℕ
        lane = owner h m.writer - s.from

        small : owner h m.writer - s.from < WIDE
        small = omega (arith, can.low, can.high)

        on : owner h m.writer ≡ s.from + (owner h m.writer - s.from)
        on = omega (arith, can.low)

        -- the same writer by another name
        other : (it : UsualName) → Fits h r.reader x m.writer it → IsCandidate s (as_called it m.writer)
        other it fits = record { against = can.against; fits = fits; low = can.low; high = can.high }

        at_level : (l : Level) → s.level ≡ l → IsKnown l h m.writer r.reader → m.name ≡ name.MonotonicWrites → IsNoLater o m
        at_level level.Causal same known past = firsts (owner h m.writer - s.from) small m can (on, inr (same, past))
        at_level level.Atomic same known past = by (pair_kinds h m.writer r.reader known)
          where
            by : IsSessionPair h m.writer r.reader ⊎ ReadsFrom h m.writer r.reader → IsNoLater o m
            by (inl pair) =
                by_both o (as_called name.ReadYourWrites m.writer) m
                (firsts (owner h m.writer - s.from) small (as_called name.ReadYourWrites m.writer) (other name.ReadYourWrites pair) (on, inl refl))
                (omega arith) (omega arith)
            by (inr reads) =
                by_both o (as_called name.FracturedRead m.writer) m
                (fractured (as_called name.FracturedRead m.writer) (other name.FracturedRead reads) refl) (omega (arith, ap rank past)) (omega arith)

        go : (it : UsualName) → m.name ≡ it → IsNoLater o m
        go name.ReadYourWrites same = firsts (owner h m.writer - s.from) small m can (on, inl same)
        go name.FracturedRead same = fractured m can same
        go name.MonotonicReads same = readers (owner h m.writer - s.from) small m can (on, inl same)
        go name.MonotonicWrites same =
            at_level s.level refl (walk_known j m.writer r.reader can.against.0.0 can.against.0.1.1.0 can.against.0.1.1.1) same
        go name.WritesFollowReads same = readers (owner h m.writer - s.from) small m can (on, inr same)
        go name.CausalChain same = called.first m can.against can.fits (inl same)

    pub many_called : IsCalledAmong j s.from among r o
    many_called = record { by = called.by; fits = called.fits; first = λ m against fits tried. go m against fits tried (cases_lt (owner h m.writer) s.from) }
      where
        go : (m : Called) → IsAgainst j r m.writer → FitsRead j r m → IsTried j s.from among m → (owner h m.writer < s.from) ⊎ (s.from ≤ owner h m.writer) → IsNoLater o m
        go m against fits (inl chain) kind = called.first m against fits (inl chain)
        go m against fits (inr (inl early)) kind = called.first m against fits (inr (inl early))
        go m against fits (inr (inr (listed, high))) (inl early) = called.first m against fits (inr (inl early))
        go m against fits (inr (inr (listed, high))) (inr low) = all_met m record { against = against; fits = fits; low = low; high = high }
