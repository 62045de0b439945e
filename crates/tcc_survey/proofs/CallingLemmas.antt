-- How reads are called, by some of the writers that contradict them.
use Rattle.std.proofs.Common.{◌≡◌, ◌≢◌, ◌<◌, ◌≤◌, ◌+◌, ◌-◌, ◌*◌, ◌/◌, ◌⊎◌, inl, inr, ℕ, Bool, true, false, List, [], ◌∷◌, ◌++◌, length, length-append, get_or, map, slice_index, refl, sym, ap, ◌∙◌, subst, arith}
use Rattle.std.specs.List.{Contains}
use Rattle.std.proofs.lemmas.Bool.{cases_lt, cases_eq, false≢true}
use Rattle.std.proofs.lemmas.List.{get_or-map, length-map}
use Rattle.std.proofs.lemmas.List.Elements.{Contains-push_cases}
use Rattle.tcc_reads.specs.History.{History, IsBySession, count, owner}
use Rattle.tcc_graph.specs.Relations.{IsCausalPair, IsReadsPair, IsSessionPair}
use Rattle.tcc_graph.specs.Keys.{key_at, writers}
use Rattle.tcc_graph.specs.Levels.{Judged, judged}
use Rattle.tcc_graph.specs.Walks.{IsReached}
use Rattle.tcc_graph.proofs.Walking.{pair_walk, reached_append}
use Rattle.tcc_graph.proofs.WriterLemmas.{writer_listed, writer_writes}
use Rattle.tcc_clocks.specs.declared.latest.TheConstants.{WIDE}
use Rattle.tcc_survey.specs.Circles.{IsAcyclic}
use Rattle.tcc_survey.specs.Names.{Fits, IsUpTo, rank}
use Rattle.tcc_survey.specs.declared.called.Called.{Called}
use Rattle.tcc_survey.specs.declared.calling.Calling.{Calling}
use Rattle.tcc_survey.specs.declared.external_reads.Reading.{Reading}
use Rattle.tcc_survey.specs.declared.usual_name.UsualName.{UsualName}
use Rattle.tcc_survey.specs.declared.usual_name.UsualName.TheVariants as name
use Rattle.tcc_survey.specs.private.Called.{AreCalled, AreCalledBefore, FitsRead, IsCalledAmong, IsCalledBefore, IsCalledSo, IsCloser, IsNoLater, IsTried, as_called, called_at}
use Rattle.tcc_survey.specs.private.Calling.{AreChosen, HasContradicted, IsCalling, IsReachedAt}
use Rattle.tcc_survey.specs.private.Needed.{AreBlocksNeeded}
use Rattle.tcc_survey.specs.private.Settled.{AreFound, AreReads, AreWritersIn, IsAgainst, IsKnown, IsReading, reading_of}
use Rattle.tcc_survey.specs.private.Spells.{IsFirstName, NoneBefore}
use Rattle.tcc_survey.proofs.Pushed.{pushed_all, pushed_early, pushed_last}
use Rattle.tcc_survey.proofs.ScanLemmas.{against_some, known_walk, walk_known}

-- ---- who fits is known
reached_by : (h : History) (a b : ℕ) → IsCausalPair h a b → IsReached h a b
reached_by h a b pair = let w = pair_walk h a b pair in (w.0, w.1)

-- from what c, or one before it in its session, reads from
reached_up : (h : History) (d e c : ℕ) (y : List ℕ) → IsReadsPair h d e y → IsUpTo h e c → IsReached h d c
reached_up h d e c y pair upto = go upto.1
  where
    into : IsReached h d e
    into = reached_by h d e (inr (y, pair))

    go : (e ≡ c) ⊎ IsSessionPair h e c → IsReached h d c
    go (inl same) = subst (IsReached h d) same into
    go (inr before) = reached_append h d e c into (reached_by h e c (inl before))

pub fits_reached : (h : History) (c : ℕ) (x : List ℕ) (b : ℕ) (it : UsualName) → IsCloser it → Fits h c x b it → IsReached h b c
fits_reached h c x b name.ReadYourWrites closer pair = reached_by h b c (inl pair)
fits_reached h c x b name.FracturedRead closer (y, pair) = reached_by h b c (inr (y, pair))
fits_reached h c x b name.MonotonicReads closer (e, pair, before) = reached_append h b e c (reached_by h b e (inr (x, pair))) (reached_by h e c (inl before))
fits_reached h c x b name.MonotonicWrites closer (e, d, upto, (y, pair), before) =
    reached_append h b d c (reached_by h b d (inl before)) (reached_up h d e c y pair upto)
fits_reached h c x b name.WritesFollowReads closer (e, d, upto, (y, pair), (f, reads, way)) = reached_append h b f c (reached_by h b f (inr (x, reads))) (go way)
  where
    go : (f ≡ d) ⊎ IsSessionPair h f d → IsReached h f c
    go (inl same) = subst (λ (z : ℕ). IsReached h z c) (sym same) (reached_up h d e c y pair upto)
    go (inr before) = reached_append h f d c (reached_by h f d (inl before)) (reached_up h d e c y pair upto)
fits_reached h c x b name.CausalChain closer fits = let no : 5 < 5 = closer in absurd (omega (arith, no))

-- ---- the order of names
pub later_trans : (n m o : Called) → IsNoLater n m → IsNoLater m o → IsNoLater n o
later_trans n m o (inl low) (inl high) = inl (omega (arith, low, high))
later_trans n m o (inl low) (inr w) = inl (omega (arith, low, w.0))
later_trans n m o (inr v) (inl high) = inl (omega (arith, v.0, high))
later_trans n m o (inr v) (inr w) = inr (omega (arith, v.0, w.0), omega (arith, v.1, w.1))

-- no name comes after the last
chain_or_closer : (it : UsualName) → (it ≡ name.CausalChain) ⊎ IsCloser it
chain_or_closer name.ReadYourWrites = inr (omega arith)
chain_or_closer name.FracturedRead = inr (omega arith)
chain_or_closer name.MonotonicReads = inr (omega arith)
chain_or_closer name.MonotonicWrites = inr (omega arith)
chain_or_closer name.WritesFollowReads = inr (omega arith)
chain_or_closer name.CausalChain = inl refl

-- ---- one writer more
module _ (s : Calling) (is : IsCalling s) where
  abbrev j : Judged
  j = judged s.knowledge.graph.now s.level

  abbrev r : Reading
  r = s.reading

  abbrev x : List ℕ
  x = key_at s.knowledge.graph.now s.reading.key_index

  module _ (among : List ℕ) (one : Called) (before : IsCalledAmong j s.from among r one) (b : ℕ) where
    -- what holds of those before, where it holds of the new one
    more : (n : Called) → IsAgainst j r n.writer → FitsRead j r n → IsNoLater n one
        → ((m : Called) → m.writer ≡ b → IsAgainst j r m.writer → FitsRead j r m → s.from ≤ owner j.history m.writer
        → owner j.history m.writer < s.from + WIDE → IsNoLater n m) → IsCalledAmong j s.from (among ++ b ∷ []) r n
    more n by fits up met = record { by = by; fits = fits; first = λ m against fits tried. go m against fits tried }
      where
        old : (m : Called) → IsAgainst j r m.writer → FitsRead j r m → IsTried j s.from among m → IsNoLater n m
        old m against fits tried = later_trans n one m up (before.first m against fits tried)

        go : (m : Called) → IsAgainst j r m.writer → FitsRead j r m → IsTried j s.from (among ++ b ∷ []) m → IsNoLater n m
        go m against fits (inl chain) = old m against fits (inl chain)
        go m against fits (inr (inl early)) = old m against fits (inr (inl early))
        go m against fits (inr (inr (there, low))) = by_place (Contains-push_cases among b m.writer there) (cases_lt (owner j.history m.writer) s.from)
          where
            by_place : Contains among m.writer ⊎ (b ≡ m.writer) → (owner j.history m.writer < s.from) ⊎ (s.from ≤ owner j.history m.writer) → IsNoLater n m
            by_place (inl listed) kind = old m against fits (inr (inr (listed, low)))
            by_place (inr same) (inl early) = old m against fits (inr (inl early))
            by_place (inr same) (inr late) = met m (sym same) against fits late low

    -- a writer that doesn't contradict the read
    pub passed : (IsAgainst j r b → s.from ≤ owner j.history b → owner j.history b < s.from + WIDE → ⊥) → IsCalledAmong j s.from (among ++ b ∷ []) r one
    passed never = more one before.by before.fits (inr (refl, omega arith)) (λ m same against fits late low.
        absurd (never (subst (IsAgainst j r) same against) (subst (λ (z : ℕ). s.from ≤ owner j.history z) same late)
        (subst (λ (z : ℕ). owner j.history z < s.from + WIDE) same low)))

    -- a writer that only a chain leads from
    pub distant_passed : NoneBefore s.knowledge.graph.now r.reader x b (rank name.CausalChain) → IsCalledAmong j s.from (among ++ b ∷ []) r one
    distant_passed never = more one before.by before.fits (inr (refl, omega arith)) first
      where
        first : (m : Called) → m.writer ≡ b → IsAgainst j r m.writer → FitsRead j r m → s.from ≤ owner j.history m.writer
            → owner j.history m.writer < s.from + WIDE → IsNoLater one m
        first m same against fits late low = go (chain_or_closer m.name)
          where
            go : (m.name ≡ name.CausalChain) ⊎ IsCloser m.name → IsNoLater one m
            go (inl chain) = before.first m against fits (inl chain)
            go (inr closer) = absurd (never m.name closer (subst (λ (z : ℕ). Fits j.history r.reader x z m.name) same fits))

    module _ (writer : Contains (writers s.knowledge.graph.now x) b) where
      below : b < count s.knowledge.graph.now
      below = (writer_writes s.knowledge.graph.now x b writer).0

      pub zero_passed : b ≡ 0 → IsCalledAmong j s.from (among ++ b ∷ []) r one
      zero_passed none = passed (λ against late low. omega (arith, against_some j is.knowledge.acyclic r is.reading b against, none))

      pub unreached_passed : 0 < b → (IsReachedAt s.knowledge.owners.now s.from s.first.now b → ⊥) → IsCalledAmong j s.from (among ++ b ∷ []) r one
      unreached_passed some never = passed (λ against late low.
          let small : owner j.history b - s.from < WIDE = omega (arith, late, low) in
          let owned : owner j.history b ≡ s.from + (owner j.history b - s.from) = omega (arith, late) in
          never (owner j.history b - s.from, small, is.knowledge.owned.each b some below ∙ owned, (is.first.each (owner j.history b - s.from) small b some below owned).0 against.1))

      pub unknown_passed : (IsKnown s.level s.knowledge.graph.now b r.reader → ⊥) → IsCalledAmong j s.from (among ++ b ∷ []) r one
      unknown_passed never = passed (λ against late low. never (walk_known j b r.reader against.0.0 against.0.1.1.0 against.0.1.1.1))

      module _ (some : 0 < b) (reached : IsReachedAt s.knowledge.owners.now s.from s.first.now b) (known : IsKnown s.level s.knowledge.graph.now b r.reader)
          (it : UsualName) (called : IsFirstName s.knowledge.graph.now r.reader x b it) where
        onward : IsReached j.history r.source b
        onward = go reached
          where
            go : IsReachedAt s.knowledge.owners.now s.from s.first.now b → IsReached j.history r.source b
            go (k, small, here, above) = (is.first.each k small b some below (sym (is.knowledge.owned.each b some below) ∙ here)).1 above

        against_new : IsCloser it → IsAgainst j r b
        against_new closer =
            let into : IsReached j.history b r.reader = fits_reached j.history r.reader x b it closer called.fits in
            let apart : b ≢ r.source = λ e. is.knowledge.acyclic r.source (subst (λ (z : ℕ). IsReached j.history r.source z) e onward) in
            let w = known_walk j b r.reader into known in
            ((w.0, ((apart, is.reading.pair, writer_writes j.history x b writer), (w.1, w.2))), onward)

        pub new_called : (result : Called) → (result ≡ one) ⊎ ((result ≡ as_called it b) × IsCloser it) → IsNoLater result one
            → (IsCloser it → IsNoLater result (as_called it b)) → IsCalledAmong j s.from (among ++ b ∷ []) r result
        new_called result choice kept met = more result (by choice) (fits choice) kept first
          where
            by : (result ≡ one) ⊎ ((result ≡ as_called it b) × IsCloser it) → IsAgainst j r result.writer
            by (inl same) = subst (λ (n : Called). IsAgainst j r n.writer) (sym same) before.by
            by (inr (same, closer)) = subst (λ (n : Called). IsAgainst j r n.writer) (sym same) (against_new closer)

            fits : (result ≡ one) ⊎ ((result ≡ as_called it b) × IsCloser it) → FitsRead j r result
            fits (inl same) = subst (FitsRead j r) (sym same) before.fits
            fits (inr (same, closer)) = subst (FitsRead j r) (sym same) called.fits

            first : (m : Called) → m.writer ≡ b → IsAgainst j r m.writer → FitsRead j r m → s.from ≤ owner j.history m.writer
                → owner j.history m.writer < s.from + WIDE → IsNoLater result m
            first m same against fitting late low = go (chain_or_closer m.name) (cases_lt (rank m.name) (rank it)) (chain_or_closer it)
              where
                go : (m.name ≡ name.CausalChain) ⊎ IsCloser m.name → (rank m.name < rank it) ⊎ (rank it ≤ rank m.name) → (it ≡ name.CausalChain) ⊎ IsCloser it
                    → IsNoLater result m
                go (inl chain) kind other = later_trans result one m kept (before.first m against fitting (inl chain))
                go (inr closer) (inl less) other = absurd (called.first m.name less (subst (λ (z : ℕ). Fits j.history r.reader x z m.name) same fitting))
                go (inr closer) (inr more) (inl last) =
                    let top : rank it ≡ 5 = ap rank last in absurd (omega (arith, more, top, closer))
                go (inr closer) (inr more) (inr near) = later_trans result (as_called it b) m (met near) (upto (cases_eq (rank it) (rank m.name)))
                  where
                    upto : (rank it ≡ rank m.name) ⊎ (rank it ≢ rank m.name) → IsNoLater (as_called it b) m
                    upto (inl equal) = inr (equal, omega (arith, same))
                    upto (inr other) = inl (omega (arith, more, other))

-- ---- a read through a block
module _ (j : Judged) (from : ℕ) (r : Reading) (one : Called) (before : IsCalledBefore j from r one) where
  -- nothing contradicts the read
  pub none_called : one.writer ≡ 0 → IsCalledBefore j (from + WIDE) r one
  none_called none = go before
    where
      go : IsCalledBefore j from r one → IsCalledBefore j (from + WIDE) r one
      go (inl w) = inl w
      go (inr w) = absurd (omega (arith, none, w.0))

  pub begin : 0 < one.writer → IsCalledAmong j from [] r one
  begin some = go before
    where
      go : IsCalledBefore j from r one → IsCalledAmong j from [] r one
      go (inl w) = absurd (omega (arith, some, w.0))
      go (inr (more, by, fits, first)) = record { by = by; fits = fits; first = λ m against fitting tried. first m against fitting (tried_before m tried) }
        where
          tried_before : (m : Called) → IsTried j from [] m → (m.name ≡ name.CausalChain) ⊎ (owner j.history m.writer < from)
          tried_before m (inl chain) = inl chain
          tried_before m (inr (inl early)) = inr early
          tried_before m (inr (inr (there, low))) = absurd (omega (arith, there.1))

pub finish : (j : Judged) → IsAcyclic j.history → (from : ℕ) (r : Reading) → IsReading j.history r → (among : List ℕ)
    → AreWritersIn j.history from (key_at j.history r.key_index) among → (n : Called) → IsCalledAmong j from among r n → IsCalledBefore j (from + WIDE) r n
finish j acyclic from r read among in_block n is = inr (against_some j acyclic r read n.writer is.by, is.by, is.fits, first)
  where
    first : (m : Called) → IsAgainst j r m.writer → FitsRead j r m → (m.name ≡ name.CausalChain) ⊎ (owner j.history m.writer < from + WIDE) → IsNoLater n m
    first m against fits (inl chain) = is.first m against fits (inl chain)
    first m against fits (inr low) = go (cases_lt (owner j.history m.writer) from)
      where
        go : (owner j.history m.writer < from) ⊎ (from ≤ owner j.history m.writer) → IsNoLater n m
        go (inl early) = is.first m against fits (inr (inl early))
        go (inr late) =
            let listed : Contains (writers j.history (key_at j.history r.key_index)) m.writer
            = writer_listed j.history (key_at j.history r.key_index) r.source r.reader m.writer read.pair against.0.1.0.2 in
            is.first m against fits (inr (inr (in_block.all m.writer (against_some j acyclic r read m.writer against) listed late low, low)))

-- ---- all blocks
-- each least writer ends a chain
pub chains_called : (j : Judged) (reads : List Reading) (found : List ℕ) → AreFound j reads found → AreCalledBefore j reads 0 (map (as_called name.CausalChain) found)
chains_called j reads found are = record { long = length-map found (as_called name.CausalChain) ∙ are.long; each = λ k l. go k l (cases_eq (slice_index found k) 0) }
  where
    at : (k : ℕ) → k < length reads → called_at (map (as_called name.CausalChain) found) k ≡ as_called name.CausalChain (slice_index found k)
    at k l = get_or-map (as_called name.CausalChain) found k 0 (as_called name.CausalChain 0) (omega (arith, l, are.long))

    some : (k : ℕ) → k < length reads → slice_index found k ≢ 0 → (slice_index found k ≡ 0) ⊎ IsAgainst j (reading_of reads k) (slice_index found k)
        → IsAgainst j (reading_of reads k) (slice_index found k)
    some k l other (inl none) = absurd (other none)
    some k l other (inr against) = against

    first : (k : ℕ) → k < length reads → (m : Called) → IsAgainst j (reading_of reads k) m.writer → FitsRead j (reading_of reads k) m
        → (m.name ≡ name.CausalChain) ⊎ (owner j.history m.writer < 0) → IsNoLater (as_called name.CausalChain (slice_index found k)) m
    first k l m against fits (inl chain) = inr (ap rank (sym chain), ((are.each k l).least m.writer against).1)
    first k l m against fits (inr low) = absurd (omega (arith, low))

    go : (k : ℕ) → k < length reads → (slice_index found k ≡ 0) ⊎ (slice_index found k ≢ 0)
        → IsCalledBefore j 0 (reading_of reads k) (called_at (map (as_called name.CausalChain) found) k)
    go k l (inl none) =
        rw (at k l) (inl (none, λ b against. omega (arith, none, ((are.each k l).least b against).0)))
    go k l (inr other) =
        rw (at k l) (inr (omega (arith, other), some k l other (are.each k l).attained, tt, first k l))

-- where all sessions are gone through
pub all_called : (j : Judged) → IsBySession j.history.entries → (reads : List Reading) (bound sessions : ℕ) (all : List Called) → AreCalledBefore j reads bound all → sessions ≤ bound
    → ((b : ℕ) → 0 < b → b < count j.history → owner j.history b < sessions)
    → ((k : ℕ) → k < length reads → (b : ℕ) → IsAgainst j (reading_of reads k) b → 0 < b) → AreCalled j reads all
all_called j numbered reads bound sessions all are cover owned some = record { long = are.long; each = λ k l. go k l (are.each k l) }
  where
    go : (k : ℕ) → k < length reads → IsCalledBefore j bound (reading_of reads k) (called_at all k) → IsCalledSo j (reading_of reads k) (called_at all k)
    go k l (inl none) = inl none
    go k l (inr (more, by, fits, first)) = inr (
      more,
      record { fits = ((called_at all k).writer, by, fits); first = λ other less w. never other less w.0 (up (as_called other w.0) w.1 w.2) },
      record { by = by; fits = fits; least = λ d against fitting. least d (up (as_called (called_at all k).name d) against fitting) },
    )
      where
        up : (m : Called) → IsAgainst j (reading_of reads k) m.writer → FitsRead j (reading_of reads k) m → IsNoLater (called_at all k) m
        up m against fitting = first m against fitting (inr (omega (arith, owned m.writer (some k l m.writer against) against.0.1.0.2.0, cover)))

        never : (other : UsualName) → rank other < rank (called_at all k).name → (d : ℕ) → IsNoLater (called_at all k) (as_called other d) → ⊥
        never other less d (inl low) = omega (arith, less, low)
        never other less d (inr w) = omega (arith, less, w.0)

        least : (d : ℕ) → IsNoLater (called_at all k) (as_called (called_at all k).name d) → (called_at all k).writer ≤ d
        least d (inl low) = absurd (omega (arith, low))
        least d (inr w) = w.1

-- where no block has a writer that contradicts the read
pub block_passed : (j : Judged) (from next : ℕ) (r : Reading) (one : Called) → IsCalledBefore j from r one
    → ((b : ℕ) → IsAgainst j r b → from ≤ owner j.history b → owner j.history b < next → ⊥) → IsCalledBefore j next r one
block_passed j from next r one (inl none) nobody = inl none
block_passed j from next r one (inr (some, by, fits, first)) nobody = inr (some, by, fits, λ m against fitting kind. go m against fitting kind)
  where
    go : (m : Called) → IsAgainst j r m.writer → FitsRead j r m → (m.name ≡ name.CausalChain) ⊎ (owner j.history m.writer < next) → IsNoLater one m
    go m against fitting (inl chain) = first m against fitting (inl chain)
    go m against fitting (inr low) = place (cases_lt (owner j.history m.writer) from)
      where
        place : (owner j.history m.writer < from) ⊎ (from ≤ owner j.history m.writer) → IsNoLater one m
        place (inl early) = first m against fitting (inr early)
        place (inr late) = absurd (nobody m.writer against late low)

-- ---- the reads that something contradicts
module _ (reads : List Reading) (found : List ℕ) (n : ℕ) (chosen : List Reading) (are : AreChosen reads found n chosen) where
  pub chosen_passed : slice_index found n ≡ 0 → AreChosen reads found (n + 1) chosen
  chosen_passed none = record {
    each = λ k l. let w = are.each k l in (w.0, omega (arith, w.1), w.2);
    all = λ m l some. go m l some (cases_eq m n);
  }
    where
      go : (m : ℕ) → m < n + 1 → 0 < slice_index found m → (m ≡ n) ⊎ (m ≢ n) → (k : ℕ) × (k < length chosen) × (reading_of chosen k ≡ reading_of reads m)
      go m l some (inl same) =
          let zeroth : slice_index found m ≡ 0 = rw same none in absurd (omega (arith, some, zeroth))
      go m l some (inr other) = are.all m (omega (arith, l, other)) some

  abbrev unread : Reading
  unread = reading_of [] 0

  pub chosen_more : AreChosen reads found (n + 1) (chosen ++ reading_of reads n ∷ [])
  chosen_more = record {
    each = pushed_all chosen (reading_of reads n) unread (λ r. (m : ℕ) × (m < n + 1) × (r ≡ reading_of reads m))
        (λ k l. let w = are.each k l in (w.0, omega (arith, w.1), w.2)) (n, omega arith, refl);
    all = λ m l some. go m l some (cases_eq m n);
  }
    where
      go : (m : ℕ) → m < n + 1 → 0 < slice_index found m → (m ≡ n) ⊎ (m ≢ n)
          → (k : ℕ) × (k < length (chosen ++ reading_of reads n ∷ [])) × (reading_of (chosen ++ reading_of reads n ∷ []) k ≡ reading_of reads m)
      go m l some (inl same) = (
        length chosen,
        omega (arith, length-append chosen (reading_of reads n ∷ [])),
        pushed_last chosen (reading_of reads n) unread (length chosen) refl ∙ ap (reading_of reads) (sym same),
      )
      go m l some (inr other) =
          let w = are.all m (omega (arith, l, other)) some in (
            w.0,
            omega (arith, w.1, length-append chosen (reading_of reads n ∷ [])),
            pushed_early chosen (reading_of reads n) unread w.0 w.1 ∙ w.2,
          )

module _ (j : Judged) (reads : List Reading) (found : List ℕ) (are : AreFound j reads found) (chosen : List Reading)
    (some : AreChosen reads found (length reads) chosen) where
  pub chosen_reads : AreReads j.history reads → AreReads j.history chosen
  chosen_reads all k l = let w = some.each k l in subst (IsReading j.history) (sym w.2) (all w.0 w.1)

  pub chosen_contradicted : HasContradicted j reads chosen
  chosen_contradicted m l = go (cases_eq (slice_index found m) 0)
    where
      go : (slice_index found m ≡ 0) ⊎ (slice_index found m ≢ 0) → ((b : ℕ) → IsAgainst j (reading_of reads m) b → ⊥)
          ⊎ ((k : ℕ) × (k < length chosen) × (reading_of chosen k ≡ reading_of reads m))
      go (inl none) = inl (λ b against. omega (arith, none, ((are.each m l).least b against).0))
      go (inr other) = inr (some.all m l (omega (arith, other)))

-- a block that isn't marked is passed over
pub unmarked_passed : (j : Judged) (reads chosen : List Reading) → HasContradicted j reads chosen → (needed : List Bool) → AreBlocksNeeded j chosen needed
    → (number from next : ℕ) → from ≡ number * WIDE → next ≡ from + WIDE → get_or needed number false ≡ false
    → ((k : ℕ) → k < length reads → (b : ℕ) → IsAgainst j (reading_of reads k) b → 0 < b)
    → (all : List Called) → AreCalledBefore j reads from all → AreCalledBefore j reads next all
unmarked_passed j reads chosen others needed marked number from next at beyond unmarked some all are = record {
  long = are.long;
  each = λ k l. block_passed j from next (reading_of reads k) (called_at all k) (are.each k l) (λ b against low high. nobody k l b against low high (others k l));
}
  where
    nobody : (k : ℕ) → k < length reads → (b : ℕ) → IsAgainst j (reading_of reads k) b → from ≤ owner j.history b → owner j.history b < next
        → ((b : ℕ) → IsAgainst j (reading_of reads k) b → ⊥) ⊎ ((m : ℕ) × (m < length chosen) × (reading_of chosen m ≡ reading_of reads k)) → ⊥
    nobody k l b against low high (inl none) = none b against
    nobody k l b against low high (inr (m, inside, same)) =
        let block : owner j.history b / WIDE ≡ number = omega (arith, low, high, at, beyond) in
        let moved : IsAgainst j (reading_of chosen m) b = subst (λ (r : Reading). IsAgainst j r b) (sym same) against in
        let is_marked : get_or needed number false ≡ true
        = subst (λ (z : ℕ). get_or needed z false ≡ true) block (marked m inside b (some k l b against) moved) in
        false≢true (sym unmarked ∙ is_marked)
