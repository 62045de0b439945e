-- From whom the session of a transaction has read up to it, by marks.
use Rattle.std.proofs.Common.{◌≡◌, ◌≢◌, ◌<◌, ◌≤◌, ◌+◌, ◌==◌, ◌⊎◌, inl, inr, ℕ, true, false, List, [], length, get_or, set, slice_index, refl, sym, ap, ◌∙◌, subst, arith}
use Rattle.std.specs.List.{Contains}
use Rattle.std.proofs.lemmas.Bool.{cases_Bool, cases_eq, cases_lt, eq-eqb, eqb-true, false≢true}
use Rattle.std.proofs.lemmas.List.{get_or-set_same, get_or-set_other, get_or_default, length-set}
use Rattle.tcc_txn.proofs.Lists.{from_map}
use Rattle.tcc_reads.specs.History.{History, IsBySession, count, entry_at, owner}
use Rattle.tcc_graph.specs.Keys.{key_at}
use Rattle.tcc_graph.specs.Relations.{IsReadsPair, IsSessionPair}
use Rattle.tcc_graph.proofs.Pairs.{PairParts, pair_parts}
use Rattle.tcc_graph.proofs.Walking.{pair_walk}
use Rattle.tcc_clocks.specs.Clocks.{AreOwners, IsLatestOf, IsOneOf}
use Rattle.tcc_clocks.proofs.Reaching.{reads_source, same_session, session_rises}
use Rattle.tcc_clocks.proofs.SpanLemmas.{owners_rise}
use Rattle.tcc_survey.specs.Circles.{IsAcyclic}
use Rattle.tcc_survey.specs.Names.{IsUpTo}
use Rattle.tcc_survey.specs.declared.external_reads.Reading.{Reading}
use Rattle.tcc_survey.specs.declared.seen.Mark.{Mark}
use Rattle.tcc_survey.specs.private.Listed.{AreReadsUpTo}
use Rattle.tcc_survey.specs.private.Seen.{AreMarks, AreUpToReader, HaveRoom, IsSeen, IsUpToMark, latest_mark, mark_at, mark_of, no_mark}
use Rattle.tcc_survey.specs.private.Settled.{reading_of}
use Rattle.tcc_survey.proofs.ScanLemmas.{never_init}

-- ---- one read more
upto_trans : (m n o : Mark) → IsUpToMark m n → IsUpToMark n o → IsUpToMark m o
upto_trans m n o (inl low) (inl high) = inl (omega (arith, low, high))
upto_trans m n o (inl low) (inr w) = inl (omega (arith, low, w.0))
upto_trans m n o (inr v) (inl high) = inl (omega (arith, v.0, high))
upto_trans m n o (inr v) (inr w) = inr (omega (arith, v.0, w.0), omega (arith, v.1, w.1))

module _ (owners : List ℕ) (reads : List Reading) (n : ℕ) (marks : List Mark) (are : AreMarks owners reads n marks) where
  abbrev IsMarkedAt : ℕ → ℕ → Mark → Type 0
  IsMarkedAt bound l m = (m ≡ no_mark)
      ⊎ ((k : ℕ) × (k < bound) × (0 < (reading_of reads k).source) × (slice_index owners (reading_of reads k).source ≡ l) × (m ≡ mark_of owners (reading_of reads k)))

  further : (l : ℕ) (m : Mark) → IsMarkedAt n l m → IsMarkedAt (n + 1) l m
  further l m (inl none) = inl none
  further l m (inr (k, less, some, mine, is)) = inr (k, omega (arith, less), some, mine, is)

  pub marks_passed : (reading_of reads n).source ≡ 0 → AreMarks owners reads (n + 1) marks
  marks_passed none = record {
    attained = λ l inside. further l (mark_at marks l) (are.attained l inside);
    greatest = λ k less some. go k less some (cases_eq k n);
  }
    where
      go : (k : ℕ) → k < n + 1 → 0 < (reading_of reads k).source → (k ≡ n) ⊎ (k ≢ n)
          → IsUpToMark (mark_of owners (reading_of reads k)) (mark_at marks (slice_index owners (reading_of reads k).source))
      go k less some (inl same) =
          let here : 0 < (reading_of reads n).source = subst (λ (m : ℕ). 0 < (reading_of reads m).source) same some in
          absurd (omega (arith, here, none))
      go k less some (inr other) = are.greatest k (omega (arith, less, other)) some

  module _ (some : 0 < (reading_of reads n).source) (at : ℕ) (here : at ≡ slice_index owners (reading_of reads n).source) (room : at < length marks) (v : Mark)
      (one : (v ≡ mark_at marks at) ⊎ (v ≡ mark_of owners (reading_of reads n))) (old : IsUpToMark (mark_at marks at) v)
      (new : IsUpToMark (mark_of owners (reading_of reads n)) v) where
    put : mark_at (set marks at v) at ≡ v
    put = get_or-set_same marks at v no_mark room

    kept : (l : ℕ) → l ≢ at → mark_at (set marks at v) l ≡ mark_at marks l
    kept l other = get_or-set_other marks at l v no_mark other

    of_new : (v ≡ mark_at marks at) ⊎ (v ≡ mark_of owners (reading_of reads n)) → IsMarkedAt (n + 1) at v
    of_new (inl same) = subst (IsMarkedAt (n + 1) at) (sym same) (further at (mark_at marks at) (are.attained at room))
    of_new (inr same) = inr (n, omega arith, some, sym here, same)

    pub marks_more : AreMarks owners reads (n + 1) (set marks at v)
    marks_more = record {
      attained = λ l inside. go l inside (cases_eq l at);
      greatest = λ k less above. up k less above (cases_eq k n) (cases_eq (slice_index owners (reading_of reads k).source) at);
    }
      where
        go : (l : ℕ) → l < length (set marks at v) → (l ≡ at) ⊎ (l ≢ at) → IsMarkedAt (n + 1) l (mark_at (set marks at v) l)
        go l inside (inl same) = rw (same, put) (of_new one)
        go l inside (inr other) = rw (kept l other) (further l (mark_at marks l) (are.attained l (omega (arith, inside, length-set marks at v))))

        up : (k : ℕ) → k < n + 1 → 0 < (reading_of reads k).source → (k ≡ n) ⊎ (k ≢ n)
            → (slice_index owners (reading_of reads k).source ≡ at) ⊎ (slice_index owners (reading_of reads k).source ≢ at)
            → IsUpToMark (mark_of owners (reading_of reads k)) (mark_at (set marks at v) (slice_index owners (reading_of reads k).source))
        up k less above (inl same) kind =
            subst (λ (m : ℕ). IsUpToMark (mark_of owners (reading_of reads m)) (mark_at (set marks at v) (slice_index owners (reading_of reads m).source))) (sym same)
            (subst (λ (l : ℕ). IsUpToMark (mark_of owners (reading_of reads n)) (mark_at (set marks at v) l)) here (rw put new))
        up k less above (inr other) (inl same) =
            let before : IsUpToMark (mark_of owners (reading_of reads k)) (mark_at marks at)
            = subst (λ (l : ℕ). IsUpToMark (mark_of owners (reading_of reads k)) (mark_at marks l)) same (are.greatest k (omega (arith, less, other)) above) in
            rw (same, put) (upto_trans (mark_of owners (reading_of reads k)) (mark_at marks at) v before old)
        up k less above (inr other) (inr apart) =
            rw (kept (slice_index owners (reading_of reads k).source) apart) (are.greatest k (omega (arith, less, other)) above)

-- each session has a mark
pub owners_room : (h : History) (owners : List ℕ) → AreOwners h owners → (sessions room : ℕ) → room ≡ sessions
    → ((n : ℕ) → 0 < n → n < count h → owner h n < sessions) → (c : ℕ) → 0 < c → c < count h → (b : ℕ) → b < count h → slice_index owners b < room
owners_room h owners known sessions room same owned c some below b inside = go (cases_eq b 0)
  where
    go : (b ≡ 0) ⊎ (b ≢ 0) → slice_index owners b < room
    go (inl none) =
        let zeroth : slice_index owners b ≡ 0 = rw none known.init in omega (arith, zeroth, owned c some below, same)
    go (inr other) =
        let more : 0 < b = omega (arith, other) in omega (arith, known.each b more inside, owned b more inside, same)

-- at the beginning
pub unmarked : (owners : List ℕ) (reads : List Reading) (marks : List Mark) → ((l : ℕ) → l < length marks → mark_at marks l ≡ no_mark) → AreMarks owners reads 0 marks
unmarked owners reads marks none = record { attained = λ l inside. inl (none l inside); greatest = λ k less. absurd (omega (arith, less)) }

-- ---- what the marks say of a transaction
latest_same : (owners : List ℕ) (marks : List Mark) (c l : ℕ) → (mark_at marks l).session ≡ slice_index owners c → latest_mark owners marks c l ≡ (mark_at marks l).source
latest_same owners marks c l same = rw (eq-eqb (mark_at marks l).session (slice_index owners c) same) refl

latest_none : (owners : List ℕ) (marks : List Mark) (c l : ℕ) → ((mark_at marks l).session == slice_index owners c) ≡ false → latest_mark owners marks c l ≡ 0
latest_none owners marks c l other = rw other refl

-- the reader of a pair is no `init`
pub reader_some : (h : History) → IsAcyclic h → (d e : ℕ) (x : List ℕ) → IsReadsPair h d e x → 0 < e
reader_some h acyclic d e x pair = go (cases_eq e 0)
  where
    go : (e ≡ 0) ⊎ (e ≢ 0) → 0 < e
    go (inl none) =
        let w = pair_walk h d 0 (inr (x, subst (λ (z : ℕ). IsReadsPair h d z x) none pair)) in
        absurd (never_init h acyclic d pair.0 (w.0, w.1))
    go (inr some) = omega (arith, some)

module _ (h : History) (numbered : IsBySession h.entries) (acyclic : IsAcyclic h) (owners : List ℕ) (known : AreOwners h owners) (reads : List Reading)
    (listed : AreReadsUpTo h (count h) 0 reads) where
  -- those of later reads are no earlier
  pub reads_rise : (k l : ℕ) → k ≤ l → l < length reads → (reading_of reads k).reader ≤ (reading_of reads l).reader
  reads_rise k l upto inside = go (cases_eq k l)
    where
      go : (k ≡ l) ⊎ (k ≢ l) → (reading_of reads k).reader ≤ (reading_of reads l).reader
      go (inl same) = subst (λ (z : ℕ). (reading_of reads k).reader ≤ (reading_of reads z).reader) same (omega arith)
      go (inr other) = by (listed.order k l (omega (arith, upto, other)) inside)
        where
          by : ((reading_of reads k).reader < (reading_of reads l).reader)
              ⊎ (((reading_of reads k).reader ≡ (reading_of reads l).reader) × ((reading_of reads k).index < (reading_of reads l).index))
              → (reading_of reads k).reader ≤ (reading_of reads l).reader
          by (inl less) = omega (arith, less)
          by (inr w) = omega (arith, w.0)

  pub have_room : (sessions room : ℕ) → sessions ≡ room → ((b : ℕ) → 0 < b → b < count h → owner h b < sessions) → HaveRoom owners room reads
  have_room sessions room same owned k l = (
    omega (arith, pair.1, known.long),
    omega (arith, pair.0, known.long),
    owners_room h owners known sessions room (sym same) owned (reading_of reads k).reader
        (reader_some h acyclic (reading_of reads k).source (reading_of reads k).reader (key_at h (reading_of reads k).key_index) pair) pair.1
        (reading_of reads k).source pair.0,
  )
    where
      pair : IsReadsPair h (reading_of reads k).source (reading_of reads k).reader (key_at h (reading_of reads k).key_index)
      pair = (listed.each k l).reading.pair

  -- the source of a read that is listed
  source_at : (k e i : ℕ) → k < length reads → (reading_of reads k).reader ≡ e → (reading_of reads k).index ≡ i
      → (get_or (entry_at h e).reads i ([], 0)).1 ≡ (reading_of reads k).source
  source_at k e i inside reader index = rw (← reader, ← index) (ap (λ (p : List ℕ × ℕ). p.1) (listed.each k inside).read)

  -- a pair is listed
  read_listed : (d e : ℕ) (x : List ℕ) → IsReadsPair h d e x → (k : ℕ) × (k < length reads) × ((reading_of reads k).reader ≡ e) × ((reading_of reads k).source ≡ d)
  read_listed d e x pair =
      let w = from_map (λ (read : List ℕ × ℕ). read.1) (entry_at h e).reads d (reads_source h d e x pair.2) in
      go w.0 w.1 w.2
    where
      go : (r : List ℕ × ℕ) → Contains (entry_at h e).reads r → r.1 ≡ d
          → (k : ℕ) × (k < length reads) × ((reading_of reads k).reader ≡ e) × ((reading_of reads k).source ≡ d)
      go r (i, inside, here) is =
          let w = listed.whole e i pair.1 inside (inl pair.1) in
          let at : ◌≡◌ {A = List ℕ × ℕ} (get_or (entry_at h e).reads i ([], 0)) r = get_or_default (entry_at h e).reads i ([], 0) r inside ∙ here in
          (w.0, w.1, w.2, sym (source_at w.0 e i w.1 w.2 w.3) ∙ (ap (λ (p : List ℕ × ℕ). p.1) at ∙ is))

  module _ (n c : ℕ) (some : 0 < c) (below : c < count h) (upto : AreUpToReader reads n c) (marks : List Mark) (are : AreMarks owners reads n marks) (l : ℕ)
      (inside : l < length marks) where
    abbrev m : Mark
    m = mark_at marks l

    mine : slice_index owners c ≡ owner h c
    mine = known.each c some below

    -- the session of a mark is no later than that of c
    no_later : m.session ≤ slice_index owners c
    no_later = go (are.attained l inside)
      where
        go : (mark_at marks l ≡ no_mark) ⊎ ((k : ℕ) × (k < n) × (0 < (reading_of reads k).source) × (slice_index owners (reading_of reads k).source ≡ l)
            × (mark_at marks l ≡ mark_of owners (reading_of reads k))) → (mark_at marks l).session ≤ slice_index owners c
        go (inl none) = let zeroth : (mark_at marks l).session ≡ 0 = ap (λ (m : Mark). m.session) none in omega (arith, zeroth)
        go (inr (k, less, source, at, is)) =
            let here : (mark_at marks l).session ≡ slice_index owners (reading_of reads k).reader = ap (λ (m : Mark). m.session) is in
            omega (arith, here, owners_rise h numbered owners known (reading_of reads k).reader c 0 (upto.early k less) (omega (arith, below, known.long)))

    -- who was seen is marked
    marked : (b : ℕ) → IsOneOf h (IsSeen h c) l b → ((mark_at marks l).session ≡ slice_index owners c) × (b ≤ (mark_at marks l).source)
    marked b one = go one.meant.0 one.meant.1 one.meant.2.0 one.meant.2.1
      where
        by : (e : ℕ) → slice_index owners e ≡ slice_index owners c
            → (slice_index owners e < (mark_at marks l).session) ⊎ ((slice_index owners e ≡ (mark_at marks l).session) × (b ≤ (mark_at marks l).source))
            → ((mark_at marks l).session ≡ slice_index owners c) × (b ≤ (mark_at marks l).source)
        by e here (inl less) = absurd (omega (arith, less, here, no_later))
        by e here (inr w) = (sym w.0 ∙ here, w.1)

        go : (e : ℕ) → IsUpTo h e c → (x : List ℕ) → IsReadsPair h b e x → ((mark_at marks l).session ≡ slice_index owners c) × (b ≤ (mark_at marks l).source)
        go e is x pair =
            let early : e ≤ c = before is.1 in
            let here : slice_index owners e ≡ slice_index owners c = known.each e is.0 pair.1 ∙ (alike is.1 ∙ sym mine) in
            let w = read_listed b e x pair in
            by e here (up w.0 e early w.1 w.2 w.3)
          where
            before : (e ≡ c) ⊎ IsSessionPair h e c → e ≤ c
            before (inl same) = omega (arith, same)
            before (inr p) = let less : e < c = session_rises h numbered e c p in omega (arith, less)

            alike : (e ≡ c) ⊎ IsSessionPair h e c → owner h e ≡ owner h c
            alike (inl same) = ap (owner h) same
            alike (inr p) = let parts : PairParts h e c = pair_parts h e c p in parts.same is.0

            at : slice_index owners b ≡ l
            at = known.each b one.committed one.below ∙ one.owned

            within : (k : ℕ) → k < length reads → (reading_of reads k).reader ≤ c → (k < n) ⊎ (n ≤ k) → k < n
            within k low upto_c (inl less) = less
            within k low upto_c (inr past) = absurd (omega (arith, upto.late k past low, upto_c))

            up : (k e : ℕ) → e ≤ c → k < length reads → (reading_of reads k).reader ≡ e → (reading_of reads k).source ≡ b
                → (slice_index owners e < (mark_at marks l).session) ⊎ ((slice_index owners e ≡ (mark_at marks l).session) × (b ≤ (mark_at marks l).source))
            up k e early low reader source =
                let less : k < n = within k low (omega (arith, reader, early)) (cases_lt k n) in
                let is_up : IsUpToMark (mark_of owners (reading_of reads k)) (mark_at marks (slice_index owners (reading_of reads k).source))
                = are.greatest k less (omega (arith, source, one.committed)) in
                rw (← at, ← source, ← reader) is_up

    -- what is marked was seen
    seen : (mark_at marks l).session ≡ slice_index owners c → ((mark_at marks l).source ≡ 0) ⊎ IsOneOf h (IsSeen h c) l (mark_at marks l).source
    seen same = go (are.attained l inside)
      where
        go : (mark_at marks l ≡ no_mark) ⊎ ((k : ℕ) × (k < n) × (0 < (reading_of reads k).source) × (slice_index owners (reading_of reads k).source ≡ l)
            × (mark_at marks l ≡ mark_of owners (reading_of reads k))) → ((mark_at marks l).source ≡ 0) ⊎ IsOneOf h (IsSeen h c) l (mark_at marks l).source
        go (inl none) = inl (ap (λ (m : Mark). m.source) none)
        go (inr (k, less, source, at, is)) = inr (subst (IsOneOf h (IsSeen h c) l) (sym (ap (λ (m : Mark). m.source) is)) record {
          committed = source;
          below = pair.0;
          owned = sym (known.each (reading_of reads k).source source pair.0) ∙ at;
          meant = ((reading_of reads k).reader, (reader_some h acyclic (reading_of reads k).source (reading_of reads k).reader (key_at h (reading_of reads k).key_index) pair, kind (cases_eq (reading_of reads k).reader c)), (key_at h (reading_of reads k).key_index, pair));
        })
          where
            pair : IsReadsPair h (reading_of reads k).source (reading_of reads k).reader (key_at h (reading_of reads k).key_index)
            pair = (listed.each k (omega (arith, less, upto.within))).reading.pair

            here : slice_index owners (reading_of reads k).reader ≡ slice_index owners c
            here = sym (ap (λ (m : Mark). m.session) is) ∙ same

            kind : ((reading_of reads k).reader ≡ c) ⊎ ((reading_of reads k).reader ≢ c)
                → ((reading_of reads k).reader ≡ c) ⊎ IsSessionPair h (reading_of reads k).reader c
            kind (inl equal) = inl equal
            kind (inr other) =
                let some_e : 0 < (reading_of reads k).reader = reader_some h acyclic (reading_of reads k).source (reading_of reads k).reader (key_at h (reading_of reads k).key_index) pair in
                inr (same_session h numbered (reading_of reads k).reader c some_e (omega (arith, other, upto.early k less)) below (sym (known.each (reading_of reads k).reader some_e pair.1) ∙ (here ∙ mine)))

    pub marks_latest : IsLatestOf h (IsSeen h c) l (latest_mark owners marks c l)
    marks_latest = go (cases_Bool ((mark_at marks l).session == slice_index owners c))
      where
        go : (((mark_at marks l).session == slice_index owners c) ≡ true) ⊎ (((mark_at marks l).session == slice_index owners c) ≡ false)
            → IsLatestOf h (IsSeen h c) l (latest_mark owners marks c l)
        go (inl equal) =
            let same : (mark_at marks l).session ≡ slice_index owners c = eqb-true (mark_at marks l).session (slice_index owners c) equal in
            subst (IsLatestOf h (IsSeen h c) l) (sym (latest_same owners marks c l same)) record { attained = seen same; greatest = λ b one. (marked b one).1 }
        go (inr other) =
            subst (IsLatestOf h (IsSeen h c) l) (sym (latest_none owners marks c l other)) record {
              attained = inl refl;
              greatest = λ b one. absurd (false≢true (sym other ∙ eq-eqb (mark_at marks l).session (slice_index owners c) (marked b one).0));
            }
