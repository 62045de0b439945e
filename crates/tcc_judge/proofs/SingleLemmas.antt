-- Transactions that come after another one and have to come before it by a single pair.
use Rattle.std.proofs.Common.{◌≡◌, ◌≢◌, ◌<◌, ◌≤◌, ◌+◌, ◌&&◌, ◌⊎◌, inl, inr, ℕ, true, false, Option, List, [], ◌∷◌, length, get_or, refl, sym, ap, subst, ◌∙◌, arith}
use Rattle.std.specs.Prelude.{min, nat_lt, nat_le}
use Rattle.std.specs.List.{Contains}
use Rattle.std.specs.List.Sorted.{IsNonDecreasing, IsPartitionedBy, IsPartitionPoint}
use Rattle.std.proofs.lemmas.Bool.{cases_eq, cases_lt, cases_order, or_cases, or_left, or_right, and_parts, and_from, ltb-true, lt-ltb, leb-true, le-leb, false≢true}
use Rattle.std.proofs.lemmas.List.{get_or_default}
use Rattle.std.proofs.lemmas.List.Elements.{Contains-get_or}
use Rattle.tcc_reads.specs.History.{History, IsBySession, count, owner}
use Rattle.tcc_graph.specs.Keys.{key_at}
use Rattle.tcc_graph.specs.Levels.{atomically}
use Rattle.tcc_graph.specs.Relations.{IsCausalPair, IsReadsPair, IsSessionPair}
use Rattle.tcc_graph.specs.Orders.{IsNumbering}
use Rattle.tcc_graph.specs.Walks.{IsWalk}
use Rattle.tcc_graph.specs.declared.step.Step.{Step}
use Rattle.tcc_graph.proofs.Pairs.{initial_pair, lower_first, pair_parts, step_pair}
use Rattle.tcc_graph.proofs.Walking.{pair_walk}
use Rattle.tcc_graph.proofs.WriterLemmas.{writer_writes, writer_listed}
use Rattle.tcc_clocks.proofs.Reaching.{none_before, session_rises}
use Rattle.tcc_least.proofs.ReadLemmas.{AreReadsAt, is_read, read_is}
use Rattle.tcc_judge.specs.declared.least.TheConstants.{NONE}
use Rattle.tcc_judge.specs.Orders.{BreaksAxiom}
use Rattle.tcc_judge.specs.Runs.{first_of}
use Rattle.tcc_judge.specs.private.Least.{IsLeastOf, IsFoundFirst}
use Rattle.tcc_judge.specs.private.Positions.{ArePositions}
use Rattle.tcc_judge.specs.private.Behind.{first_with}
use Rattle.tcc_judge.specs.private.Singles.{DoRise, IsBegin, IsInSession, IsSource, IsSingle, IsSingleOf, IsBrokenBelow, is_passed}
use Rattle.tcc_judge.proofs.Firsts.{front}
use Rattle.tcc_judge.proofs.LeastLemmas.{least_none, least_same, least_lower, least_both}
use Rattle.tcc_judge.proofs.FoundLemmas.{first_more, found_same}
use Rattle.tcc_judge.proofs.PositionLemmas.{before_at, at_before, same_place}

-- ---- where the session of a reader begins
pub begin_none : (h : History) (c : ℕ) → c ≡ 0 → IsBegin h c c
begin_none h c none = λ b. (
  (λ w. absurd (none_before h b (subst (IsSessionPair h b) none w.1))),
  λ w. absurd (omega (arith, w.1, none)),
)

module _ (h : History) (numbered : IsBySession h.entries) where
  pub begin_of : (c session begin : ℕ) → 0 < c → c < count h → owner h c ≡ session → begin ≡ first_of h session → IsBegin h c begin
  begin_of c session begin above below owned is = λ b. ((λ w. there b w.0 w.1), λ w. back b w.0 w.1)
    where
      there : (b : ℕ) → 0 < b → IsSessionPair h b c → (begin ≤ b) × (b < c)
      there b some pair = (from (cases_lt b begin), less)
        where
          less : b < c
          less = session_rises h numbered b c pair

          from : (b < begin) ⊎ (begin ≤ b) → begin ≤ b
          from (inr low) = low
          from (inl high) =
              absurd (omega (arith, (front h numbered b session some (omega (arith, less))).0 (omega (arith, high)), (pair_parts h b c pair).same some, owned))

      back : (b : ℕ) → begin ≤ b → b < c → (0 < b) × IsSessionPair h b c
      back b low less = (some, lower_first h b c some (omega (arith, less)) above below same ((numbered b c less below).1 same))
        where
          some : 0 < b
          some = omega (arith, low, is)

          same : owner h b ≡ owner h c
          same = by (cases_lt (owner h b) session)
            where
              by : (owner h b < session) ⊎ (session ≤ owner h b) → owner h b ≡ owner h c
              by (inl early) = absurd (omega (arith, (front h numbered b session some (omega (arith, less))).1 early, low, is))
              by (inr late) = omega (arith, late, owned, (numbered b c less below).0)

  -- along a session the positions rise
  pub rise_of : (positions : List ℕ) → ((u v : ℕ) → IsSessionPair h u v → get_or positions u 0 < get_or positions v 0) → (c begin : ℕ) → IsBegin h c begin
      → c < count h → DoRise positions begin c
  rise_of positions onward c begin is below u v low less high = onward u v (lower_first h u v (first.0) (omega arith) (last.0) (omega arith) same ((numbered u v less (omega arith)).1 same))
    where
      first : (0 < u) × IsSessionPair h u c
      first = (is u).1 (low, omega arith)

      last : (0 < v) × IsSessionPair h v c
      last = (is v).1 (omega arith, high)

      same : owner h u ≡ owner h v
      same = (pair_parts h u c first.1).same first.0 ∙ sym ((pair_parts h v c last.1).same last.0)

-- ---- the writers of a session, by halving
module _ (positions writers : List ℕ) (begin end position : ℕ) (rising : IsNonDecreasing writers) (rise : DoRise positions begin end) where
  not_passed : (b : ℕ) → IsInSession positions writers begin end position b → is_passed positions begin end position b ≡ true → ⊥
  not_passed b is passed = go (or_cases (nat_lt b begin) (nat_lt b end && nat_le (get_or positions b 0) position) passed)
    where
      go : (nat_lt b begin ≡ true) ⊎ ((nat_lt b end && nat_le (get_or positions b 0) position) ≡ true) → ⊥
      go (inl early) = omega (arith, ltb-true b begin early, is.from)
      go (inr both) =
          omega (arith, leb-true (get_or positions b 0) position (and_parts (nat_lt b end) (nat_le (get_or positions b 0) position) both).1, is.behind)

  pub parted : IsPartitionedBy (is_passed positions begin end position) writers
  parted i j d low inside passed = go (cases_lt (get_or writers i d) begin)
    where
      up : get_or writers i d ≤ get_or writers j d
      up = rising i j d low inside

      go : (get_or writers i d < begin) ⊎ (begin ≤ get_or writers i d) → is_passed positions begin end position (get_or writers i d) ≡ true
      go (inl early) = or_left _ _ (lt-ltb (get_or writers i d) begin early)
      go (inr from) =
          by (or_cases (nat_lt (get_or writers j d) begin) (nat_lt (get_or writers j d) end && nat_le (get_or positions (get_or writers j d) 0) position) passed)
        where
          by : (nat_lt (get_or writers j d) begin ≡ true) ⊎ ((nat_lt (get_or writers j d) end && nat_le (get_or positions (get_or writers j d) 0) position) ≡ true)
              → is_passed positions begin end position (get_or writers i d) ≡ true
          by (inl early) = absurd (omega (arith, ltb-true (get_or writers j d) begin early, up, from))
          by (inr both) =
              let parts = and_parts (nat_lt (get_or writers j d) end) (nat_le (get_or positions (get_or writers j d) 0) position) both in
              let less : get_or writers j d < end = ltb-true (get_or writers j d) end parts.0 in
              let high : get_or positions (get_or writers j d) 0 ≤ position = leb-true (get_or positions (get_or writers j d) 0) position parts.1 in
              or_right _ _ (and_from _ _ (lt-ltb (get_or writers i d) end (omega (arith, up, less)))
              (le-leb (get_or positions (get_or writers i d) 0) position (still (cases_lt (get_or writers i d) (get_or writers j d)) less high)))
            where
              still : (get_or writers i d < get_or writers j d) ⊎ (get_or writers j d ≤ get_or writers i d) → get_or writers j d < end
                  → get_or positions (get_or writers j d) 0 ≤ position → get_or positions (get_or writers i d) 0 ≤ position
              still (inl less) below high = omega (arith, rise (get_or writers i d) (get_or writers j d) from less below, high)
              still (inr more) below high =
                  let same : get_or writers i d ≡ get_or writers j d = omega (arith, up, more) in
                  omega (arith, ap (λ z. get_or positions z 0) same, high)

  module _ (index : ℕ) (point : IsPartitionPoint (λ b. is_passed positions begin end position b ≡ true) (λ b. is_passed positions begin end position b ≡ false) writers index) where
    -- one that is meant is at the point or after it
    from_point : (b : ℕ) → IsInSession positions writers begin end position b → (k : ℕ) × (index ≤ k) × (k < length writers) × (get_or writers k 0 ≡ b)
    from_point b is = go is.writer
      where
        go : Contains writers b → (k : ℕ) × (index ≤ k) × (k < length writers) × (get_or writers k 0 ≡ b)
        go (k, inside, at) = (k, past (cases_lt k index), inside, here)
          where
            here : get_or writers k 0 ≡ b
            here = get_or_default writers k 0 b inside ∙ at

            past : (k < index) ⊎ (index ≤ k) → index ≤ k
            past (inr more) = more
            past (inl less) =
                absurd (not_passed b is (subst (λ (z : ℕ). is_passed positions begin end position z ≡ true) here (point.0 k 0 (omega arith) less)))

    pub no_writer : length writers ≤ index → IsLeastOf (IsInSession positions writers begin end position) NONE
    no_writer all = least_none (IsInSession positions writers begin end position) (λ b is. let w = from_point b is in omega (arith, w.1, w.2, all))

    pub none_in_session : index < length writers → end ≤ get_or writers index 0 → IsLeastOf (IsInSession positions writers begin end position) NONE
    none_in_session inside high =
        least_none (IsInSession positions writers begin end position)
        (λ b is. let w = from_point b is in omega (arith, rising index w.0 0 w.1 w.2, w.3, is.before, high))

    pub one_in_session : index < length writers → get_or writers index 0 < end
        → IsLeastOf (IsInSession positions writers begin end position) (get_or writers index 0)
    one_in_session inside less = record {
      attained = inr record { writer = Contains-get_or writers index 0 inside; from = from (cases_lt b begin); before = less; behind = behind (cases_lt position (get_or positions b 0)) };
      lowest = λ c is. let w = from_point c is in omega (arith, rising index w.0 0 w.1 w.2, w.3);
    }
      where
        b : ℕ
        b = get_or writers index 0

        failed : is_passed positions begin end position b ≡ false
        failed = point.1 index 0 (omega arith) inside

        from : (b < begin) ⊎ (begin ≤ b) → begin ≤ b
        from (inr low) = low
        from (inl early) = absurd (false≢true (sym failed ∙ or_left _ _ (lt-ltb b begin early)))

        behind : (position < get_or positions b 0) ⊎ (get_or positions b 0 ≤ position) → position < get_or positions b 0
        behind (inl more) = more
        behind (inr low) =
            absurd (false≢true (sym failed ∙ or_right _ _ (and_from _ _ (lt-ltb b end less) (le-leb (get_or positions b 0) position low))))

-- ---- the sources of a reader, one after another
-- one of the first sources is one of these writers and comes after a position
pub record IsSourceIn (positions : List ℕ) (writers : List ℕ) (position : ℕ) (reads : List (ℕ × ℕ)) (end : ℕ) (b : ℕ) : Type 0 where
  pub index : ℕ
  pub first : index < end
  pub here : (get_or reads index (0, 0)).1 ≡ b
  pub writer : Contains writers b
  pub behind : position < get_or positions b 0

module _ (positions writers : List ℕ) (position : ℕ) (reads : List (ℕ × ℕ)) where
  pub source_none : IsLeastOf (IsSourceIn positions writers position reads 0) NONE
  source_none = least_none (IsSourceIn positions writers position reads 0) (λ b is. omega (arith, is.first))

  module _ (k least : ℕ) where
    still_source : (b : ℕ) → IsSourceIn positions writers position reads k b → IsSourceIn positions writers position reads (k + 1) b
    still_source b is = record { index = is.index; first = omega (arith, is.first); here = is.here; writer = is.writer; behind = is.behind }

    earlier_source : (b : ℕ) → (is : IsSourceIn positions writers position reads (k + 1) b) → is.index ≢ k → IsSourceIn positions writers position reads k b
    earlier_source b is other = record { index = is.index; first = omega (arith, is.first, other); here = is.here; writer = is.writer; behind = is.behind }

    pub source_more : position < get_or positions (get_or reads k (0, 0)).1 0 → Contains writers (get_or reads k (0, 0)).1
        → IsLeastOf (IsSourceIn positions writers position reads k) least
        → IsLeastOf (IsSourceIn positions writers position reads (k + 1)) (min (get_or reads k (0, 0)).1 least)
    source_more behind writer w =
        least_lower (IsSourceIn positions writers position reads k) (IsSourceIn positions writers position reads (k + 1)) least (get_or reads k (0, 0)).1 still_source
        (record { index = k; first = omega arith; here = refl; writer = writer; behind = behind }) (λ b is. go b is (cases_eq is.index k)) w
      where
        go : (b : ℕ) → (is : IsSourceIn positions writers position reads (k + 1) b) → (is.index ≡ k) ⊎ (is.index ≢ k)
            → IsSourceIn positions writers position reads k b ⊎ (b ≡ (get_or reads k (0, 0)).1)
        go b is (inl same) = inr (sym is.here ∙ ap (λ i. (get_or reads i (0, 0)).1) same)
        go b is (inr other) = inl (earlier_source b is other)

    pub source_same : (position < get_or positions (get_or reads k (0, 0)).1 0 → Contains writers (get_or reads k (0, 0)).1 → ⊥)
        → IsLeastOf (IsSourceIn positions writers position reads k) least → IsLeastOf (IsSourceIn positions writers position reads (k + 1)) least
    source_same apart w =
        least_same (IsSourceIn positions writers position reads k) (IsSourceIn positions writers position reads (k + 1)) least still_source
        (λ b is. go b is (cases_eq is.index k)) w
      where
        go : (b : ℕ) → (is : IsSourceIn positions writers position reads (k + 1) b) → (is.index ≡ k) ⊎ (is.index ≢ k)
            → IsSourceIn positions writers position reads k b
        go b is (inr other) = earlier_source b is other
        go b is (inl same) =
            let at : (get_or reads k (0, 0)).1 ≡ b = ap (λ i. (get_or reads i (0, 0)).1) (sym same) ∙ is.here in
            absurd (apart (subst (λ (z : ℕ). position < get_or positions z 0) (sym at) is.behind) (subst (Contains writers) (sym at) is.writer))

  pub source_all : (h : History) (c : ℕ) → AreReadsAt h c reads → c < count h → (k least : ℕ) → length reads ≡ k
      → IsLeastOf (IsSourceIn positions writers position reads k) least → IsLeastOf (IsSource h positions writers position c) least
  source_all h c are below k least all w =
      least_same (IsSourceIn positions writers position reads k) (IsSource h positions writers position c) least (λ b is. there b is) (λ b is. back b is) w
    where
      there : (b : ℕ) → IsSourceIn positions writers position reads k b → IsSource h positions writers position c b
      there b is =
          let read : ℕ × ℕ = get_or reads is.index (0, 0) in
          record {
            writer = is.writer;
            behind = is.behind;
            read = (
              key_at h read.0,
              subst (λ (z : ℕ). IsReadsPair h z c (key_at h read.0)) is.here
                  (is_read h c reads are read (Contains-get_or reads is.index (0, 0) (omega (arith, is.first, all))) below),
            );
          }

      back : (b : ℕ) → IsSource h positions writers position c b → IsSourceIn positions writers position reads k b
      back b is =
          let (read, (n, inside, at), from, key) = read_is h c reads are b is.read.0 is.read.1 in
          record {
            index = n;
            first = omega (arith, inside, all);
            here = ap (λ (r : ℕ × ℕ). r.1) (get_or_default reads n (0, 0) read inside ∙ at) ∙ from;
            writer = is.writer;
            behind = is.behind;
          }

-- ---- both together
module _ (h : History) (positions ws : List ℕ) (begin a c : ℕ) (onward : (u v : ℕ) → IsSessionPair h u v → get_or positions u 0 < get_or positions v 0)
    (is_begin : IsBegin h c begin) (from : a < count h) where
  -- `init` comes after no transaction
  init_first : (b : ℕ) → get_or positions a 0 < get_or positions b 0 → 0 < b
  init_first b behind = go (cases_eq b 0) (cases_eq a 0)
    where
      go : (b ≡ 0) ⊎ (b ≢ 0) → (a ≡ 0) ⊎ (a ≢ 0) → 0 < b
      go (inr other) q = omega arith
      go (inl none) (inl same) = absurd (omega (arith, behind, ap (λ z. get_or positions z 0) none, ap (λ z. get_or positions z 0) same))
      go (inl none) (inr other) =
          absurd (omega (arith, behind, ap (λ z. get_or positions z 0) none, onward 0 a (initial_pair h 0 a refl (omega arith) (omega arith) from)))

  pub single_of : (one other : ℕ) → IsLeastOf (IsInSession positions ws begin c (get_or positions a 0)) one
      → IsLeastOf (IsSource h positions ws (get_or positions a 0) c) other → IsLeastOf (IsSingle h positions ws a c) (min one other)
  single_of one other v w =
      least_same (λ b. IsInSession positions ws begin c (get_or positions a 0) b ⊎ IsSource h positions ws (get_or positions a 0) c b) (IsSingle h positions ws a c)
      (min one other) (λ b is. there b is) (λ b is. back b is is.pair)
      (least_both (IsInSession positions ws begin c (get_or positions a 0)) (IsSource h positions ws (get_or positions a 0) c) one other v w)
    where
      there : (b : ℕ) → IsInSession positions ws begin c (get_or positions a 0) b ⊎ IsSource h positions ws (get_or positions a 0) c b → IsSingle h positions ws a c b
      there b (inl is) = record { writer = is.writer; behind = is.behind; pair = inl ((is_begin b).1 (is.from, is.before)).1 }
      there b (inr is) = record { writer = is.writer; behind = is.behind; pair = inr is.read }

      back : (b : ℕ) → IsSingle h positions ws a c b → IsCausalPair h b c
          → IsInSession positions ws begin c (get_or positions a 0) b ⊎ IsSource h positions ws (get_or positions a 0) c b
      back b is (inl pair) =
          let place = (is_begin b).0 (init_first b is.behind, pair) in
          inl record { writer = is.writer; from = place.0; before = place.1; behind = is.behind }
      back b is (inr read) = inr record { writer = is.writer; behind = is.behind; read = read }

-- ---- what is broken
one_step : (h : History) (b c : ℕ) (walk : List Step) → IsWalk h b c walk → length walk ≡ 1 → IsCausalPair h b c
one_step h b c [] w long = absurd (omega arith)
one_step h b c (s ∷ []) w long = rw (← w.1.0, ← w.1.2) (step_pair h s w.1.1)
one_step h b c (s ∷ t ∷ walk) w long = absurd (omega arith)

module _ (h : History) (order positions : List ℕ) (numbering : IsNumbering (count h) order) (are : ArePositions (count h) order positions) where
  pub single_breaks : (a b : ℕ) → IsSingleOf h positions a b → BreaksAxiom (atomically h) order (b, a)
  single_breaks a b is =
      let walk = pair_walk h b is.reader is.behind.pair in
      let writer = writer_writes h is.key b is.behind.writer in (
        is.key,
        is.reader,
        walk.0,
        (((λ same. omega (arith, is.behind.behind, ap (λ z. get_or positions z 0) same)), is.pair, writer), (walk.1, walk.2)),
        λ before. omega (arith, before_at (count h) order positions numbering are b a before, is.behind.behind),
      )

  pub breaks_single : (a b : ℕ) → BreaksAxiom (atomically h) order (b, a) → IsSingleOf h positions a b
  breaks_single a b (x, c, walk, reason, apart) = record {
    reader = c;
    key = x;
    pair = reason.0.1;
    behind = record {
      writer = writer_listed h x a c b reason.0.1 reason.0.2;
      behind = behind (cases_order (get_or positions a 0) (get_or positions b 0));
      pair = one_step h b c walk reason.1.0 reason.1.1;
    };
  }
    where
      behind : (get_or positions a 0 ≡ get_or positions b 0) ⊎ ((get_or positions a 0 < get_or positions b 0) ⊎ (get_or positions b 0 < get_or positions a 0))
          → get_or positions a 0 < get_or positions b 0
      behind (inl same) = absurd (reason.0.0 (same_place (count h) order positions numbering are b a reason.0.2.0 reason.0.1.0 (sym same)))
      behind (inr (inl less)) = less
      behind (inr (inr more)) = absurd (apart (at_before (count h) order positions numbering are b a reason.0.2.0 reason.0.1.0 more))

  -- one more transaction
  pub singles_found : (found : Option (ℕ × ℕ)) (a b : ℕ) → count h < NONE → IsLeastOf (IsSingleOf h positions a) b
      → IsFoundFirst (IsBrokenBelow h order a) found → IsFoundFirst (IsBrokenBelow h order (a + 1)) (first_with found b a)
  singles_found found a b few least w =
      first_more (IsBrokenBelow h order a) (IsBrokenBelow h order (a + 1)) (IsSingleOf h positions a) a b
      (λ at is. (omega (arith, is.0), is.1)) (λ n is. (omega arith, single_breaks a n is)) (λ at is. back at is (cases_eq at.1 a))
      (λ n is. omega (arith, (writer_writes h is.key n is.behind.writer).0, few)) least found w
    where
      back : (at : ℕ × ℕ) → IsBrokenBelow h order (a + 1) at → (at.1 ≡ a) ⊎ (at.1 ≢ a) → IsBrokenBelow h order a at ⊎ ((at.1 ≡ a) × IsSingleOf h positions a at.0)
      back at is (inl same) = inr (same, breaks_single a at.0 (subst (λ (z : ℕ). BreaksAxiom (atomically h) order (at.0, z)) same is.1))
      back at is (inr other) = inl (omega (arith, is.0, other), is.1)

  pub singles_end : (found : Option (ℕ × ℕ)) (a : ℕ) → count h ≤ a → IsFoundFirst (IsBrokenBelow h order a) found → IsFoundFirst (BreaksAxiom (atomically h) order) found
  singles_end found a all w =
      found_same (IsBrokenBelow h order a) (BreaksAxiom (atomically h) order) (λ at is. is.1) (λ at is. (below at is, is)) found w
    where
      below : (at : ℕ × ℕ) → BreaksAxiom (atomically h) order at → at.1 < a
      below at (x, c, walk, reason, apart) = omega (arith, reason.0.1.0, all)
