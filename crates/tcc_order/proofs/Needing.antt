-- What has to be before a transaction: the writers that a clock reaches, the readings one by one, and the kept links.
use Rattle.std.proofs.Common.{◌≡◌, ◌≢◌, ◌<◌, ◌≤◌, ◌+◌, ◌-◌, ◌==◌, ◌⊎◌, inl, inr, ℕ, Bool, true, false, not, ◌&&◌, nat_lt, List, [], ◌∷◌, ◌++◌, length, get_or, set, take}
use Rattle.std.proofs.Common.{slice_index, refl, sym, ap, ◌∙◌, subst, arith}
use Rattle.std.specs.Prelude.{max, nat_le}
use Rattle.std.specs.List.{Contains}
use Rattle.std.proofs.lemmas.Bool.{cases_lt, cases_eq, cases_Bool, and_parts, and_from, ltb-true, lt-ltb, leb-true, le-leb, eqb-true, eq-eqb, ne_eqb, false≢true}
use Rattle.std.proofs.lemmas.List.{get_or-set_same, get_or-set_other, length-set}
use Rattle.std.proofs.lemmas.List.Elements.{Contains-append_left, Contains-push, Contains-push_cases}
use Rattle.tcc_reads.specs.History.{History, IsBySession, count, owner}
use Rattle.tcc_graph.specs.Relations.{IsReadsPair, IsSessionPair}
use Rattle.tcc_graph.specs.Keys.{writers}
use Rattle.tcc_graph.specs.Tables.{row_of}
use Rattle.tcc_graph.proofs.Walking.{pair_walk}
use Rattle.tcc_bits.proofs.Lists.{one_of_taken, still_taken, last_taken, nothing_in}
use Rattle.tcc_clocks.specs.Clocks.{IsOneOf, IsBefore, AreOwners, AreLatestOf, AreClocks}
use Rattle.tcc_order.specs.private.CausalLinks.{AreLatestPast, IsOverwritten, IsLiftable, IsLifted, lifted_by}
use Rattle.tcc_order.specs.private.CausalLinks.{IsCovered, IsKeptEarlier, AreRuns, KeepsNews, IsBegun, AreDerived, AreEnough, IsFrom, Overwrites}
use Rattle.tcc_order.specs.private.News.{IsOtherWriter, TellsNone}
use Rattle.tcc_clocks.specs.declared.latest.TheConstants.{WIDE}
use Rattle.tcc_clocks.proofs.EntryLemmas.{clock_reaches}
use Rattle.tcc_clocks.proofs.Reaching.{same_session}
use Rattle.tcc_order.proofs.KeptRows.{row_here, rows_wider, rows_derived}

-- ---- one more writer
pub lifted_none : (owners : List ℕ) (from : ℕ) (clock writers : List ℕ) (a k old : ℕ) → IsLifted owners from clock (take 0 writers) a k old old
lifted_none owners from clock writers a k old = record {
  attained = inl refl;
  kept = omega arith;
  greatest = λ b w. absurd (nothing_in b w.2);
}

module _ (owners : List ℕ) (from : ℕ) (clock numbers : List ℕ) (a k n : ℕ) (inside : n < length numbers) (old mid : ℕ)
    (is : IsLifted owners from clock (take n numbers) a k old mid) where
  abbrev b : ℕ
  b = get_or numbers n 0

  abbrev test : Bool
  test = (nat_lt 0 (get_or numbers n 0) && not (get_or numbers n 0 == a))
      && ((slice_index owners (get_or numbers n 0) == from + k) && nat_le (get_or numbers n 0) (slice_index clock k))

  still : (d : ℕ) → IsLiftable owners from clock (take n numbers) a k d → IsLiftable owners from clock (take (n + 1) numbers) a k d
  still d w = (w.0, w.1, still_taken numbers n inside d w.2, w.3, w.4)

  parts : test ≡ true → IsLiftable owners from clock (take (n + 1) numbers) a k b
  parts t =
      let w = and_parts (nat_lt 0 b && not (b == a)) ((slice_index owners b == from + k) && nat_le b (slice_index clock k)) t in
      let u = and_parts (nat_lt 0 b) (not (b == a)) w.0 in
      let v = and_parts (slice_index owners b == from + k) (nat_le b (slice_index clock k)) w.1 in
      (ltb-true 0 b u.0, apart u.1, last_taken numbers n inside, eqb-true (slice_index owners b) (from + k) v.0, leb-true b (slice_index clock k) v.1)
    where
      apart : not (get_or numbers n 0 == a) ≡ true → get_or numbers n 0 ≢ a
      apart p same = false≢true (rw (eq-eqb (get_or numbers n 0) a same) at p)

  back : IsLiftable owners from clock (take (n + 1) numbers) a k b → test ≡ true
  back w =
      and_from _ _ (and_from _ _ (lt-ltb 0 b w.0) (rw (ne_eqb b a w.1) refl))
      (and_from _ _ (eq-eqb (slice_index owners b) (from + k) w.3) (le-leb b (slice_index clock k) w.4))

  pub lifted_more : IsLifted owners from clock (take (n + 1) numbers) a k old (lifted_by owners from clock a (get_or numbers n 0) k mid)
  lifted_more = go (cases_Bool test)
    where
      before : (mid ≡ old) ⊎ IsLiftable owners from clock (take n numbers) a k mid → (mid ≡ old) ⊎ IsLiftable owners from clock (take (n + 1) numbers) a k mid
      before (inl same) = inl same
      before (inr w) = inr (still mid w)

      up : IsLiftable owners from clock (take (n + 1) numbers) a k b → (mid < b) ⊎ (b ≤ mid)
          → (max b mid ≡ old) ⊎ IsLiftable owners from clock (take (n + 1) numbers) a k (max b mid)
      up w (inl less) = let e : b ≡ max b mid = omega arith in inr (subst (λ (z : ℕ). IsLiftable owners from clock (take (n + 1) numbers) a k z) e w)
      up w (inr more) =
          let e : mid ≡ max b mid = omega arith in
          subst (λ (z : ℕ). (z ≡ old) ⊎ IsLiftable owners from clock (take (n + 1) numbers) a k z) e (before is.attained)

      above : (d : ℕ) → IsLiftable owners from clock (take (n + 1) numbers) a k d → Contains (take n numbers) d ⊎ (b ≡ d) → d ≤ max b mid
      above d w (inl was) = omega (arith, is.greatest d (w.0, w.1, was, w.3, w.4))
      above d w (inr same) = omega arith

      early : test ≡ false → (d : ℕ) → IsLiftable owners from clock (take (n + 1) numbers) a k d → Contains (take n numbers) d ⊎ (b ≡ d) → d ≤ mid
      early f d w (inl was) = is.greatest d (w.0, w.1, was, w.3, w.4)
      early f d w (inr same) =
          absurd (false≢true (sym f ∙ back (subst (λ (z : ℕ). IsLiftable owners from clock (take (n + 1) numbers) a k z) (sym same) w)))

      go : (test ≡ true) ⊎ (test ≡ false) → IsLifted owners from clock (take (n + 1) numbers) a k old (lifted_by owners from clock a b k mid)
      go (inl t) = rw t record {
        attained = up (parts t) (cases_lt mid b);
        kept = omega (arith, is.kept);
        greatest = λ d w. above d w (one_of_taken numbers n inside d w.2);
      }
      go (inr f) = rw f record {
        attained = before is.attained;
        kept = is.kept;
        greatest = λ d w. early f d w (one_of_taken numbers n inside d w.2);
      }

-- what was kept stays
pub covered_wider : (h : History) (old new : List (List ℕ)) (a b : ℕ) → ((e d : ℕ) → Contains (row_of old e) d → Contains (row_of new e) d) → IsCovered h old a b
    → IsCovered h new a b
covered_wider h old new a b wider (d, way, inl (e, there, up_to)) = (d, way, inl (e, wider e d there, up_to))
covered_wider h old new a b wider (d, way, inr reached) = (d, way, inr reached)

-- one more transaction, whose links from this block are kept
abbrev pub IsUpTo : History → ℕ → ℕ → ℕ → ℕ → Type 0
IsUpTo h from n a b = IsFrom h from (from + WIDE) a b × (a < n)

-- ---- runs
pub begun_on : (owners : List ℕ) (a before : ℕ) (run : List ℕ) → 0 < before
    → (before ≡ 0) ⊎ ((before ≡ a - 1) × (slice_index owners before ≡ slice_index owners a)) → IsBegun owners a run run
begun_on owners a before run some (inl none) = absurd (omega arith)
begun_on owners a before run some (inr w) =
    inr (omega (arith, w.0), subst (λ (z : ℕ). slice_index owners z ≡ slice_index owners a) w.0 w.1, refl)

module _ (h : History) (numbered : IsBySession h.entries) (kept : List (List ℕ)) (from a : ℕ) where
  -- at the next transaction of a session
  pub runs_begun : (owners : List ℕ) → AreOwners h owners → a < count h → (old new : List ℕ) → length new ≡ WIDE
      → (1 < a → AreRuns h kept from a (owner h (a - 1)) old) → IsBegun owners a old new → AreRuns h kept from a (owner h a) new
  runs_begun owners known low old new wide runs (inl zero) = λ k l. inl (zero k (omega (arith, l, wide)))
  runs_begun owners known low old new wide runs (inr (more, same, is)) =
      let own : owner h (a - 1) ≡ owner h a
      = sym (known.each (a - 1) (omega (arith, more)) (omega (arith, low))) ∙ (same ∙ known.each a (omega (arith, more)) low) in
      subst (λ (z : ℕ). AreRuns h kept from a z new) own
      (subst (λ (z : List ℕ). AreRuns h kept from a (owner h (a - 1)) z) (sym is) (runs more))

  -- after a transaction into which nothing is kept
  pub runs_passed : (run : List ℕ) → AreRuns h kept from a (owner h a) run → 1 < a + 1 → AreRuns h kept from (a + 1) (owner h (a + 1 - 1)) run
  runs_passed run runs more = λ k l. go k (runs k l)
    where
      go : (k : ℕ) → (slice_index run k ≡ 0) ⊎ IsOneOf h (IsKeptEarlier h kept a (owner h a)) (from + k) (slice_index run k)
          → (slice_index run k ≡ 0) ⊎ IsOneOf h (IsKeptEarlier h kept (a + 1) (owner h (a + 1 - 1))) (from + k) (slice_index run k)
      go k (inl none) = inl none
      go k (inr one) = inr record {
        committed = one.committed;
        below = one.below;
        owned = one.owned;
        meant = (one.meant.0, one.meant.1, omega (arith, one.meant.2), one.meant.3 ∙ ap (λ z. owner h z) self, one.meant.4);
      }
        where
          self : a ≡ a + 1 - 1
          self = omega arith

-- ---- kept links
-- what is kept into a transaction, what is kept into earlier ones of its session, and its clock together cover what has to be
-- before it
module _ (h : History) (numbered : IsBySession h.entries) (from a : ℕ) (low : a < count h) (kept : List (List ℕ)) (long : length kept ≡ count h)
    (new need clock before after : List ℕ) (needs : AreLatestPast h (IsOverwritten h (IsReadsPair h a) a) from clock need)
    (reaches : AreLatestOf h (IsBefore h a) from clock) (keeps : KeepsNews need clock before after (row_of kept a) new (length need)) where
  inside : a < length kept
  inside = omega (arith, low, long)

  wider : (d b : ℕ) → Contains (row_of kept d) b → Contains (row_of (set kept a new) d) b
  wider = rows_wider kept a new inside keeps.wider

  here : (d : ℕ) → Contains new d → Contains (row_of (set kept a new) a) d
  here d there = rw (row_here kept a new inside) there

  row_derived : ((b : ℕ) → Contains (row_of kept a) b → Overwrites h a b) → (b : ℕ) → Contains new b → Overwrites h a b
  row_derived old b there = go (keeps.sound b there)
    where
      found : (k : ℕ) → slice_index need k ≡ b → slice_index clock k < b
          → (slice_index need k ≡ 0) ⊎ IsOneOf h (IsOverwritten h (IsReadsPair h a) a) (from + k) (slice_index need k) → Overwrites h a b
      found k at more (inl none) = absurd (omega arith)
      found k at more (inr one) = (low, rw (← at) one.below, rw (← at) one.meant)

      go : Contains (row_of kept a) b ⊎ ((k : ℕ) × (k < length need) × (slice_index need k ≡ b) × (slice_index clock k < b)) → Overwrites h a b
      go (inl was) = old b was
      go (inr (k, l, at, more)) = found k at more (needs.each k (omega (arith, l, needs.wide))).attained

  pub kept_derived : AreDerived (Overwrites h) kept → AreDerived (Overwrites h) (set kept a new)
  kept_derived are = rows_derived kept a new inside (Overwrites h) are (row_derived (λ e was. are a e was))

  module _ (runs : AreRuns h kept from a (owner h a) before) where
    row_covers : (b : ℕ) → Overwrites h a b → 0 < b → from ≤ owner h b → owner h b < from + WIDE → IsCovered h (set kept a new) a b
    row_covers b (small, below, over) some high less = go (owner h b - from) (omega (arith, high)) (omega (arith, high, less))
      where
        go : (k : ℕ) → owner h b ≡ from + k → k < WIDE → IsCovered h (set kept a new) a b
        go k mine l = by (cases_lt (slice_index clock k) b)
          where
            most : b ≤ max (slice_index need k) (slice_index clock k)
            most = (needs.each k l).greatest b record { committed = some; below = below; owned = mine; meant = over }

            after_b : (v : ℕ) → b ≤ v → v < count h → owner h v ≡ from + k → (b ≡ v) ⊎ (b ≢ v) → (b ≡ v) ⊎ IsSessionPair h b v
            after_b v up top owned (inl same) = inl same
            after_b v up top owned (inr other) = inr (same_session h numbered b v some (omega (arith, up, other)) top (mine ∙ sym owned))

            by_need : b ≤ slice_index need k → Contains new (slice_index need k)
                → (slice_index need k ≡ 0) ⊎ IsOneOf h (IsOverwritten h (IsReadsPair h a) a) (from + k) (slice_index need k) → IsCovered h (set kept a new) a b
            by_need up there (inl none) = absurd (omega (arith, up, none, some))
            by_need up there (inr one) = (
              slice_index need k,
              after_b (slice_index need k) up one.below one.owned (cases_eq b (slice_index need k)),
              inl (a, here (slice_index need k) there, inl refl),
            )

            by_run : b ≤ slice_index before k
                → (slice_index before k ≡ 0) ⊎ IsOneOf h (IsKeptEarlier h kept a (owner h a)) (from + k) (slice_index before k)
                → IsCovered h (set kept a new) a b
            by_run up (inl none) = absurd (omega (arith, up, none, some))
            by_run up (inr one) =
                let w = pair_walk h one.meant.0 a (inl (same_session h numbered one.meant.0 a one.meant.1 one.meant.2 low one.meant.3)) in (
                  slice_index before k,
                  after_b (slice_index before k) up one.below one.owned (cases_eq b (slice_index before k)),
                  inl (one.meant.0, wider one.meant.0 (slice_index before k) one.meant.4, inr (w.0, w.1)),
                )

            past_clock : slice_index clock k < b → (slice_index need k ≤ max (slice_index clock k) (slice_index before k)) ⊎ Contains new (slice_index need k)
                → IsCovered h (set kept a new) a b
            past_clock past (inl under) = by_run (omega (arith, most, past, under)) (runs k l)
            past_clock past (inr there) = by_need (omega (arith, most, past)) there (needs.each k l).attained

            by : (slice_index clock k < b) ⊎ (b ≤ slice_index clock k) → IsCovered h (set kept a new) a b
            by (inr under) = (b, inl refl, inr (clock_reaches h numbered a (from + k) (slice_index clock k) b (reaches.each k l) some below mine under))
            by (inl past) = past_clock past (keeps.enough k (omega (arith, l, needs.wide)))

    pub kept_enough : AreEnough h (Overwrites h) (IsUpTo h from a) kept → AreEnough h (Overwrites h) (IsUpTo h from (a + 1)) (set kept a new)
    kept_enough are d b over some (meant, less) = go (cases_eq d a)
      where
        go : (d ≡ a) ⊎ (d ≢ a) → IsCovered h (set kept a new) d b
        go (inl same) =
            subst (λ (z : ℕ). IsCovered h (set kept a new) z b) (sym same)
            (row_covers b (subst (λ (z : ℕ). Overwrites h z b) same over) some meant.0 meant.1)
        go (inr other) = covered_wider h kept (set kept a new) d b wider (are d b over some (meant, omega (arith, less, other)))

    -- the runs after it
    pub runs_kept : 1 < a + 1 → AreRuns h (set kept a new) from (a + 1) (owner h (a + 1 - 1)) after
    runs_kept more = λ k l. go k l (keeps.run k (omega (arith, l, needs.wide)))
      where
        self : a ≡ a + 1 - 1
        self = omega arith

        was : (k : ℕ) → slice_index after k ≡ slice_index before k
            → (slice_index before k ≡ 0) ⊎ IsOneOf h (IsKeptEarlier h kept a (owner h a)) (from + k) (slice_index before k)
            → (slice_index after k ≡ 0) ⊎ IsOneOf h (IsKeptEarlier h (set kept a new) (a + 1) (owner h (a + 1 - 1))) (from + k) (slice_index after k)
        was k at (inl none) = inl (at ∙ none)
        was k at (inr one) = inr (rw at record {
          committed = one.committed;
          below = one.below;
          owned = one.owned;
          meant = (
            one.meant.0,
            one.meant.1,
            omega (arith, one.meant.2),
            one.meant.3 ∙ ap (λ z. owner h z) self,
            wider one.meant.0 (slice_index before k) one.meant.4,
          );
        })

        now : (k : ℕ) → slice_index after k ≡ slice_index need k → Contains new (slice_index need k)
            → (slice_index need k ≡ 0) ⊎ IsOneOf h (IsOverwritten h (IsReadsPair h a) a) (from + k) (slice_index need k)
            → (slice_index after k ≡ 0) ⊎ IsOneOf h (IsKeptEarlier h (set kept a new) (a + 1) (owner h (a + 1 - 1))) (from + k) (slice_index after k)
        now k at there (inl none) = inl (at ∙ none)
        now k at there (inr one) = inr (rw at record {
          committed = one.committed;
          below = one.below;
          owned = one.owned;
          meant = (a, omega (arith, more), omega arith, ap (λ z. owner h z) self, here (slice_index need k) there);
        })

        go : (k : ℕ) → k < WIDE → (slice_index after k ≡ slice_index before k) ⊎ ((slice_index after k ≡ slice_index need k) × Contains new (slice_index need k))
            → (slice_index after k ≡ 0) ⊎ IsOneOf h (IsKeptEarlier h (set kept a new) (a + 1) (owner h (a + 1 - 1))) (from + k) (slice_index after k)
        go k l (inl at) = was k at (runs k l)
        go k l (inr w) = now k w.0 w.1 (needs.each k l).attained

-- if the readers of a transaction tell no more than its clock does, no more links are kept into it
pub passed_enough : (h : History) → IsBySession h.entries → (from a : ℕ) → a < count h → (table : List (List ℕ)) → AreClocks h from table
    → ((c : ℕ) (x : List ℕ) → IsReadsPair h a c x → TellsNone h from table a c x) → (kept : List (List ℕ)) → AreEnough h (Overwrites h) (IsUpTo h from a) kept
    → AreEnough h (Overwrites h) (IsUpTo h from (a + 1)) kept
passed_enough h numbered from a low table clocks tells kept are d b over some (meant, small_d) = go (cases_eq d a)
  where
    by : (c : ℕ) (x : List ℕ) → IsReadsPair h a c x → IsOtherWriter h a c x b → b < count h → (k : ℕ) → k < WIDE → owner h b ≡ from + k → IsCovered h kept a b
    by c x pair other below k l mine =
        let up : b ≤ slice_index (row_of table a) k = tells c x pair k b l record { committed = some; below = below; owned = mine; meant = other } in
        (b, inl refl, inr (clock_reaches h numbered a (from + k) (slice_index (row_of table a) k) b ((clocks.each a low low).each k l) some below mine up))

    covered : Overwrites h a b → from ≤ owner h b → owner h b < from + WIDE → IsCovered h kept a b
    covered (small, below, (c, x, pair, writer, apart, reached)) high less = by c x pair (writer, apart, reached) below (owner h b - from) (omega (arith, high, less)) (omega (arith, high))

    go : (d ≡ a) ⊎ (d ≢ a) → IsCovered h kept d b
    go (inl at) = subst (λ (z : ℕ). IsCovered h kept z b) (sym at) (covered (subst (λ (z : ℕ). Overwrites h z b) at over) meant.0 meant.1)
    go (inr other) = are d b over some (meant, omega (arith, small_d, other))

-- ---- one number of a row
pub keeps_none : (need clock run old : List ℕ) → KeepsNews need clock run run old old 0
keeps_none need clock run old = record {
  same = refl;
  later = λ k past. refl;
  sound = λ b there. inl there;
  wider = λ b there. there;
  enough = λ k l. absurd (omega arith);
  run = λ k l. absurd (omega arith);
}

module _ (need clock before after old mid : List ℕ) (n : ℕ) (keeps : KeepsNews need clock before after old mid n) where
  onward : (b : ℕ) → Contains old b ⊎ ((k : ℕ) × (k < n) × (slice_index need k ≡ b) × (slice_index clock k < b))
      → Contains old b ⊎ ((k : ℕ) × (k < n + 1) × (slice_index need k ≡ b) × (slice_index clock k < b))
  onward b (inl was) = inl was
  onward b (inr (k, l, at, more)) = inr (k, omega arith, at, more)

  pub keeps_skip : slice_index need n ≤ max (slice_index clock n) (slice_index after n) → KeepsNews need clock before after old mid (n + 1)
  keeps_skip under = record {
    same = keeps.same;
    later = λ k past. keeps.later k (omega (arith, past));
    sound = λ b there. onward b (keeps.sound b there);
    wider = keeps.wider;
    enough = λ k l. enough k l (cases_eq k n);
    run = λ k l. run k l (cases_eq k n);
  }
    where
      enough : (k : ℕ) → k < n + 1 → (k ≡ n) ⊎ (k ≢ n)
          → (slice_index need k ≤ max (slice_index clock k) (slice_index before k)) ⊎ Contains mid (slice_index need k)
      enough k l (inr other) = keeps.enough k (omega (arith, l, other))
      enough k l (inl same) = rw same (inl (omega (arith, under, keeps.later n (omega arith))))

      run : (k : ℕ) → k < n + 1 → (k ≡ n) ⊎ (k ≢ n)
          → (slice_index after k ≡ slice_index before k) ⊎ ((slice_index after k ≡ slice_index need k) × Contains mid (slice_index need k))
      run k l (inr other) = keeps.run k (omega (arith, l, other))
      run k l (inl same) = inl (keeps.later k (omega (arith, same)))

  module _ (inside : n < length after) (over : max (slice_index clock n) (slice_index after n) < slice_index need n) where
    wide_row : (b : ℕ) → Contains mid b → Contains (mid ++ slice_index need n ∷ []) b
    wide_row b there = Contains-append_left mid (slice_index need n ∷ []) b there

    last_row : Contains (mid ++ slice_index need n ∷ []) (slice_index need n)
    last_row = Contains-push mid (slice_index need n)

    pub keeps_more : KeepsNews need clock before (set after n (slice_index need n)) old (mid ++ slice_index need n ∷ []) (n + 1)
    keeps_more = record {
      same = length-set after n (slice_index need n) ∙ keeps.same;
      later = λ k past. let other : k ≢ n = omega (arith, past) in get_or-set_other after n k (slice_index need n) 0 other ∙ keeps.later k (omega (arith, past));
      sound = λ b there. sound b (Contains-push_cases mid (slice_index need n) b there);
      wider = λ b there. wide_row b (keeps.wider b there);
      enough = λ k l. enough k l (cases_eq k n);
      run = λ k l. run k l (cases_eq k n);
    }
      where
        sound : (b : ℕ) → Contains mid b ⊎ (slice_index need n ≡ b)
            → Contains old b ⊎ ((k : ℕ) × (k < n + 1) × (slice_index need k ≡ b) × (slice_index clock k < b))
        sound b (inl was) = onward b (keeps.sound b was)
        sound b (inr at) = inr (n, omega arith, at, omega (arith, at, over))

        still : (k : ℕ) → (slice_index need k ≤ max (slice_index clock k) (slice_index before k)) ⊎ Contains mid (slice_index need k)
            → (slice_index need k ≤ max (slice_index clock k) (slice_index before k)) ⊎ Contains (mid ++ slice_index need n ∷ []) (slice_index need k)
        still k (inl under) = inl under
        still k (inr there) = inr (wide_row (slice_index need k) there)

        enough : (k : ℕ) → k < n + 1 → (k ≡ n) ⊎ (k ≢ n)
            → (slice_index need k ≤ max (slice_index clock k) (slice_index before k)) ⊎ Contains (mid ++ slice_index need n ∷ []) (slice_index need k)
        enough k l (inr other) = still k (keeps.enough k (omega (arith, l, other)))
        enough k l (inl same) = inr (subst (λ (z : ℕ). Contains (mid ++ slice_index need n ∷ []) (slice_index need z)) (sym same) last_row)

        before_it : (k : ℕ) → k ≢ n
            → (slice_index after k ≡ slice_index before k) ⊎ ((slice_index after k ≡ slice_index need k) × Contains mid (slice_index need k))
            → (slice_index (set after n (slice_index need n)) k ≡ slice_index before k)
            ⊎ ((slice_index (set after n (slice_index need n)) k ≡ slice_index need k) × Contains (mid ++ slice_index need n ∷ []) (slice_index need k))
        before_it k other (inl at) = inl (get_or-set_other after n k (slice_index need n) 0 other ∙ at)
        before_it k other (inr w) = inr (get_or-set_other after n k (slice_index need n) 0 other ∙ w.0, wide_row (slice_index need k) w.1)

        run : (k : ℕ) → k < n + 1 → (k ≡ n) ⊎ (k ≢ n)
            → (slice_index (set after n (slice_index need n)) k ≡ slice_index before k)
            ⊎ ((slice_index (set after n (slice_index need n)) k ≡ slice_index need k) × Contains (mid ++ slice_index need n ∷ []) (slice_index need k))
        run k l (inr other) = before_it k other (keeps.run k (omega (arith, l, other)))
        run k l (inl same) = rw same (inr (get_or-set_same after n (slice_index need n) 0 inside, last_row))
