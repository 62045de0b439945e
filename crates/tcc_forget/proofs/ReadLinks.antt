-- The links of a read, and whether it contradicts.
use Rattle.std.proofs.Common.{ℕ, ◌+◌, ◌≡◌, ◌≢◌, ◌<◌, ◌≤◌, ◌⊎◌, inl, inr, Bool, true, false, not, List, None, Some, length, slice_index, get_or, ap, sym, subst, ◌∙◌, arith}
use Rattle.std.specs.List.{Contains}
use Rattle.std.proofs.lemmas.Bool.{cases_eq}
use Rattle.std.proofs.lemmas.List.{get_or_read}
use Rattle.tcc_reads.specs.History.{Entry, History, count}
use Rattle.tcc_graph.specs.Levels.{causally}
use Rattle.tcc_graph.specs.Routes.{HasCycle}
use Rattle.tcc_graph.specs.Tables.{row_of}
use Rattle.tcc_watch.specs.private.Rows.{IsRouted}
use Rattle.tcc_forget.specs.Cases.{Forgotten, Initial, IsOutdated, Observes, Passed}
use Rattle.tcc_forget.specs.Covers.{IsCover}
use Rattle.tcc_forget.specs.declared.at.SessionPlace.{SessionPlace}
use Rattle.tcc_forget.specs.declared.slots.SlotReading.{SlotReading}
use Rattle.tcc_forget.specs.Slots.{AreWide, IsReadingOf, Coming, Reaches, after}
use Rattle.tcc_forget.specs.private.Linking.{AreBetween, AreLinking, AreReadsDone, CanLink, CanLinkReads, CanLinkAt, CanLinkRead, IsDoneBy, IsPassedBy, Keeps, IsOutcome, IsReadDone, OrdersListed, OrdersRead, Reads}
use Rattle.tcc_forget.proofs.Arriving.{pair_of_read, writer_stays}
use Rattle.tcc_forget.proofs.Leading.{derived_link}
use Rattle.tcc_forget.proofs.Lists.{none_is}
use Rattle.tcc_forget.proofs.Outdated.{outdated_cycle}

module _ (reads : Reads) (rows : List (List ℕ)) (ats : List SessionPlace) (clock : List ℕ) (read : SlotReading) (at_it : CanLinkAt reads rows ats clock read) where
  can : AreLinking reads.on rows ats clock
  can = at_it.linking

  abbrev h : History
  h = reads.on.history

  abbrev e : Entry
  e = reads.on.entry

  abbrev numbers : List ℕ
  numbers = reads.on.numbers

  abbrev here : IsCover h reads.on.live reads.key (reads.on.cover reads.key)
  here = can.covers reads.key

  module _ (k : ℕ) (is : read.source ≡ Some k) where
    listed : Contains (reads.on.cover reads.key).listed reads.a
    listed = (at_it.reading.source k is).2

    source : slice_index numbers k ≡ reads.a
    source = (at_it.reading.source k is).1

    at : k < length numbers
    at = (at_it.reading.source k is).0

    links : (b : ℕ) → Contains read.listed.items b → b ≢ k → Observes h e (slice_index numbers b)
        → IsRouted (causally (after reads.on)) (slice_index numbers b) (slice_index numbers k)
    links b there apart observed =
        let inside = at_it.reading.inside b there in
        let writer = here.written (slice_index numbers b) (inl inside.1) in
        subst (λ (z : ℕ). IsRouted (causally (after reads.on)) (slice_index numbers b) z) (sym source)
        (derived_link (after reads.on) (slice_index numbers b) reads.a (count h) reads.key
        (λ same. apart (can.slots.once b k inside.0 at (same ∙ sym source))) (pair_of_read h e reads.key reads.a can.comes.may at_it.there)
        (writer_stays h e (slice_index numbers b) reads.key writer) observed)

    pub can_link : CanLink reads.on rows ats clock read.listed.items k
    can_link = record {
      slots = can.slots;
      between = can.between;
      wide = can.wide;
      clock_of = can.clock_of;
      inside = λ b there. (at_it.reading.inside b there).0;
      to = at;
      links = links;
    }

    current : IsOutdated h e (reads.on.cover reads.key) reads.a → ⊥
    current (Forgotten some neither) = neither (inl listed)
    current (Initial top none top_is) = absurd (omega (arith, none, here.some reads.a (inl listed)))
    current (Passed b unlisted there observed) = unlisted listed

    orders : (new : List (List ℕ)) → OrdersListed reads.on new read.listed.items k → OrdersRead reads new
    orders new each b j at_b at_j same is_listed there apart observed =
        let w = at_it.reading.all (slice_index numbers b) there in
        let one : w.0 ≡ b = can.slots.once w.0 b (at_it.reading.inside w.0 w.1).0 at_b w.2 in
        let two : k ≡ j = can.slots.once k j at at_j (source ∙ sym same) in
        let among : Contains read.listed.items b = subst (λ (z : ℕ). Contains read.listed.items z) one w.1 in
        subst (λ (z : ℕ). Reaches h (row_of new z) (slice_index numbers b)) two
        (each b among (λ equal. apart (subst (λ (z : ℕ). slice_index numbers z ≡ reads.a) (sym equal) source)) observed)

    pub listed_done : (new : List (List ℕ)) → OrdersListed reads.on new read.listed.items k → IsReadDone reads new
    listed_done new each = (current, orders new each)

  module _ (is : read.source ≡ None) where
    other : (Contains (reads.on.cover reads.key).listed reads.a → ⊥)
        × (((reads.on.cover reads.key).top ≡ Some reads.a) ⊎ ((reads.a ≡ 0) × ((reads.on.cover reads.key).top ≡ None)))
    other = at_it.reading.other is

    pub passed_cycle : IsPassedBy reads.on read.listed.items true → HasCycle (causally (after reads.on))
    passed_cycle (j, there, observed) =
        outdated_cycle h reads.on.live reads.on.cover e can.delivered can.covers can.comes reads.key reads.a at_it.there
        (Passed (slice_index numbers j) other.0 (at_it.reading.inside j there).1 observed)

    pub other_done : IsPassedBy reads.on read.listed.items false → IsReadDone reads rows
    other_done none = (current, λ b j at_b at_j same is_listed. absurd (other.0 is_listed))
      where
        current : IsOutdated h e (reads.on.cover reads.key) reads.a → ⊥
        current (Forgotten some neither) = go other.1
          where
            go : ((reads.on.cover reads.key).top ≡ Some reads.a) ⊎ ((reads.a ≡ 0) × ((reads.on.cover reads.key).top ≡ None)) → ⊥
            go (inl top) = neither (inr top)
            go (inr (zeroth, no_top)) = absurd (omega (arith, zeroth, some))
        current (Initial top zeroth top_is) = go other.1
          where
            go : ((reads.on.cover reads.key).top ≡ Some reads.a) ⊎ ((reads.a ≡ 0) × ((reads.on.cover reads.key).top ≡ None)) → ⊥
            go (inl is_top) = absurd (omega (arith, zeroth, here.some reads.a (inr is_top)))
            go (inr (zero_too, no_top)) = none_is top (reads.on.cover reads.key).top no_top top_is
        current (Passed b unlisted there observed) =
            let w = at_it.reading.all b there in
            none w.0 w.1 (subst (λ (z : ℕ). Observes h e z) (sym w.2) observed)

-- ---- a read, whichever it is

module _ (on : Coming) (rows : List (List ℕ)) (ats : List SessionPlace) (clock : List ℕ) (read : SlotReading) (can : CanLinkRead on rows ats clock read) where
  at_key : (key : List ℕ) (a : ℕ) → Contains on.entry.reads (key, a) → IsReadingOf on.cover on.numbers key a read
      → CanLinkAt (record { on = on; key = key; a = a }) rows ats clock read
  at_key key a there reading = record { linking = can.linking; there = there; reading = reading }

  some_key : CanLinkAt (record { on = on; key = can.some.0; a = can.some.1 }) rows ats clock read
  some_key = at_key can.some.0 can.some.1 can.some.2 can.some.3

  pub read_link : (k : ℕ) → read.source ≡ Some k → CanLink on rows ats clock read.listed.items k
  read_link k is = can_link (record { on = on; key = can.some.0; a = can.some.1 }) rows ats clock read some_key k is

  pub read_linked : (k : ℕ) (new : List (List ℕ)) (done : Bool) → read.source ≡ Some k
      → IsOutcome on rows new (OrdersListed on new read.listed.items k) done → IsOutcome on rows new (IsDoneBy on new read) done
  read_linked k new true is (between, keeps, orders) = (
    between,
    keeps,
    λ key a there reading. listed_done (record { on = on; key = key; a = a }) rows ats clock read (at_key key a there reading) k is new orders,
  )
  read_linked k new false is cycle = cycle

  pub read_passed : (passed : Bool) → read.source ≡ None → IsPassedBy on read.listed.items passed
      → IsOutcome on rows rows (IsDoneBy on rows read) (not passed)
  read_passed true is by = passed_cycle (record { on = on; key = can.some.0; a = can.some.1 }) rows ats clock read some_key is by
  read_passed false is none = (
    can.linking.between,
    (λ u i at_u below p. p),
    λ key a there reading. other_done (record { on = on; key = key; a = a }) rows ats clock read (at_key key a there reading) is none,
  )

  pub read_inside : (b : ℕ) → Contains read.listed.items b → b < length on.numbers
  read_inside b there = (can.some.3.inside b there).0

-- ---- all reads

module _ (on : Coming) (first rows : List (List ℕ)) (ats : List SessionPlace) (clock : List ℕ) (reads : List SlotReading) (can : CanLinkReads on first ats clock reads) where
  module _ (i : ℕ) (read : SlotReading) (inside : i < length reads) (is : read ≡ get_or reads i read) (between : AreBetween on.history on.entry on.numbers rows)
      (wide : AreWide on.sessions rows) where
    pub reads_one : CanLinkRead on rows ats clock read
    reads_one = record {
      linking = record {
        delivered = can.linking.delivered;
        covers = can.linking.covers;
        comes = can.linking.comes;
        slots = can.linking.slots;
        between = between;
        wide = wide;
        clock_of = can.linking.clock_of;
      };
      some = can.readings.each read (i, inside, sym is);
    }

    -- what is done stays done
    stays : (new : List (List ℕ)) → Keeps on.history rows new → (r : SlotReading) → IsDoneBy on rows r → IsDoneBy on new r
    stays new keeps r done key a there reading =
        let w = done key a there reading in (
          w.0,
          λ b k at_b at_k same is_listed listed_b apart observed.
              keeps (slice_index on.numbers b) k (can.linking.slots.below b at_b) (omega (arith, at_k, between.long)) (w.1 b k at_b at_k same is_listed listed_b apart observed),
        )

    pub reads_more : (new : List (List ℕ)) → Keeps on.history rows new → IsDoneBy on new read
        → ((k : ℕ) (d : SlotReading) → k < i → k < length reads → IsDoneBy on rows (get_or reads k d))
        → (k : ℕ) (d : SlotReading) → k < i + 1 → k < length reads → IsDoneBy on new (get_or reads k d)
    reads_more new keeps here before k d low within = go (cases_eq k i)
      where
        go : (k ≡ i) ⊎ (k ≡ i → ⊥) → IsDoneBy on new (get_or reads k d)
        go (inl same) =
            subst (λ (r : SlotReading). IsDoneBy on new r) (get_or_read reads i read inside is d ∙ ap (λ z. get_or reads z d) (sym same)) here
        go (inr apart) = stays new keeps (get_or reads k d) (before k d (omega (arith, low, apart)) within)

  pub all_reads : (i : ℕ) → length reads ≤ i → ((k : ℕ) (d : SlotReading) → k < i → k < length reads → IsDoneBy on rows (get_or reads k d)) → AreReadsDone on rows
  all_reads i past each key a there =
      let w = can.readings.all key a there in
      let here : IsDoneBy on rows w.0 = subst (λ (r : SlotReading). IsDoneBy on rows r) w.1.2 (each w.1.0 w.0 (omega (arith, w.1.1, past)) w.1.1) in
      here key a there w.2
