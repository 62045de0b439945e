-- The tables of what is kept, with the transaction that comes.
use Rattle.std.proofs.Common.{ℕ, zero, suc, ◌+◌, ◌≡◌, ◌<◌, ◌≤◌, ◌⊎◌, inl, inr, true, List, [], ◌∷◌, ◌++◌, Option, None, Some, length, length-append, slice_index, get_or, refl, sym, ap, subst, ◌∙◌, arith}
use Rattle.std.specs.Prelude.{All, slice_index_or}
use Rattle.std.specs.List.{Contains, cons_option, filter_map}
use Rattle.std.specs.Option.{option_to_list}
use Rattle.std.proofs.lemmas.Bool.{cases_lt, cases_order}
use Rattle.std.proofs.Math.ListN.{get_or-append}
use Rattle.std.proofs.lemmas.List.{get_or_push}
use Rattle.std.proofs.lemmas.List.Elements.{Contains-get_or, Contains-append_cases, Contains-append_left, Contains-append_right}
use Rattle.tcc_reads.specs.History.{Entry, History, count, owner, place}
use Rattle.tcc_graph.specs.Tables.{row_of}
use Rattle.tcc_watch.specs.private.Rows.{IsRowOver}
use Rattle.tcc_watch.proofs.Arrived.{count_more, more, new_entry, old_owner, old_place}
use Rattle.tcc_forget.specs.Cases.{IsRightBefore, ReadsOutdated}
use Rattle.tcc_forget.specs.Covers.{IsLastOf, IsReadable, LeadsTo}
use Rattle.tcc_forget.specs.declared.at.SessionPlace.{SessionPlace}
use Rattle.tcc_forget.specs.declared.slots.SlotReading.{SlotReading}
use Rattle.tcc_forget.specs.Slots.{AreExact, AreSlots, AreWide, CanArrive, Coming, HasArrived, IsReadingOf, SlotTables, after}
use Rattle.tcc_forget.specs.private.Linking.{AreBetween, AreMade, AreParents, AreReadsDone, CanLinkReads, parents_in}
use Rattle.tcc_forget.proofs.Linked.{between_first, exact_after, still_none}
use Rattle.tcc_forget.proofs.Through.{clock_right, clocks_more, rows_more}

-- ---- lists

later : (reads : List SlotReading) (read : SlotReading) (k : ℕ) → (r : SlotReading) × Contains reads r × (r.source ≡ Some k)
    → (r : SlotReading) × Contains (read ∷ reads) r × (r.source ≡ Some k)
later reads read k (r, (i, below, same), is) = (r, (suc i, omega (arith, below), same), is)

in_sources : (reads : List SlotReading) (k : ℕ) → Contains (filter_map (λ read. read.source) reads) k → (r : SlotReading) × Contains reads r × (r.source ≡ Some k)
in_sources [] k (i, below, is) = absurd (omega (arith, below))
in_sources (read ∷ reads) k there = go read.source refl there (λ w. in_sources reads k w)
  where
    go : (o : Option ℕ) → read.source ≡ o → Contains (cons_option o (filter_map (λ r. r.source) reads)) k
        → (Contains (filter_map (λ r. r.source) reads) k → (r : SlotReading) × Contains reads r × (r.source ≡ Some k))
        → (r : SlotReading) × Contains (read ∷ reads) r × (r.source ≡ Some k)
    go None is c rest = later reads read k (rest c)
    go (Some n) is (zero, below, same) rest = (read, (0, omega arith, refl), is ∙ ap Some same)
    go (Some n) is (suc i, below, same) rest = later reads read k (rest (i, omega (arith, below), same))

from_sources : (reads : List SlotReading) (r : SlotReading) (k : ℕ) → Contains reads r → r.source ≡ Some k → Contains (filter_map (λ read. read.source) reads) k
from_sources [] r k (i, below, here) is = absurd (omega (arith, below))
from_sources (read ∷ reads) r k (zero, below, here) is = go read.source (ap (λ (z : SlotReading). z.source) here ∙ is)
  where
    go : (o : Option ℕ) → o ≡ Some k → Contains (cons_option o (filter_map (λ r. r.source) reads)) k
    go o same = subst (λ (z : Option ℕ). Contains (cons_option z (filter_map (λ r. r.source) reads)) k) (sym same) (0, omega arith, refl)
from_sources (read ∷ reads) r k (suc i, below, here) is = go read.source (from_sources reads r k (i, omega (arith, below), here) is)
  where
    go : (o : Option ℕ) → Contains (filter_map (λ r. r.source) reads) k → Contains (cons_option o (filter_map (λ r. r.source) reads)) k
    go None c = c
    go (Some n) (j, inside, same) = (suc j, omega (arith, inside), same)

in_option : (o : Option ℕ) (k : ℕ) → Contains (option_to_list o) k → o ≡ Some k
in_option None k (i, below, is) = absurd (omega (arith, below))
in_option (Some n) k (zero, below, is) = ap Some is
in_option (Some n) k (suc i, below, is) = absurd (omega (arith, below))

from_option : (o : Option ℕ) (k : ℕ) → o ≡ Some k → Contains (option_to_list o) k
from_option o k is = subst (λ (z : Option ℕ). Contains (option_to_list z) k) (sym is) (0, omega arith, refl)

some_or_none : (o : Option ℕ) → ((k : ℕ) × (o ≡ Some k)) ⊎ (o ≡ None)
some_or_none None = inr refl
some_or_none (Some k) = inl (k, refl)

module _ (on : Coming) (t : SlotTables) (at : SessionPlace) (last : Option ℕ) (reads : List SlotReading) (can : CanArrive on t at last reads) where
  abbrev h : History
  h = on.history

  abbrev e : Entry
  e = on.entry

  abbrev numbers : List ℕ
  numbers = on.numbers

  abbrev parents : List ℕ
  parents = parents_in last reads

  below : (i : ℕ) → i < length numbers → slice_index numbers i < count h
  below = can.tables.slots.below

  -- ---- what is right before it

  readable : (x : List ℕ) (m : ℕ) → Contains e.reads (x, m) → 0 < m → (IsReadable (on.cover x) m → ⊥) → ⊥
  readable x m there some neither = let w = can.readings.all x m there in go w.0 w.2 (some_or_none w.0.source)
    where
      other : ((on.cover x).top ≡ Some m) ⊎ ((m ≡ 0) × ((on.cover x).top ≡ None)) → ⊥
      other (inl top) = neither (inr top)
      other (inr (none, free)) = absurd (omega (arith, none, some))

      go : (read : SlotReading) → IsReadingOf on.cover numbers x m read → ((k : ℕ) × (read.source ≡ Some k)) ⊎ (read.source ≡ None) → ⊥
      go read of (inl (k, is)) = neither (inl (of.source k is).2)
      go read of (inr is) = other (of.other is).1

  one_last : (l k : ℕ) → IsLastOf h e.owner l → IsLastOf h e.owner k → (l ≡ k) ⊎ ((l < k) ⊎ (k < l)) → l ≡ k
  one_last l k p q (inl same) = same
  one_last l k p q (inr (inl less)) =
      absurd (omega (arith, can.delivered.sessions l k p.some less q.below (p.owned ∙ sym q.owned), p.last k q.some q.below q.owned))
  one_last l k p q (inr (inr more)) =
      absurd (omega (arith, can.delivered.sessions k l q.some more p.below (q.owned ∙ sym p.owned), q.last l p.some p.below p.owned))

  by_parent : (p : ℕ) → Contains (option_to_list last) p ⊎ Contains (filter_map (λ read. read.source) reads) p
      → (p < length numbers) × IsRightBefore h e on.cover (slice_index numbers p)
  by_parent p (inl there) = let w = can.latest.some p (in_option last p there) in (w.0, inl w.1)
  by_parent p (inr there) =
      let w = in_sources reads p there in
      let r = can.readings.each w.0 w.1 in
      let of = r.3.source p w.2 in (
        of.0,
        inr (
          r.0,
          subst (λ (z : ℕ). Contains e.reads (r.0, z)) (sym of.1) r.2,
          subst (λ (z : ℕ). Contains (on.cover r.0).listed z) (sym of.1) of.2,
        ),
      )

  parent_of : (q : ℕ) → IsRightBefore h e on.cover q → (p : ℕ) × Contains parents p × (slice_index numbers p ≡ q)
  parent_of q (inl is_last) = go (some_or_none last)
    where
      go : ((k : ℕ) × (last ≡ Some k)) ⊎ (last ≡ None) → (p : ℕ) × Contains parents p × (slice_index numbers p ≡ q)
      go (inl (k, is)) =
          let w = can.latest.some k is in (
            k,
            Contains-append_left (option_to_list last) (filter_map (λ read. read.source) reads) k (from_option last k is),
            one_last (slice_index numbers k) q w.1 is_last (cases_order (slice_index numbers k) q),
          )
      go (inr is) = absurd (can.latest.none is q is_last)
  parent_of q (inr (x, there, listed)) = let w = can.readings.all x q there in go w.0 w.1 w.2 (some_or_none w.0.source)
    where
      go : (read : SlotReading) → Contains reads read → IsReadingOf on.cover numbers x q read → ((k : ℕ) × (read.source ≡ Some k)) ⊎ (read.source ≡ None)
          → (p : ℕ) × Contains parents p × (slice_index numbers p ≡ q)
      go read among of (inl (k, is)) =
          (k, Contains-append_right (option_to_list last) (filter_map (λ r. r.source) reads) k (from_sources reads read k among is), (of.source k is).1)
      go read among of (inr is) = absurd ((of.other is).0 listed)

  pub are_parents : AreParents h e on.cover numbers parents
  are_parents = record {
    inside = λ p there. (by_parent p (Contains-append_cases (option_to_list last) (filter_map (λ read. read.source) reads) p there)).0;
    right = λ p there. (by_parent p (Contains-append_cases (option_to_list last) (filter_map (λ read. read.source) reads) p there)).1;
    all = parent_of;
  }

  pub parents_below : (rows : List (List ℕ)) → length rows ≡ length numbers → All (λ p. p < length rows) parents
  parents_below rows long k d inside = omega (arith, are_parents.inside (get_or parents k d) (Contains-get_or parents k d inside), long)

  over_own : (rows : List (List ℕ)) (row : List ℕ) → IsRowOver rows parents at.session at.place row → IsRowOver rows parents e.owner e.place row
  over_own rows row over =
      subst (λ (s : ℕ). IsRowOver rows parents s e.place row) can.session (subst (λ (p : ℕ). IsRowOver rows parents at.session p row) can.place over)

  -- ---- before its links are made

  module _ (clock : List ℕ) (over : IsRowOver t.observed parents at.session at.place clock) where
    pub can_link_reads : CanLinkReads on t.before t.ats clock reads
    can_link_reads = record {
      linking = record {
        delivered = can.delivered;
        covers = can.covers;
        comes = can.comes;
        slots = can.tables.slots;
        between = between_first h e numbers t.before below can.none can.tables.before;
        wide = subst (λ (n : ℕ). AreWide n t.before) (sym can.sessions) can.tables.rows_wide;
        clock_of = clock_right h on.live on.cover e can.delivered can.covers can.comes readable numbers parents below are_parents t.observed clock
            can.tables.observed (over_own t.observed clock over);
      };
      readings = can.readings;
    }

    -- ---- and after

    module _ (rows : List (List ℕ)) (between : AreBetween h e numbers rows) (done : AreReadsDone on rows) (row : List ℕ)
        (over_row : IsRowOver rows parents at.session at.place row) (wide : AreWide t.sessions rows) (row_long : length row ≡ t.sessions)
        (clock_long : length clock ≡ t.sessions) where
      abbrev g : History
      g = after on

      current : ReadsOutdated h e on.cover → ⊥
      current (x, a, there, outdated) = (done x a there).0 outdated

      made : AreMade h e on.cover numbers rows
      made b a at_b at_a is = (done is.key (slice_index numbers a) is.read).1 b a at_b at_a refl is.to is.from is.apart is.observed

      exact : AreExact h (LeadsTo g) numbers rows
      exact = exact_after h on.live on.cover e can.delivered can.covers can.comes can.none numbers rows below between can.kept made current

      abbrev all : List ℕ
      all = numbers ++ count h ∷ []

      count_all : length all ≡ length numbers + 1
      count_all = length-append numbers (count h ∷ [])

      old_or_last : (i : ℕ) → i < length all → (i < length numbers) ⊎ (i ≡ length numbers)
      old_or_last i inside = go (cases_lt i (length numbers))
        where
          go : (i < length numbers) ⊎ (length numbers ≤ i) → (i < length numbers) ⊎ (i ≡ length numbers)
          go (inl less) = inl less
          go (inr most) = inr (omega (arith, most, inside, count_all))

      old_number : (i : ℕ) → i < length numbers → slice_index all i ≡ slice_index numbers i
      old_number i inside = get_or-append numbers (count h ∷ []) 0 i inside

      last_number : (i : ℕ) → i ≡ length numbers → slice_index all i ≡ count h
      last_number i is = get_or_push numbers (count h) 0 i (sym is)

      entry_owner : owner g (count h) ≡ e.owner
      entry_owner = ap (λ (z : Entry). z.owner) (new_entry h e (count h) refl)

      entry_place : place g (count h) ≡ e.place
      entry_place = ap (λ (z : Entry). z.place) (new_entry h e (count h) refl)

      abbrev ats : List SessionPlace
      ats = t.ats ++ at ∷ []

      old_at : (i : ℕ) (d : SessionPlace) → i < length numbers → slice_index_or ats i d ≡ slice_index_or t.ats i d
      old_at i d inside = get_or-append t.ats (at ∷ []) d i (omega (arith, inside, can.tables.slots.long))

      last_at : (i : ℕ) (d : SessionPlace) → i ≡ length numbers → slice_index_or ats i d ≡ at
      last_at i d is = get_or_push t.ats at d i (can.tables.slots.long ∙ sym is)

      slots : AreSlots g all ats
      slots = record {
        long = length-append t.ats (at ∷ []) ∙ ap (λ k. k + 1) can.tables.slots.long ∙ sym count_all;
        below = λ i inside. is_below i (old_or_last i inside);
        session = λ i d inside. session i d (old_or_last i inside);
        place = λ i d inside. is_place i d (old_or_last i inside);
        once = λ i k at_i at_k same. once i k (old_or_last i at_i) (old_or_last k at_k) same;
      }
        where
          is_below : (i : ℕ) → (i < length numbers) ⊎ (i ≡ length numbers) → slice_index all i < count g
          is_below i (inl old) = omega (arith, old_number i old, below i old, count_more h e)
          is_below i (inr new) = omega (arith, last_number i new, count_more h e)

          session : (i : ℕ) (d : SessionPlace) → (i < length numbers) ⊎ (i ≡ length numbers) → (slice_index_or ats i d).session ≡ owner g (slice_index all i)
          session i d (inl old) =
              ap (λ (z : SessionPlace). z.session) (old_at i d old) ∙ can.tables.slots.session i d old ∙ sym (old_owner h e (slice_index numbers i) (below i old))
              ∙ ap (λ z. owner g z) (sym (old_number i old))
          session i d (inr new) =
              ap (λ (z : SessionPlace). z.session) (last_at i d new) ∙ can.session ∙ sym entry_owner ∙ ap (λ z. owner g z) (sym (last_number i new))

          is_place : (i : ℕ) (d : SessionPlace) → (i < length numbers) ⊎ (i ≡ length numbers) → (slice_index_or ats i d).place ≡ place g (slice_index all i)
          is_place i d (inl old) =
              ap (λ (z : SessionPlace). z.place) (old_at i d old) ∙ can.tables.slots.place i d old ∙ sym (old_place h e (slice_index numbers i) (below i old))
              ∙ ap (λ z. place g z) (sym (old_number i old))
          is_place i d (inr new) =
              ap (λ (z : SessionPlace). z.place) (last_at i d new) ∙ can.place ∙ sym entry_place ∙ ap (λ z. place g z) (sym (last_number i new))

          once : (i k : ℕ) → (i < length numbers) ⊎ (i ≡ length numbers) → (k < length numbers) ⊎ (k ≡ length numbers) → slice_index all i ≡ slice_index all k → i ≡ k
          once i k (inl old) (inl also) same = can.tables.slots.once i k old also (sym (old_number i old) ∙ same ∙ old_number k also)
          once i k (inl old) (inr new) same = absurd (omega (arith, same, old_number i old, last_number k new, below i old))
          once i k (inr new) (inl old) same = absurd (omega (arith, same, old_number k old, last_number i new, below k old))
          once i k (inr new) (inr also) same = new ∙ sym also

      wide_more : (rs : List (List ℕ)) (r : List ℕ) → AreWide t.sessions rs → length r ≡ t.sessions → AreWide t.sessions (rs ++ r ∷ [])
      wide_more rs r are long i inside = go (cases_lt i (length rs))
        where
          go : (i < length rs) ⊎ (length rs ≤ i) → length (row_of (rs ++ r ∷ []) i) ≡ t.sessions
          go (inl old) = ap length (get_or-append rs (r ∷ []) [] i old) ∙ are i old
          go (inr new) = ap length (get_or_push rs r [] i (omega (arith, new, inside, length-append rs (r ∷ [])))) ∙ long

      arrived : HasArrived on (record { sessions = t.sessions; ats = ats; observed = t.observed ++ clock ∷ []; before = rows ++ row ∷ [] }) true
      arrived = (
        record {
          slots = slots;
          observed = clocks_more h on.live on.cover e can.delivered can.covers can.comes readable numbers parents below are_parents t.observed clock
              can.tables.observed (over_own t.observed clock over);
          before = rows_more h on.live on.cover e can.delivered can.covers can.comes readable numbers parents below are_parents can.none current rows row
              exact (over_own rows row over_row);
          clocks_wide = wide_more t.observed clock can.tables.clocks_wide clock_long;
          rows_wide = wide_more rows row wide row_long;
        },
        still_none h on.live on.cover e can.delivered can.covers can.comes can.none numbers rows below between can.kept made current,
      )

      pub arrived_as : (new : SlotTables) → new.sessions ≡ t.sessions → new.ats ≡ ats → new.observed ≡ t.observed ++ clock ∷ [] → new.before ≡ rows ++ row ∷ []
          → HasArrived on new true
      arrived_as new same_sessions same_ats same_observed same_before =
          subst (λ (z : ℕ). HasArrived on (record { sessions = z; ats = new.ats; observed = new.observed; before = new.before }) true) (sym same_sessions)
          (subst (λ (z : List SessionPlace). HasArrived on (record { sessions = t.sessions; ats = z; observed = new.observed; before = new.before }) true) (sym same_ats)
          (subst (λ (z : List (List ℕ)). HasArrived on (record { sessions = t.sessions; ats = ats; observed = z; before = new.before }) true) (sym same_observed)
          (subst (λ (z : List (List ℕ)). HasArrived on (record { sessions = t.sessions; ats = ats; observed = t.observed ++ clock ∷ []; before = z }) true)
          (sym same_before) arrived)))
