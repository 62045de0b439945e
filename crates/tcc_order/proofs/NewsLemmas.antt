-- Which transactions are new: what the rows of last writers hold, and what a clock holds if none of them is past it.
use Rattle.std.proofs.Common.{◌≡◌, ◌≢◌, ◌<◌, ◌≤◌, ◌+◌, ◌%◌, ◌==◌, ◌↔◌, ◌⊎◌, inl, inr, ℕ, zero, suc, true, false, ◌&&◌, nat_lt, List, [], ◌∷◌, ◌++◌, length, map, filter, get_or, set, take}
use Rattle.std.proofs.Common.{slice_index, refl, sym, ap, ◌∙◌, subst, arith}
use Rattle.std.specs.Prelude.{max, min}
use Rattle.std.specs.List.{All, Contains, list_any}
use Rattle.std.proofs.lemmas.Bool.{cases_eq, cases_lt, cases_Bool, and_parts, ltb-true, eqb-true, eq-eqb, or_cases}
use Rattle.std.proofs.lemmas.List.{get_or-set_same, get_or-set_other, length-set, get_or_default, get_or-take, length-take-le, get_or_append_left, get_or_at, get_or_past}
use Rattle.std.proofs.lemmas.List.Elements.{All-weaker, All-contains, All-contains_itself, Contains-append_right}
use Rattle.std.proofs.lemmas.List.Sorted.{Contains-permutation, IsPermutation-sym}
use Rattle.std.specs.List.Sorted.{IsPermutation}
use Rattle.tcc_txn.proofs.Lists.{found_number, in_filter, from_filter, in_map, from_map}
use Rattle.tcc_reads.specs.History.{History, IsBySession, count, owner, entry_at}
use Rattle.tcc_graph.specs.Relations.{IsReadsPair}
use Rattle.tcc_graph.specs.Keys.{keys, key_at, has_name, writers}
use Rattle.tcc_graph.specs.Orders.{Before, IsNumbering}
use Rattle.tcc_graph.specs.Tables.{row_of}
use Rattle.tcc_graph.specs.Walks.{IsReached, Leads, step_to}
use Rattle.tcc_graph.specs.declared.step.Step.{Step}
use Rattle.tcc_graph.proofs.IndexedLemmas.{has_name-indices}
use Rattle.tcc_graph.proofs.SortedKeys.{keys_sorted}
use Rattle.tcc_graph.proofs.WriterLemmas.{writer_writes}
use Rattle.tcc_graph.proofs.Numberings.{one_index}
use Rattle.tcc_graph.proofs.Pairs.{step_pair}
use Rattle.tcc_graph.proofs.Walking.{pair_walk, reached_append}
use Rattle.tcc_clocks.proofs.EntryLemmas.{clock_reaches}
use Rattle.tcc_bits.proofs.Lists.{one_of_taken, nothing_in}
use Rattle.tcc_clocks.specs.Clocks.{IsOneOf, AreOwners, LeadsOnward}
use Rattle.tcc_clocks.specs.declared.latest.TheConstants.{WIDE}
use Rattle.tcc_clocks.specs.Parents.{parents, previous, previous_one, sources}
use Rattle.tcc_clocks.proofs.LatestLemmas.{session_some}
use Rattle.tcc_clocks.proofs.Reaching.{same_session, reads_source}
use Rattle.tcc_order.specs.private.CausalLinks.{HasNone}
use Rattle.tcc_order.specs.private.News.{AreNoted, HasClock, HaveRisen, AreRaised, known_of, IsKnown, IsHead, HaveHeads, KeepsHead, KeepHeads, HasHeads, IsFloor, IsOtherWriter, TellsNone, IsTold, AreReadingsOf, AreNewsOf, AreNews, AreWider, AreSorted}
use Rattle.tcc_order.proofs.EmptyRows.{nothing_kept}
use Rattle.tcc_order.proofs.OrderOrCycle.{before_join}

-- ---- what is known
module _ (h : History) (numbered : IsBySession h.entries) (owners : List ℕ) (are : AreOwners h owners) (from floor : ℕ) (is_floor : IsFloor owners from floor)
    (table : List (List ℕ)) (a : ℕ) (low : a < count h) (clock : HasClock h from table a) where
  -- each other transaction of the block up to the known number is held by the clock
  known_holds : (P : ℕ → Type 0) (k b : ℕ) → k < WIDE → IsOneOf h P (from + k) b → b ≢ a → b ≤ known_of owners from floor (row_of table a) a k
      → b ≤ slice_index (row_of table a) k
  known_holds P k b l one apart upto = go (cases_Bool (nat_lt 0 a && (slice_index owners a == from + k)))
    where
      own : slice_index owners b ≡ from + k
      own = are.each b one.committed one.below ∙ one.owned

      past_floor : floor < b
      past_floor = is_floor b one.committed (omega (arith, one.below, are.long)) (omega (arith, own)) (omega (arith, own, l))

      -- one before it in its session
      before_it : owner h a ≡ from + k → b < a → b ≤ slice_index (row_of table a) k
      before_it mine less =
          let w = pair_walk h b a (inl (same_session h numbered b a one.committed less low (one.owned ∙ sym mine))) in
          (clock.each k l).greatest b record { committed = one.committed; below = one.below; owned = one.owned; meant = (w.0, w.1) }

      by_own : owner h a ≡ from + k → (slice_index (row_of table a) k < b) ⊎ (b ≤ slice_index (row_of table a) k)
          → b ≤ max a (max (slice_index (row_of table a) k) floor) → b ≤ slice_index (row_of table a) k
      by_own mine (inr held) most = held
      by_own mine (inl past) most = before_it mine (omega (arith, most, past, past_floor, apart))

      go : (nat_lt 0 a && (slice_index owners a == from + k) ≡ true) ⊎ (nat_lt 0 a && (slice_index owners a == from + k) ≡ false)
          → b ≤ slice_index (row_of table a) k
      go (inl t) =
          let w = and_parts (nat_lt 0 a) (slice_index owners a == from + k) t in
          let mine : owner h a ≡ from + k = sym (are.each a (ltb-true 0 a w.0) low) ∙ eqb-true (slice_index owners a) (from + k) w.1 in
          by_own mine (cases_lt (slice_index (row_of table a) k) b) (rw t at upto)
      go (inr f) =
          let most : b ≤ max (slice_index (row_of table a) k) floor = rw f at upto in
          omega (arith, most, past_floor)

  module _ (c : ℕ) (reader : HasClock h from table c) where
    reached_held : (P : ℕ → Type 0) (k b : ℕ) → k < WIDE → IsOneOf h P (from + k) b → IsReached h b c → b ≤ slice_index (row_of table c) k
    reached_held P k b l one reached =
        (reader.each k l).greatest b record { committed = one.committed; below = one.below; owned = one.owned; meant = reached }

    -- a reader with the row of what it reads from
    pub told_same : (x : List ℕ) → row_of table c ≡ row_of table a → TellsNone h from table a c x
    told_same x same k b l one =
        let up : b ≤ slice_index (row_of table c) k = reached_held (IsOtherWriter h a c x) k b l one one.meant.2 in
        subst (λ (r : List ℕ). b ≤ slice_index r k) same up

    -- none of the last writers that the reader's clock holds is past what is known
    pub told_past : (key_index : ℕ) → key_index < length (keys h) → (last : List (List ℕ)) → AreNoted h from (λ b. IsReached h b c) last → (known : List ℕ)
        → ((k : ℕ) → k < WIDE → slice_index known k ≡ known_of owners from floor (row_of table a) a k)
        → ((k : ℕ) → k < WIDE
        → min (slice_index (row_of table c) k) (slice_index (row_of last (key_index % length last)) k) ≤ slice_index known k)
        → TellsNone h from table a c (key_at h key_index)
    told_past key_index within last noted known is less k b l one =
        let up : b ≤ slice_index (row_of table c) k = reached_held (IsOtherWriter h a c (key_at h key_index)) k b l one one.meant.2 in
        let new : b ≤ slice_index (row_of last (key_index % length last)) k
        = noted key_index k b within l record { committed = one.committed; below = one.below; owned = one.owned; meant = (one.meant.0, one.meant.2) } in
        known_holds (IsOtherWriter h a c (key_at h key_index)) k b l one one.meant.1 (omega (arith, up, new, less k l, is k l))

-- one more number
pub alike_more : (P : ℕ → Type 0) (n : ℕ) → ((k : ℕ) → 0 < k → k < n → P k) → P n → (k : ℕ) → 0 < k → k < n + 1 → P k
alike_more P n was here k above l = go (cases_eq k n)
  where
    go : (k ≡ n) ⊎ (k ≢ n) → P k
    go (inl same) = subst P (sym same) here
    go (inr other) = was k above (omega (arith, l, other))

-- what a transaction reads from has its clock, if those right before it have theirs
pub source_clock : (h : History) (from : ℕ) (table : List (List ℕ)) (c : ℕ) (found : List ℕ) → found ≡ parents h c → All (HasClock h from table) found
    → (a : ℕ) (x : List ℕ) → IsReadsPair h a c x → HasClock h from table a
source_clock h from table c found is clocks a x pair =
    All-contains (HasClock h from table) found a clocks
    (rw is (Contains-append_right (previous_one h c) (sources h c) a (reads_source h a c x pair.2)))

-- if all that a transaction reads from have its row, it tells nothing
pub told_alike : (h : History) → IsBySession h.entries → (owners : List ℕ) → AreOwners h owners → (from floor : ℕ) → IsFloor owners from floor
    → (table : List (List ℕ)) (c : ℕ) → HasClock h from table c → (found : List ℕ) → found ≡ parents h c → All (HasClock h from table) found → 0 < c
    → ((k : ℕ) → 0 < k → k < length found → row_of table (get_or found k 0) ≡ row_of table c) → (a : ℕ) (x : List ℕ) → IsReadsPair h a c x
    → TellsNone h from table a c x
told_alike h numbered owners are from floor is_floor table c clock found is clocks some same a x pair = go (reads_source h a c x pair.2)
  where
    whole : found ≡ previous h c ∷ sources h c
    whole = is ∙ ap (λ (z : List ℕ). z ++ sources h c) (session_some h c some)

    go : Contains (sources h c) a → TellsNone h from table a c x
    go (j, l, e) =
        let at : get_or found (suc j) 0 ≡ a = ap (λ (z : List ℕ). get_or z (suc j) 0) whole ∙ (get_or_default (sources h c) j 0 a l ∙ e) in
        let inside : suc j < length found = rw whole (omega (arith, l)) in
        told_same h numbered owners are from floor is_floor table a pair.0 (source_clock h from table c found is clocks a x pair) c clock x
        (sym (subst (λ (z : ℕ). row_of table z ≡ row_of table c) at (same (suc j) (omega arith) inside)))

-- ---- the reads of one transaction
-- what is among the readings, or tells nothing more, stays so when rows get longer
pub still_told : (h : History) (from : ℕ) (table : List (List ℕ)) (a c : ℕ) (x : List ℕ) (old new : List (ℕ × ℕ))
    → ((reading : ℕ × ℕ) → Contains old reading → Contains new reading) → IsTold h from table a old c x → IsTold h from table a new c x
still_told h from table a c x old new wider (inl (key_index, name, there)) = inl (key_index, name, wider (c, key_index) there)
still_told h from table a c x old new wider (inr tells) = inr tells

-- the first n of these reads are among the readings, or tell nothing more
abbrev pub IsReadTold : History → ℕ → List (List ℕ) → ℕ → List (List (ℕ × ℕ)) → ℕ × ℕ → Type 0
IsReadTold h from table c rows read = IsTold h from table read.1 (row_of rows read.1) c (key_at h read.0)

abbrev pub AreTold : History → ℕ → List (List ℕ) → ℕ → List (ℕ × ℕ) → List (List (ℕ × ℕ)) → ℕ → Type 0
AreTold h from table c reads rows n = (j : ℕ) → j < n → IsReadTold h from table c rows (get_or reads j (0, 0))

pub told_more : (h : History) (from : ℕ) (table : List (List ℕ)) (c : ℕ) (reads : List (ℕ × ℕ)) (old new : List (List (ℕ × ℕ))) (n : ℕ)
    → AreWider old new → AreTold h from table c reads old n → IsReadTold h from table c new (get_or reads n (0, 0)) → AreTold h from table c reads new (n + 1)
told_more h from table c reads old new n wider told here j l = go (cases_eq j n)
  where
    still : (read : ℕ × ℕ) → IsReadTold h from table c old read → IsReadTold h from table c new read
    still read was = still_told h from table read.1 c (key_at h read.0) (row_of old read.1) (row_of new read.1) (wider read.1) was

    go : (j ≡ n) ⊎ (j ≢ n) → IsReadTold h from table c new (get_or reads j (0, 0))
    go (inl same) = subst (λ (z : ℕ). IsReadTold h from table c new (get_or reads z (0, 0))) (sym same) here
    go (inr other) = still (get_or reads j (0, 0)) (told j (omega (arith, l, other)))

-- a list with one more reading in front
in_rest : (one : ℕ × ℕ) (row : List (ℕ × ℕ)) (reading : ℕ × ℕ) → Contains row reading → Contains (one ∷ row) reading
in_rest one row reading (k, l, e) = (suc k, omega (arith, l), e)

in_first : (one : ℕ × ℕ) (row : List (ℕ × ℕ)) (reading : ℕ × ℕ) → Contains (one ∷ row) reading → Contains row reading ⊎ (one ≡ reading)
in_first one row reading (zero, l, e) = inr e
in_first one row reading (suc k, l, e) = inl (k, omega (arith, l), e)

-- one more reading in the row of its source
module _ (rows : List (List (ℕ × ℕ))) (a : ℕ) (inside : a < length rows) (one : ℕ × ℕ) where
  abbrev longer : List (List (ℕ × ℕ))
  longer = set rows a (one ∷ row_of rows a)

  here_longer : row_of longer a ≡ one ∷ row_of rows a
  here_longer = get_or-set_same rows a (one ∷ row_of rows a) [] inside

  else_longer : (d : ℕ) → d ≢ a → row_of longer d ≡ row_of rows d
  else_longer d other = get_or-set_other rows a d (one ∷ row_of rows a) [] other

  pub push_wider : AreWider rows longer
  push_wider d reading there = go (cases_eq d a)
    where
      go : (d ≡ a) ⊎ (d ≢ a) → Contains (row_of longer d) reading
      go (inl same) = rw (same, here_longer) (in_rest one (row_of rows a) reading (rw same at there))
      go (inr other) = rw (else_longer d other) there

  pub push_there : Contains (row_of longer a) one
  push_there = rw here_longer (0, omega arith, refl)

  pub push_sound : (h : History) → (one.1 < length (keys h)) × IsReadsPair h a one.0 (key_at h one.1) → ((d : ℕ) → AreReadingsOf h d (row_of rows d))
      → (d : ℕ) → AreReadingsOf h d (row_of longer d)
  push_sound h real sound d c p there = go (cases_eq d a)
    where
      which : Contains (row_of rows a) (c, p) ⊎ (one ≡ (c, p)) → (p < length (keys h)) × IsReadsPair h a c (key_at h p)
      which (inl was) = sound a c p was
      which (inr same) = subst (λ (z : ℕ × ℕ). (z.1 < length (keys h)) × IsReadsPair h a z.0 (key_at h z.1)) same real

      go : (d ≡ a) ⊎ (d ≢ a) → (p < length (keys h)) × IsReadsPair h d c (key_at h p)
      go (inr other) = sound d c p (rw (else_longer d other) at there)
      go (inl same) =
          subst (λ (z : ℕ). (p < length (keys h)) × IsReadsPair h z c (key_at h p)) (sym same)
          (which (in_first one (row_of rows a) (c, p) (rw (same, here_longer) at there)))

-- each read is among them
pub told_all : (h : History) (from : ℕ) (table : List (List ℕ)) (c : ℕ) (reads : List (ℕ × ℕ)) (rows : List (List (ℕ × ℕ)))
    → map (λ read. (key_at h read.0, read.1)) reads ≡ (entry_at h c).reads → AreTold h from table c reads rows (length reads) → (a : ℕ) (x : List ℕ)
    → IsReadsPair h a c x → IsTold h from table a (row_of rows a) c x
told_all h from table c reads rows named told a x pair = named_read (from_map (λ read. read.0) filtered x pair.2)
  where
    filtered : List (List ℕ × ℕ)
    filtered = filter (λ read. read.1 == a) (entry_at h c).reads

    at_index : (read : ℕ × ℕ) → key_at h read.0 ≡ x → read.1 ≡ a → Contains reads read → IsTold h from table a (row_of rows a) c x
    at_index read name source (j, l, e) =
        let here : get_or reads j (0, 0) ≡ read = get_or_default reads j (0, 0) read l ∙ e in
        let key : key_at h (get_or reads j (0, 0)).0 ≡ x = ap (λ z. key_at h z.0) here ∙ name in
        let from_a : (get_or reads j (0, 0)).1 ≡ a = ap (λ z. z.1) here ∙ source in
        subst (λ (y : List ℕ). IsTold h from table a (row_of rows a) c y) key
        (subst (λ (z : ℕ). IsTold h from table z (row_of rows z) c (key_at h (get_or reads j (0, 0)).0)) from_a (told j l))

    by_index : (read : List ℕ × ℕ) → read.0 ≡ x → read.1 ≡ a
        → (index : ℕ × ℕ) × Contains reads index × ((key_at h index.0, index.1) ≡ read) → IsTold h from table a (row_of rows a) c x
    by_index read name source (index, there, same) = at_index index (ap (λ z. z.0) same ∙ name) (ap (λ z. z.1) same ∙ source) there

    named_read : (read : List ℕ × ℕ) × Contains filtered read × (read.0 ≡ x) → IsTold h from table a (row_of rows a) c x
    named_read (read, there, name) =
        let w = from_filter (λ read. read.1 == a) (entry_at h c).reads read there in
        by_index read name (eqb-true read.1 a w.1)
        (from_map (λ (r : ℕ × ℕ). (key_at h r.0, r.1)) reads read (subst (λ (z : List (List ℕ × ℕ)). Contains z read) (sym named) w.0))

-- a read is one of its source
pub read_sound : (h : History) (c : ℕ) → c < count h → (reads : List (ℕ × ℕ)) → map (λ read. (key_at h read.0, read.1)) reads ≡ (entry_at h c).reads
    → All (λ read. (read.0 < length (keys h)) × (read.1 < count h)) reads → (j : ℕ) → j < length reads
    → ((get_or reads j (0, 0)).0 < length (keys h)) × IsReadsPair h (get_or reads j (0, 0)).1 c (key_at h (get_or reads j (0, 0)).0)
read_sound h c low reads named within j l = go (get_or reads j (0, 0)) (within j (0, 0) l) (j, l, get_or_default reads j (get_or reads j (0, 0)) (0, 0) l)
  where
    go : (one : ℕ × ℕ) → (one.0 < length (keys h)) × (one.1 < count h) → Contains reads one → (one.0 < length (keys h)) × IsReadsPair h one.1 c (key_at h one.0)
    go one low_one there =
        let named_one : List ℕ × ℕ = (key_at h one.0, one.1) in
        let entry : Contains (entry_at h c).reads named_one
        = subst (λ (z : List (List ℕ × ℕ)). Contains z named_one) named (in_map (λ (read : ℕ × ℕ). (key_at h read.0, read.1)) reads one there) in (
          low_one.0,
          (
            low_one.1,
            low,
            in_map (λ (read : List ℕ × ℕ). read.0) (filter (λ read. read.1 == one.1) (entry_at h c).reads) named_one
                (in_filter (λ (read : List ℕ × ℕ). read.1 == one.1) (entry_at h c).reads named_one entry (eq-eqb one.1 one.1 refl)),
          ),
        )

-- ---- rows of last writers
pub raised_none : (key_indices : List ℕ) (session number : ℕ) (rows : List (List ℕ)) → AreRaised (take 0 key_indices) session number rows rows
raised_none key_indices session number rows = (λ index k. omega arith, λ key_index there. absurd (nothing_in key_index there))

module _ (key_indices : List ℕ) (i session number : ℕ) (old mid : List (List ℕ)) (inside : i < length key_indices) (slot : ℕ)
    (is_slot : slot ≡ get_or key_indices i 0 % length mid) (low : slot < length mid) (wide : session < length (row_of mid slot))
    (raised : AreRaised (take i key_indices) session number old mid) where
  abbrev row : List ℕ
  row = set (row_of mid slot) session (max number (slice_index (row_of mid slot) session))

  abbrev new : List (List ℕ)
  new = set mid slot (set (row_of mid slot) session (max number (slice_index (row_of mid slot) session)))

  same_row : row_of new slot ≡ row
  same_row = get_or-set_same mid slot row [] low

  other_row : (index : ℕ) → index ≢ slot → row_of new index ≡ row_of mid index
  other_row index apart = get_or-set_other mid slot index row [] apart

  at : slice_index row session ≡ max number (slice_index (row_of mid slot) session)
  at = get_or-set_same (row_of mid slot) session (max number (slice_index (row_of mid slot) session)) 0 wide

  beside : (k : ℕ) → k ≢ session → slice_index row k ≡ slice_index (row_of mid slot) k
  beside k apart = get_or-set_other (row_of mid slot) session k (max number (slice_index (row_of mid slot) session)) 0 apart

  rises : (index k : ℕ) → (index ≡ slot) ⊎ (index ≢ slot) → (k ≡ session) ⊎ (k ≢ session) → slice_index (row_of mid index) k ≤ slice_index (row_of new index) k
  rises index k (inr apart) which = let e : slice_index (row_of new index) k ≡ slice_index (row_of mid index) k = ap (λ r. slice_index r k) (other_row index apart) in omega (arith, e)
  rises index k (inl same) (inl here) =
      let e : slice_index (row_of new slot) session ≡ max number (slice_index (row_of mid slot) session) = ap (λ r. slice_index r session) same_row ∙ at in
      rw (same, here) (omega (arith, e))
  rises index k (inl same) (inr apart) =
      let e : slice_index (row_of new slot) k ≡ slice_index (row_of mid slot) k = ap (λ r. slice_index r k) same_row ∙ beside k apart in
      rw same (omega (arith, e))

  pub raised_more : AreRaised (take (i + 1) key_indices) session number old new
  raised_more = (
    λ index k. omega (arith, raised.0 index k, rises index k (cases_eq index slot) (cases_eq k session)),
    λ key_index there. go key_index (one_of_taken key_indices i inside key_index there),
  )
    where
      long : length new ≡ length mid
      long = length-set mid slot row

      go : (key_index : ℕ) → Contains (take i key_indices) key_index ⊎ (get_or key_indices i 0 ≡ key_index) → number ≤ slice_index (row_of new (key_index % length new)) session
      go key_index (inl was) =
          rw long (omega (arith, raised.1 key_index was, rises (key_index % length mid) session (cases_eq (key_index % length mid) slot) (cases_eq session session)))
      go key_index (inr same) =
          let here : slot ≡ key_index % length mid = is_slot ∙ ap (λ (z : ℕ). z % length mid) same in
          let e : slice_index (row_of new slot) session ≡ max number (slice_index (row_of mid slot) session) = ap (λ r. slice_index r session) same_row ∙ at in
          rw (long, ← here) (omega (arith, e))

-- a smaller set of transactions
pub noted_fewer : (h : History) (from : ℕ) (P Q : ℕ → Type 0) (rows : List (List ℕ)) → ((b : ℕ) → P b → Q b) → AreNoted h from Q rows → AreNoted h from P rows
noted_fewer h from P Q rows fewer noted key_index k b within l one =
    noted key_index k b within l
    record { committed = one.committed; below = one.below; owned = one.owned; meant = (one.meant.0, fewer b one.meant.1) }

-- one more of an order
pub noted_more : (h : History) (from : ℕ) (order : List ℕ) (n : ℕ) (old new : List (List ℕ)) → n < length order → length new ≡ length old
    → HaveRisen old new → AreNoted h from (λ b. b ≡ get_or order n 0) new
    → AreNoted h from (Contains (take n order)) old → AreNoted h from (Contains (take (n + 1) order)) new
noted_more h from order n old new inside long rise here noted key_index k b within l one = go (one_of_taken order n inside b one.meant.1)
  where
    go : Contains (take n order) b ⊎ (get_or order n 0 ≡ b) → b ≤ slice_index (row_of new (key_index % length new)) k
    go (inr same) =
        here key_index k b within l
        record { committed = one.committed; below = one.below; owned = one.owned; meant = (one.meant.0, sym same) }
    go (inl was) =
        let before : b ≤ slice_index (row_of old (key_index % length old)) k
        = noted key_index k b within l record { committed = one.committed; below = one.below; owned = one.owned; meant = (one.meant.0, was) } in
        rw long (omega (arith, before, rise (key_index % length old) k))

-- the index of a key that a transaction writes is among the listed ones
written_key : (h : History) (c : ℕ) → 0 < c → (key_indices : List ℕ) → map (key_at h) key_indices ≡ (entry_at h c).writes
    → All (λ key_index. key_index < length (keys h)) key_indices → (key_index : ℕ) → key_index < length (keys h)
    → Contains (writers h (key_at h key_index)) c → Contains key_indices key_index
written_key h c some key_indices named all key_index within writer =
    listed (or_cases (c == 0) (has_name (entry_at h c).writes (key_at h key_index)) (writer_writes h (key_at h key_index) c writer).1)
  where
    by_name : has_name (entry_at h c).writes (key_at h key_index) ≡ list_any (λ j. j == key_index) key_indices
    by_name = rw (← named) (has_name-indices (keys h) (keys_sorted h) key_indices key_index all within)

    listed : ((c == 0) ≡ true) ⊎ (has_name (entry_at h c).writes (key_at h key_index) ≡ true) → Contains key_indices key_index
    listed (inl e) = absurd (omega (arith, eqb-true c 0 e, some))
    listed (inr e) = found_number key_indices key_index (sym by_name ∙ e)

-- a transaction of the block whose keys were raised
pub noted_raised : (h : History) (owners : List ℕ) → AreOwners h owners → (from c session : ℕ) → 0 < c → c < count h → slice_index owners c ≡ from + session
    → (key_indices : List ℕ) → map (key_at h) key_indices ≡ (entry_at h c).writes → All (λ key_index. key_index < length (keys h)) key_indices
    → (old new : List (List ℕ)) → AreRaised key_indices session c old new → AreNoted h from (λ b. b ≡ c) new
noted_raised h owners are from c session some below mine key_indices named all old new raised key_index k b within l one =
    let same : b ≡ c = one.meant.1 in
    let own : owner h c ≡ from + k = subst (λ (z : ℕ). owner h z ≡ from + k) same one.owned in
    let column : k ≡ session = omega (arith, own, mine, are.each c some below) in
    let writer : Contains (writers h (key_at h key_index)) c = subst (λ (z : ℕ). Contains (writers h (key_at h key_index)) z) same one.meant.0 in
    rw (same, column) (raised.1 key_index (written_key h c some key_indices named all key_index within writer))

-- a transaction in no session of the block
pub noted_outside : (h : History) (from c : ℕ) (rows : List (List ℕ)) → ((k : ℕ) → 0 < c → k < WIDE → owner h c ≢ from + k) → AreNoted h from (λ b. b ≡ c) rows
noted_outside h from c rows apart key_index k b within l one =
    let same : b ≡ c = one.meant.1 in
    absurd (apart k (omega (arith, one.committed, same)) l (subst (λ (z : ℕ). owner h z ≡ from + k) same one.owned))

-- ---- along the order
module _ (h : History) (order : List ℕ) (numbering : IsNumbering (count h) order) (onward : LeadsOnward h order) where
  walk_onward : (a b : ℕ) (s : Step) (steps : List Step) → Leads h a b (s ∷ steps) → Before order a b
  walk_onward a b s [] w = rw (← w.0, ← w.2) (onward _ _ (step_pair h s w.1))
  walk_onward a b s (t ∷ steps) w =
      let first : Before order a (step_to s) = subst (λ (z : ℕ). Before order z (step_to s)) w.0 (onward _ _ (step_pair h s w.1)) in
      before_join (count h) order a (step_to s) b numbering first (walk_onward (step_to s) b t steps w.2)

  reached_onward : (a b : ℕ) → IsReached h a b → Before order a b
  reached_onward a b ([], w) = absurd (omega (arith, w.0))
  reached_onward a b (s ∷ steps, w) = walk_onward a b s steps w.1

  -- what reaches the next one was passed
  passed : (n b : ℕ) → n < length order → Before order b (get_or order n 0) → Contains (take n order) b
  passed n b inside (i, j, less, within, at_b, at_n) =
      let same : j ≡ n = one_index numbering j n within inside at_n in
      let early : i < n = omega (arith, less, same) in
      let long : i < length (take n order) = omega (arith, early, length-take-le n order (omega (arith, inside))) in
      (i, long, get_or_default (take n order) i b 0 long ∙ (get_or-take n order i 0 early ∙ at_b))

  pub reached_passed : (n b : ℕ) → n < length order → IsReached h b (get_or order n 0) → Contains (take n order) b
  reached_passed n b inside reached = passed n b inside (reached_onward b (get_or order n 0) reached)

  pub noted_reached : (from n : ℕ) (rows : List (List ℕ)) → n < length order → AreNoted h from (Contains (take n order)) rows
      → AreNoted h from (λ b. IsReached h b (get_or order n 0)) rows
  noted_reached from n rows inside noted =
      noted_fewer h from (λ b. IsReached h b (get_or order n 0)) (Contains (take n order)) rows
      (λ b reached. reached_passed n b inside reached) noted

-- the readings of those before index n are in the rows, or tell nothing more
abbrev pub ArePassed : History → ℕ → List (List ℕ) → List ℕ → List (List (ℕ × ℕ)) → ℕ → Type 0
ArePassed h from table order rows n =
    (j : ℕ) → j < n → (a : ℕ) (x : List ℕ) → IsReadsPair h a (get_or order j 0) x → IsTold h from table a (row_of rows a) (get_or order j 0) x

pub passed_more : (h : History) (from : ℕ) (table : List (List ℕ)) (order : List ℕ) (old new : List (List (ℕ × ℕ))) (n : ℕ) → AreWider old new
    → ((a : ℕ) (x : List ℕ) → IsReadsPair h a (get_or order n 0) x → IsTold h from table a (row_of new a) (get_or order n 0) x)
    → ArePassed h from table order old n → ArePassed h from table order new (n + 1)
passed_more h from table order old new n wider here told j l a x pair = go (cases_eq j n)
  where
    go : (j ≡ n) ⊎ (j ≢ n) → IsTold h from table a (row_of new a) (get_or order j 0) x
    go (inr other) =
        still_told h from table a (get_or order j 0) x (row_of old a) (row_of new a) (wider a) (told j (omega (arith, l, other)) a x pair)
    go (inl same) =
        subst (λ (z : ℕ). IsTold h from table a (row_of new a) (get_or order z 0) x) (sym same)
        (here a x (subst (λ (z : ℕ). IsReadsPair h a (get_or order z 0) x) same pair))

-- the next one has its row now: it is none of those that were read from
pub passed_still : (h : History) (from : ℕ) (table : List (List ℕ)) (row : List ℕ) (order : List ℕ) (rows : List (List (ℕ × ℕ))) (n : ℕ)
    → IsNumbering (count h) order → LeadsOnward h order → n < length order → ArePassed h from table order rows n
    → ArePassed h from (set table (get_or order n 0) row) order rows n
passed_still h from table row order rows n numbering onward inside told j l a x pair = go (told j l a x pair)
  where
    apart : Before order a (get_or order j 0) → a ≢ get_or order n 0
    apart (i, m, less, within, at_a, at_j) same =
        let first : m ≡ j = one_index numbering m j within (omega (arith, l, inside)) at_j in
        let second : i ≡ n = one_index numbering i n (omega (arith, less, within)) inside (at_a ∙ same) in
        omega (arith, less, first, second, l)

    here : row_of (set table (get_or order n 0) row) a ≡ row_of table a
    here = get_or-set_other table (get_or order n 0) a row [] (apart (onward a (get_or order j 0) (inr (x, pair))))

    go : IsTold h from table a (row_of rows a) (get_or order j 0) x → IsTold h from (set table (get_or order n 0) row) a (row_of rows a) (get_or order j 0) x
    go (inl there) = inl there
    go (inr tells) = inr (rw here tells)

pub passed_all : (h : History) (from : ℕ) (table : List (List ℕ)) (order : List ℕ) (rows : List (List (ℕ × ℕ))) (n : ℕ) → IsNumbering (count h) order
    → length order ≤ n → length rows ≡ count h → ((a : ℕ) → AreReadingsOf h a (row_of rows a)) → ArePassed h from table order rows n
    → AreNews h from table rows
passed_all h from table order rows n numbering whole long sound told = record {
  long = long;
  each = λ a. record { sound = sound a; enough = λ c x pair. go a c x pair (numbering.each c pair.1) };
}
  where
    go : (a c : ℕ) (x : List ℕ) → IsReadsPair h a c x → Contains order c → IsTold h from table a (row_of rows a) c x
    go a c x pair (j, l, e) =
        let at : get_or order j 0 ≡ c = get_or_default order j 0 c l ∙ e in
        subst (λ (z : ℕ). IsTold h from table a (row_of rows a) z x) at
        (told j (omega (arith, l, whole)) a x (subst (λ (z : ℕ). IsReadsPair h a z x) (sym at) pair))

-- rows with no readings
pub none_sound : (h : History) (rows : List (List (ℕ × ℕ))) → HasNone rows → (a : ℕ) → AreReadingsOf h a (row_of rows a)
none_sound h rows none a c key_index there = absurd (nothing_kept rows none a (c, key_index) there)

-- rows in any order
pub news_sorted : (h : History) (from : ℕ) (table : List (List ℕ)) (old new : List (List (ℕ × ℕ))) → length new ≡ length old → AreSorted old new
    → AreNews h from table old → AreNews h from table new
news_sorted h from table old new same sorted news = record {
  long = same ∙ news.long;
  each = λ a. record {
    sound = λ c key_index there. (news.each a).sound c key_index ((sorted a (c, key_index)).0 there);
    enough = λ c x pair. still_told h from table a c x (row_of old a) (row_of new a) (λ reading. (sorted a reading).1) ((news.each a).enough c x pair);
  };
}

-- the first n rows have the same readings
abbrev pub SortedBelow : List (List (ℕ × ℕ)) → List (List (ℕ × ℕ)) → ℕ → Type 0
SortedBelow old new n = (a : ℕ) (reading : ℕ × ℕ) → a < n → Contains (row_of new a) reading ↔ Contains (row_of old a) reading

pub sorted_none : (old new : List (List (ℕ × ℕ))) → SortedBelow old new 0
sorted_none old new a reading l = absurd (omega (arith, l))

-- one more row, in some order
pub sorted_more : (old new : List (List (ℕ × ℕ))) (n : ℕ) (row : List (ℕ × ℕ)) → length new ≡ n → IsPermutation (row_of old n) row
    → SortedBelow old new n → SortedBelow old (new ++ row ∷ []) (n + 1)
sorted_more old new n row long permuted sorted a reading l = go (cases_eq a n)
  where
    go : (a ≡ n) ⊎ (a ≢ n) → Contains (row_of (new ++ row ∷ []) a) reading ↔ Contains (row_of old a) reading
    go (inr other) =
        let less : a < n = omega (arith, l, other) in
        rw (get_or_append_left new (row ∷ []) [] a (omega (arith, less, long))) (sorted a reading less)
    go (inl same) =
        rw (same, get_or_at new row [] [] n long) (
          Contains-permutation row (row_of old n) reading (IsPermutation-sym (row_of old n) row permuted),
          Contains-permutation (row_of old n) row reading permuted,
        )

-- all rows
pub sorted_all : (old new : List (List (ℕ × ℕ))) (n : ℕ) → n ≡ length old → length new ≡ n → SortedBelow old new n → AreSorted old new
sorted_all old new n whole long sorted a reading = go (cases_lt a n)
  where
    go : (a < n) ⊎ (n ≤ a) → Contains (row_of new a) reading ↔ Contains (row_of old a) reading
    go (inl less) = sorted a reading less
    go (inr past) = rw (get_or_past new a [] (omega (arith, long, past)), get_or_past old a [] (omega (arith, whole, past))) (λ there. there, λ there. there)

-- a transaction without readings tells nothing
pub nothing_told : (h : History) (from : ℕ) (table : List (List ℕ)) (a : ℕ) (readings : List (ℕ × ℕ)) → AreNewsOf h from table a readings → readings ≡ []
    → (c : ℕ) (x : List ℕ) → IsReadsPair h a c x → TellsNone h from table a c x
nothing_told h from table a readings news none c x pair = go (news.enough c x pair)
  where
    go : IsTold h from table a readings c x → TellsNone h from table a c x
    go (inl (key_index, name, there)) = absurd (nothing_in (c, key_index) (rw none at there))
    go (inr tells) = tells

-- each reader is a transaction
pub news_readers : (h : History) (from : ℕ) (table : List (List ℕ)) (rows : List (List (ℕ × ℕ))) → AreNews h from table rows → (n : ℕ) → n ≡ count h
    → All (λ row. All (λ reading. reading.0 < n) row) rows
news_readers h from table rows news n whole k d l = rw (get_or_default rows k d [] l, whole) (readers k)
  where
    readers : (a : ℕ) → All (λ reading. reading.0 < count h) (row_of rows a)
    readers a =
        All-weaker (Contains (row_of rows a)) (λ reading. reading.0 < count h) (λ reading there. ((news.each a).sound reading.0 reading.1 there).1.1) (row_of rows a)
        (All-contains_itself (row_of rows a))

-- ---- heads
module _ (h : History) (numbered : IsBySession h.entries) (owners : List ℕ) (are : AreOwners h owners) (from floor : ℕ) (is_floor : IsFloor owners from floor)
    (table : List (List ℕ)) (a : ℕ) (low : a < count h) (clock : HasClock h from table a) where
  -- a transaction that has a known head is a, or reaches a
  head_known : (b z : ℕ) → IsKnown owners from floor (row_of table a) a z → IsHead h floor b z → (b ≡ a) ⊎ IsReached h b a
  head_known b z (inl under) head = absurd (omega (arith, under, head.0))
  head_known b z (inr (inl same)) head = go head.1
    where
      go : (count h ≤ z) ⊎ ((b ≡ z) ⊎ IsReached h b z) → (b ≡ a) ⊎ IsReached h b a
      go (inl past) = absurd (omega (arith, past, same, low))
      go (inr (inl here)) = inl (here ∙ same)
      go (inr (inr reached)) = inr (subst (λ (y : ℕ). IsReached h b y) same reached)
  head_known b z (inr (inr (inside, (k, l, mine, upto)))) head = go head.1
    where
      below : z < count h
      below = omega (arith, inside, are.long)

      some : 0 < z
      some = omega (arith, head.0)

      wide : k < WIDE
      wide = omega (arith, l, clock.wide)

      leads : IsReached h z a
      leads =
          clock_reaches h numbered a (from + k) (slice_index (row_of table a) k) z (clock.each k wide) some below
          (sym (are.each z some below) ∙ mine) upto

      go : (count h ≤ z) ⊎ ((b ≡ z) ⊎ IsReached h b z) → (b ≡ a) ⊎ IsReached h b a
      go (inl past) = absurd (omega (arith, past, below))
      go (inr (inl here)) = inr (subst (λ (y : ℕ). IsReached h y a) (sym here) leads)
      go (inr (inr reached)) = inr (reached_append h b z a reached leads)

  -- so a reader of what has that head tells nothing
  pub told_head : (c key_index z : ℕ) → key_index < length (keys h) → (heads : List ℕ) → HaveHeads h from floor (λ b. IsReached h b c) heads
      → slice_index heads (key_index % length heads) ≡ z → IsKnown owners from floor (row_of table a) a z → TellsNone h from table a c (key_at h key_index)
  told_head c key_index z within heads have is known k b l one = go (head_known b z known head)
    where
      head : IsHead h floor b z
      head =
          subst (λ (y : ℕ). IsHead h floor b y) is
          (have key_index k b within l record { committed = one.committed; below = one.below; owned = one.owned; meant = (one.meant.0, one.meant.2) })

      go : (b ≡ a) ⊎ IsReached h b a → b ≤ slice_index (row_of table a) k
      go (inl same) = absurd (one.meant.1 same)
      go (inr reached) =
          (clock.each k l).greatest b record { committed = one.committed; below = one.below; owned = one.owned; meant = reached }

  -- a transaction above the floor has itself as a head
  pub head_own : floor < a → IsHead h floor a a
  head_own above = (above, inr (inl refl))

  pub head_nobody : (b none : ℕ) → floor < a → none ≡ count h → IsHead h floor b none
  head_nobody b none above whole = (omega (arith, above, whole, low), inl (omega (arith, whole)))

  pub head_led : (last : List ℕ) (z : ℕ) → floor < a → IsKnown owners from floor (row_of table a) a z → KeepsHead h from floor last z a
  head_led last z above known k b l one head under = (above, inr (head_known b z known head))

  pub head_past : (last : List ℕ) (z : ℕ) (known : List ℕ) → floor < a
      → ((k : ℕ) → k < WIDE → slice_index known k ≡ known_of owners from floor (row_of table a) a k)
      → ((k : ℕ) → k < WIDE → min (slice_index last k) (slice_index last k) ≤ slice_index known k) → KeepsHead h from floor last z a
  head_past last z known above is less k b l one head under = (above, inr (go (cases_eq b a)))
    where
      go : (b ≡ a) ⊎ (b ≢ a) → (b ≡ a) ⊎ IsReached h b a
      go (inl same) = inl same
      go (inr apart) =
          let held : b ≤ slice_index (row_of table a) k
          = known_holds h numbered owners are from floor is_floor table a low clock (λ b. Unit {0}) k b l one apart (omega (arith, under, less k l, is k l)) in
          inr (clock_reaches h numbered a (from + k) (slice_index (row_of table a) k) b (clock.each k l) one.committed one.below one.owned held)

-- ---- heads of keys
pub heads_none : (h : History) (from floor c : ℕ) (rows : List (List ℕ)) (heads key_indices : List ℕ)
    → KeepHeads h from floor rows heads heads × HasHeads h floor c (take 0 key_indices) heads
heads_none h from floor c rows heads key_indices = ((λ index k b l one head under. head), λ key_index there. absurd (nothing_in key_index there))

module _ (h : History) (from floor c : ℕ) (key_indices : List ℕ) (i : ℕ) (old mid : List (List ℕ)) (before heads : List ℕ) (inside : i < length key_indices)
    (slot z : ℕ) (is_slot : slot ≡ get_or key_indices i 0 % length heads) (low : slot < length heads) (risen : HaveRisen old mid)
    (keeps : KeepHeads h from floor old before heads) (own : HasHeads h floor c (take i key_indices) heads) (here : IsHead h floor c z)
    (kept : KeepsHead h from floor (row_of mid slot) (slice_index heads slot) z) where
  head_there : slice_index (set heads slot z) slot ≡ z
  head_there = get_or-set_same heads slot z 0 low

  head_else : (index : ℕ) → index ≢ slot → slice_index (set heads slot z) index ≡ slice_index heads index
  head_else index apart = get_or-set_other heads slot index z 0 apart

  pub heads_kept : KeepHeads h from floor old before (set heads slot z)
  heads_kept index k b l one head under = go (cases_eq index slot)
    where
      was : IsHead h floor b (slice_index heads index)
      was = keeps index k b l one head under

      go : (index ≡ slot) ⊎ (index ≢ slot) → IsHead h floor b (slice_index (set heads slot z) index)
      go (inr apart) = subst (λ (y : ℕ). IsHead h floor b y) (sym (head_else index apart)) was
      go (inl same) =
          let up : b ≤ slice_index (row_of mid slot) k = rw (← same) (omega (arith, under, risen index k)) in
          subst (λ (y : ℕ). IsHead h floor b (slice_index (set heads slot z) y)) (sym same)
          (subst (λ (y : ℕ). IsHead h floor b y) (sym head_there) (kept k b l one (subst (λ (y : ℕ). IsHead h floor b (slice_index heads y)) same was) up))

  pub heads_own : HasHeads h floor c (take (i + 1) key_indices) (set heads slot z)
  heads_own key_index there = rw (length-set heads slot z) (go (cases_eq (key_index % length heads) slot) (one_of_taken key_indices i inside key_index there))
    where
      go : (key_index % length heads ≡ slot) ⊎ (key_index % length heads ≢ slot) → Contains (take i key_indices) key_index ⊎ (get_or key_indices i 0 ≡ key_index)
          → IsHead h floor c (slice_index (set heads slot z) (key_index % length heads))
      go (inl same) w =
          subst (λ (y : ℕ). IsHead h floor c (slice_index (set heads slot z) y)) (sym same) (subst (λ (y : ℕ). IsHead h floor c y) (sym head_there) here)
      go (inr apart) (inl was) = subst (λ (y : ℕ). IsHead h floor c y) (sym (head_else (key_index % length heads) apart)) (own key_index was)
      go (inr apart) (inr same) = absurd (apart (ap (λ (y : ℕ). y % length heads) (sym same) ∙ sym is_slot))

-- a smaller set of transactions
pub heads_fewer : (h : History) (from floor : ℕ) (P Q : ℕ → Type 0) (heads : List ℕ) → ((b : ℕ) → P b → Q b) → HaveHeads h from floor Q heads
    → HaveHeads h from floor P heads
heads_fewer h from floor P Q heads fewer have key_index k b within l one =
    have key_index k b within l record { committed = one.committed; below = one.below; owned = one.owned; meant = (one.meant.0, fewer b one.meant.1) }

-- one more of an order
pub heads_more : (h : History) (from floor : ℕ) (order : List ℕ) (n : ℕ) (rows : List (List ℕ)) (old new : List ℕ) → n < length order → length new ≡ length old
    → length old ≡ length rows → AreNoted h from (Contains (take n order)) rows → KeepHeads h from floor rows old new
    → HaveHeads h from floor (λ b. b ≡ get_or order n 0) new → HaveHeads h from floor (Contains (take n order)) old
    → HaveHeads h from floor (Contains (take (n + 1) order)) new
heads_more h from floor order n rows old new inside long beside noted keeps own have key_index k b within l one = go (one_of_taken order n inside b one.meant.1)
  where
    go : Contains (take n order) b ⊎ (get_or order n 0 ≡ b) → IsHead h floor b (slice_index new (key_index % length new))
    go (inr same) =
        own key_index k b within l
        record { committed = one.committed; below = one.below; owned = one.owned; meant = (one.meant.0, sym same) }
    go (inl was) =
        let before : IsHead h floor b (slice_index old (key_index % length old))
        = have key_index k b within l record { committed = one.committed; below = one.below; owned = one.owned; meant = (one.meant.0, was) } in
        let up : b ≤ slice_index (row_of rows (key_index % length rows)) k
        = noted key_index k b within l record { committed = one.committed; below = one.below; owned = one.owned; meant = (one.meant.0, was) } in
        let under : b ≤ slice_index (row_of rows (key_index % length old)) k = rw beside up in
        rw long (keeps (key_index % length old) k b l record { committed = one.committed; below = one.below; owned = one.owned; meant = tt } before under)

-- a transaction of the block that has the head of its keys
pub heads_raised : (h : History) (owners : List ℕ) → AreOwners h owners → (from floor c session : ℕ) → 0 < c → c < count h
    → (key_indices : List ℕ) → map (key_at h) key_indices ≡ (entry_at h c).writes → All (λ key_index. key_index < length (keys h)) key_indices
    → (heads : List ℕ) → HasHeads h floor c key_indices heads → HaveHeads h from floor (λ b. b ≡ c) heads
heads_raised h owners are from floor c session some below key_indices named all heads own key_index k b within l one =
    let same : b ≡ c = one.meant.1 in
    let writer : Contains (writers h (key_at h key_index)) c = subst (λ (z : ℕ). Contains (writers h (key_at h key_index)) z) same one.meant.0 in
    subst (λ (y : ℕ). IsHead h floor y (slice_index heads (key_index % length heads))) (sym same)
    (own key_index (written_key h c some key_indices named all key_index within writer))

pub heads_outside : (h : History) (from floor c : ℕ) (heads : List ℕ) → ((k : ℕ) → 0 < c → k < WIDE → owner h c ≢ from + k)
    → HaveHeads h from floor (λ b. b ≡ c) heads
heads_outside h from floor c heads apart key_index k b within l one =
    let same : b ≡ c = one.meant.1 in
    absurd (apart k (omega (arith, one.committed, same)) l (subst (λ (z : ℕ). owner h z ≡ from + k) same one.owned))

-- what reaches the next one has its head
pub heads_reached : (h : History) (order : List ℕ) → IsNumbering (count h) order → LeadsOnward h order → (from floor n : ℕ) (heads : List ℕ) → n < length order
    → HaveHeads h from floor (Contains (take n order)) heads → HaveHeads h from floor (λ b. IsReached h b (get_or order n 0)) heads
heads_reached h order numbering onward from floor n heads inside have =
    heads_fewer h from floor (λ b. IsReached h b (get_or order n 0)) (Contains (take n order)) heads
    (λ b reached. reached_passed h order numbering onward n b inside reached) have
