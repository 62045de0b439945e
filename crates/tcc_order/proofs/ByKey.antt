-- The readings of each transaction, key by key: what has to be before it by the readings of one key.
use Rattle.std.proofs.Common.{◌≡◌, ◌≢◌, ◌<◌, ◌≤◌, ◌+◌, ◌-◌, ◌⊎◌, inl, inr, ℕ, true, false, List, [], length, slice_index, refl, sym, ap, subst, ◌∙◌, arith}
use Rattle.std.specs.Prelude.{max, nat_le}
use Rattle.std.specs.List.{Contains}
use Rattle.std.proofs.lemmas.Bool.{cases_lt, cases_eq, cases_Bool, leb-true}
use Rattle.std.proofs.lemmas.List.{get_or_default}
use Rattle.std.proofs.lemmas.List.Elements.{All-contains}
use Rattle.tcc_reads.specs.History.{History, IsBySession, count, owner}
use Rattle.tcc_graph.specs.Relations.{IsReadsPair}
use Rattle.tcc_graph.specs.Keys.{keys, key_at, writers}
use Rattle.tcc_graph.specs.Walks.{IsReached}
use Rattle.tcc_graph.specs.Tables.{row_of}
use Rattle.tcc_graph.proofs.Walking.{pair_walk, reached_append}
use Rattle.tcc_graph.proofs.WriterLemmas.{writers_below}
use Rattle.tcc_clocks.specs.Clocks.{IsOneOf, IsBefore, AreOwners, AreLatestOf, AreClocks}
use Rattle.tcc_clocks.specs.declared.latest.TheConstants.{WIDE}
use Rattle.tcc_order.specs.private.CausalLinks.{IsLatestPast, AreLatestPast, IsOverwritten, IsLiftable, IsLifted, IsClock, IsCovered, AreEnough, Overwrites}
use Rattle.tcc_order.specs.private.News.{AreNews, AreNewsOf, IsTold, TellsNone}
use Rattle.tcc_order.proofs.NewsLemmas.{nothing_told}
use Rattle.tcc_order.specs.private.ByKey.{past_of, IsTop, AreAlike, IsLikeBefore, reader_in, key_index_in}
use Rattle.tcc_clocks.proofs.EntryLemmas.{clock_reaches}
use Rattle.tcc_clocks.proofs.Reaching.{same_session}
use Rattle.tcc_order.proofs.Needing.{IsUpTo, passed_enough}

-- ---- what clocks hold
module _ (table : List (List ℕ)) (readings : List (ℕ × ℕ)) (start : ℕ) (known : List ℕ) (k : ℕ) where
  pub top_none : IsTop table readings start start known k 0
  top_none = record { attained = inl refl; greatest = λ j above below. absurd (omega arith) }

  module _ (n old : ℕ) (from : start ≤ n) (is : IsTop table readings start n known k old) where
    still_top : (top : ℕ) → (top ≡ 0) ⊎ ((j : ℕ) × (start ≤ j) × (j < n) × (top ≡ slice_index (row_of table (reader_in readings j)) k))
        → (top ≡ 0) ⊎ ((j : ℕ) × (start ≤ j) × (j < n + 1) × (top ≡ slice_index (row_of table (reader_in readings j)) k))
    still_top top (inl none) = inl none
    still_top top (inr (j, above, below, at)) = inr (j, above, omega arith, at)

    -- one more of them
    pub top_more : (clock : ℕ) → slice_index (row_of table (reader_in readings n)) k ≡ clock → IsTop table readings start (n + 1) known k (max clock old)
    top_more clock here = record { attained = go (cases_lt old clock); greatest = λ j above below. most j above (cases_eq j n) below }
      where
        go : (old < clock) ⊎ (clock ≤ old)
            → (max clock old ≡ 0) ⊎ ((j : ℕ) × (start ≤ j) × (j < n + 1) × (max clock old ≡ slice_index (row_of table (reader_in readings j)) k))
        go (inl less) = inr (n, from, omega arith, omega (arith, here, less))
        go (inr more) = let same : max clock old ≡ old = omega (arith, more) in rw same (still_top old is.attained)

        most : (j : ℕ) → start ≤ j → (j ≡ n) ⊎ (j ≢ n) → j < n + 1 → slice_index (row_of table (reader_in readings j)) k ≤ max (max clock old) (slice_index known k)
        most j above (inl same) below =
            let at : slice_index (row_of table (reader_in readings j)) k ≡ clock
            = ap (λ (z : ℕ). slice_index (row_of table (reader_in readings z)) k) same ∙ here in
            omega (arith, at)
        most j above (inr other) below = omega (arith, is.greatest j above (omega (arith, other, below)))

    -- or one that says nothing new
    pub top_passed : row_of table (reader_in readings n) ≡ known → IsTop table readings start (n + 1) known k old
    top_passed same = record { attained = still_top old is.attained; greatest = λ j above below. most j above (cases_eq j n) below }
      where
        most : (j : ℕ) → start ≤ j → (j ≡ n) ⊎ (j ≢ n) → j < n + 1 → slice_index (row_of table (reader_in readings j)) k ≤ max old (slice_index known k)
        most j above (inl last) below =
            let at : slice_index (row_of table (reader_in readings j)) k ≡ slice_index known k
            = ap (λ (z : ℕ). slice_index (row_of table (reader_in readings z)) k) last ∙ ap (λ (r : List ℕ). slice_index r k) same in
            omega (arith, at)
        most j above (inr other) below = is.greatest j above (omega (arith, other, below))

-- the greatest number of each session of a block
module _ (table : List (List ℕ)) (readings : List (ℕ × ℕ)) (start : ℕ) (known : List ℕ) where
  pub tops_none : (row : List ℕ) → length row ≡ WIDE → ((k : ℕ) → k < length row → slice_index row k ≡ 0)
      → (length row ≡ WIDE) × ((k : ℕ) → k < WIDE → IsTop table readings start start known k (slice_index row k))
  tops_none row wide zero = (
    wide,
    λ k l. subst (λ (z : ℕ). IsTop table readings start start known k z) (sym (zero k (omega (arith, l, wide)))) (top_none table readings start known k),
  )

  module _ (n : ℕ) (from : start ≤ n) (old : List ℕ) (wide : length old ≡ WIDE)
      (is : (k : ℕ) → k < WIDE → IsTop table readings start n known k (slice_index old k)) where
    pub tops_more : (clock new : List ℕ) → row_of table (reader_in readings n) ≡ clock → length new ≡ length old
        → ((k : ℕ) → k < length old → slice_index new k ≡ max (slice_index clock k) (slice_index old k))
        → (length new ≡ WIDE) × ((k : ℕ) → k < WIDE → IsTop table readings start (n + 1) known k (slice_index new k))
    tops_more clock new here same each = (
      same ∙ wide,
      λ k l. subst (λ (z : ℕ). IsTop table readings start (n + 1) known k z) (sym (each k (omega (arith, l, wide))))
          (top_more table readings start known k n (slice_index old k) from (is k l) (slice_index clock k) (ap (λ r. slice_index r k) here)),
    )

    pub tops_passed : row_of table (reader_in readings n) ≡ known
        → (length old ≡ WIDE) × ((k : ℕ) → k < WIDE → IsTop table readings start (n + 1) known k (slice_index old k))
    tops_passed same = (wide, λ k l. top_passed table readings start known k n (slice_index old k) from (is k l) same)

-- what is known may be left out
pub top_past : (table : List (List ℕ)) (readings : List (ℕ × ℕ)) (start end : ℕ) (known : List ℕ) (k top : ℕ) → IsTop table readings start end known k top
    → IsTop table readings start end known k (past_of (slice_index known k) top)
top_past table readings start end known k top is = go (cases_Bool (nat_le top (slice_index known k)))
  where
    go : (nat_le top (slice_index known k) ≡ true) ⊎ (nat_le top (slice_index known k) ≡ false)
        → IsTop table readings start end known k (past_of (slice_index known k) top)
    go (inl t) =
        let held : top ≤ slice_index known k = leb-true top (slice_index known k) t in
        rw t record { attained = inl refl; greatest = λ j above less. omega (arith, held, is.greatest j above less) }
    go (inr f) = rw f is

-- ---- the readings of one transaction
-- c reads x at an index before n
abbrev pub IsReadBefore : History → List (ℕ × ℕ) → ℕ → ℕ → List ℕ → Type 0
IsReadBefore h readings n c x = (j : ℕ) × (j < n) × (reader_in readings j ≡ c) × (key_at h (key_index_in readings j) ≡ x)

module _ (h : History) (from : ℕ) (table : List (List ℕ)) (a : ℕ) (readings : List (ℕ × ℕ)) (are : AreNewsOf h from table a readings) where
  there : (j : ℕ) → j < length readings → Contains readings (reader_in readings j, key_index_in readings j)
  there j l = (j, l, get_or_default readings j (reader_in readings j, key_index_in readings j) (0, 0) l)

  reads : (j : ℕ) → j < length readings → (key_index_in readings j < length (keys h)) × IsReadsPair h a (reader_in readings j) (key_at h (key_index_in readings j))
  reads j l = are.sound (reader_in readings j) (key_index_in readings j) (there j l)

  pub reading_below : (j : ℕ) → j < length readings → reader_in readings j < count h
  reading_below j l = (reads j l).1.1

  pub reading_key : (j : ℕ) → j < length readings → key_index_in readings j < length (keys h)
  reading_key j l = (reads j l).0

  onward : (c : ℕ) (x : List ℕ) → IsReadBefore h readings (length readings) c x → IsReadsPair h a c x
  onward c x (j, l, reader, key) = rw (← reader, ← key) (reads j l).1

  back : (c : ℕ) (x : List ℕ) → IsReadsPair h a c x → IsReadBefore h readings (length readings) c x ⊎ TellsNone h from table a c x
  back c x pair = go (are.enough c x pair)
    where
      go : IsTold h from table a readings c x → IsReadBefore h readings (length readings) c x ⊎ TellsNone h from table a c x
      go (inl (p, name, (j, l, e))) =
          let at = get_or_default readings j (0, 0) (c, p) l ∙ e in
          inl (j, l, ap (λ z. z.0) at, ap (λ z. key_at h z.1) at ∙ name)
      go (inr tells) = inr tells

  pub read_all : (new : List ℕ) → AreLatestPast h (IsOverwritten h (IsReadBefore h readings (length readings)) a) from (row_of table a) new
      → AreLatestPast h (IsOverwritten h (IsReadsPair h a) a) from (row_of table a) new
  read_all new past = record {
    wide = past.wide;
    each = λ k l. record { attained = go k (slice_index new k) (past.each k l).attained; greatest = λ b one. most k l b one one.meant };
  }
    where
      widen : (b : ℕ) → IsOverwritten h (IsReadBefore h readings (length readings)) a b → IsOverwritten h (IsReadsPair h a) a b
      widen b (c, x, t, writer, apart, reached) = (c, x, onward c x t, writer, apart, reached)

      most : (k : ℕ) → k < WIDE → (b : ℕ) → IsOneOf h (IsOverwritten h (IsReadsPair h a) a) (from + k) b → IsOverwritten h (IsReadsPair h a) a b
          → b ≤ max (slice_index new k) (slice_index (row_of table a) k)
      most k l b one (c, x, pair, writer, apart, reached) = by (back c x pair)
        where
          by : IsReadBefore h readings (length readings) c x ⊎ TellsNone h from table a c x → b ≤ max (slice_index new k) (slice_index (row_of table a) k)
          by (inl t) =
              (past.each k l).greatest b
              record { committed = one.committed; below = one.below; owned = one.owned; meant = (c, x, t, writer, apart, reached) }
          by (inr tells) =
              let held : b ≤ slice_index (row_of table a) k
              = tells k b l record { committed = one.committed; below = one.below; owned = one.owned; meant = (writer, apart, reached) } in
              omega (arith, held)

      go : (k v : ℕ) → (v ≡ 0) ⊎ IsOneOf h (IsOverwritten h (IsReadBefore h readings (length readings)) a) (from + k) v
          → (v ≡ 0) ⊎ IsOneOf h (IsOverwritten h (IsReadsPair h a) a) (from + k) v
      go k v (inl none) = inl none
      go k v (inr one) = inr record { committed = one.committed; below = one.below; owned = one.owned; meant = widen v one.meant }

-- with no readings, what is past the known is nothing
pub read_none : (h : History) (from a : ℕ) (readings : List (ℕ × ℕ)) (row known : List ℕ) → length row ≡ WIDE
    → ((k : ℕ) → k < length row → slice_index row k ≡ 0) → AreLatestPast h (IsOverwritten h (IsReadBefore h readings 0) a) from known row
read_none h from a readings row known wide zero = record {
  wide = wide;
  each = λ k l. record { attained = inl (zero k (omega (arith, l, wide))); greatest = λ b one. absurd (none b one.meant) };
}
  where
    none : (b : ℕ) → IsOverwritten h (IsReadBefore h readings 0) a b → ⊥
    none b (c, x, (j, l, reader, key), writer, apart, reached) = omega arith

-- ---- the readings of one more key
module _ (h : History) (numbered : IsBySession h.entries) (owners : List ℕ) (known_owners : AreOwners h owners) (from a : ℕ) (readings : List (ℕ × ℕ))
    (table : List (List ℕ)) (clocks : AreClocks h from table) (below : (j : ℕ) → j < length readings → reader_in readings j < count h) where
  reads_clock : (j : ℕ) → j < length readings → AreLatestOf h (IsBefore h (reader_in readings j)) from (row_of table (reader_in readings j))
  reads_clock j l = clocks.each (reader_in readings j) (below j l) (below j l)

  module _ (start end : ℕ) (within : end ≤ length readings) (top known : List ℕ) (long : length top ≡ WIDE)
      (tops : (k : ℕ) → k < WIDE → IsTop table readings start end known k (slice_index top k)) where
    -- the number there is 0, or reaches one of the readers
    reaching : (k : ℕ) → k < WIDE
        → (slice_index top k ≡ 0)
        ⊎ ((j : ℕ) × (start ≤ j) × (j < end) × IsOneOf h (IsBefore h (reader_in readings j)) (from + k) (slice_index top k))
    reaching k l = go (tops k l).attained
      where
        some : (j : ℕ) → start ≤ j → j < end → slice_index top k ≡ slice_index (row_of table (reader_in readings j)) k
            → (slice_index (row_of table (reader_in readings j)) k ≡ 0)
            ⊎ IsOneOf h (IsBefore h (reader_in readings j)) (from + k) (slice_index (row_of table (reader_in readings j)) k)
            → (slice_index top k ≡ 0)
            ⊎ ((j : ℕ) × (start ≤ j) × (j < end) × IsOneOf h (IsBefore h (reader_in readings j)) (from + k) (slice_index top k))
        some j above less at (inl none) = inl (at ∙ none)
        some j above less at (inr one) = inr (j, above, less, rw at one)

        go : (slice_index top k ≡ 0) ⊎ ((j : ℕ) × (start ≤ j) × (j < end) × (slice_index top k ≡ slice_index (row_of table (reader_in readings j)) k))
            → (slice_index top k ≡ 0)
            ⊎ ((j : ℕ) × (start ≤ j) × (j < end) × IsOneOf h (IsBefore h (reader_in readings j)) (from + k) (slice_index top k))
        go (inl none) = inl none
        go (inr (j, above, less, at)) = some j above less at ((reads_clock j (omega (arith, less, within))).each k l).attained

    pub top_clock : IsClock owners from top
    top_clock k l = go (reaching k (omega (arith, l, long)))
      where
        go : (slice_index top k ≡ 0) ⊎ ((j : ℕ) × (start ≤ j) × (j < end) × IsOneOf h (IsBefore h (reader_in readings j)) (from + k) (slice_index top k))
            → (slice_index top k ≡ 0) ⊎ ((slice_index top k < length owners) × (slice_index owners (slice_index top k) ≡ from + k))
        go (inl none) = inl none
        go (inr (j, above, less, one)) =
            inr (omega (arith, one.below, known_owners.long), known_owners.each (slice_index top k) one.committed one.below ∙ one.owned)

    module _ (upto : start ≤ end) (x : List ℕ) (same : (j : ℕ) → start ≤ j → j < end → key_at h (key_index_in readings j) ≡ x) where
      still_over : (b : ℕ) → IsOverwritten h (IsReadBefore h readings start) a b → IsOverwritten h (IsReadBefore h readings end) a b
      still_over b (c, y, (j, l, reader, key), writer, apart, reached) = (c, y, (j, omega arith, reader, key), writer, apart, reached)

      still_one : (k v : ℕ) → (v ≡ 0) ⊎ IsOneOf h (IsOverwritten h (IsReadBefore h readings start) a) (from + k) v
          → (v ≡ 0) ⊎ IsOneOf h (IsOverwritten h (IsReadBefore h readings end) a) (from + k) v
      still_one k v (inl none) = inl none
      still_one k v (inr one) = inr record { committed = one.committed; below = one.below; owned = one.owned; meant = still_over v one.meant }

      -- b is overwritten by the readings before, or by the readings of this key
      abbrev IsNew : ℕ → Type 0
      IsNew b =
          IsOverwritten h (IsReadBefore h readings start) a b
          ⊎ (Contains (writers h x) b × (b ≢ a) × ((j : ℕ) × (start ≤ j) × (j < end) × IsReached h b (reader_in readings j)))

      split : (b : ℕ) → IsOverwritten h (IsReadBefore h readings end) a b → IsNew b
      split b (c, y, (j, l, reader, key), writer, apart, reached) = go (cases_lt j start)
        where
          go : (j < start) ⊎ (start ≤ j) → IsNew b
          go (inl early) = inl (c, y, (j, early, reader, key), writer, apart, reached)
          go (inr late) =
              let name : y ≡ x = sym key ∙ same j late l in
              inr (rw name at writer, apart, (j, late, l, rw reader reached))

      module _ (old new : List ℕ) (are : AreLatestPast h (IsOverwritten h (IsReadBefore h readings start) a) from known old) (wide : length new ≡ length old)
          (each : (k : ℕ) → k < length old → IsLifted owners from top (writers h x) a k (slice_index old k) (slice_index new k)) where
        -- a writer up to the number there has to be before a
        over : (k b : ℕ) → k < WIDE → IsLiftable owners from top (writers h x) a k b → IsOneOf h (IsOverwritten h (IsReadBefore h readings end) a) (from + k) b
        over k b l (some, apart, writer, owned, up) = go (reaching k l) (cases_eq b (slice_index top k))
          where
            small : b < count h
            small = All-contains (λ (z : ℕ). z < count h) (writers h x) b (writers_below h x) writer

            mine : owner h b ≡ from + k
            mine = sym (known_owners.each b some small) ∙ owned

            by : (j : ℕ) → start ≤ j → j < end → IsReached h b (reader_in readings j) → IsOneOf h (IsOverwritten h (IsReadBefore h readings end) a) (from + k) b
            by j above less reached = record {
              committed = some;
              below = small;
              owned = mine;
              meant = (reader_in readings j, x, (j, less, refl, same j above less), writer, apart, reached);
            }

            go : (slice_index top k ≡ 0) ⊎ ((j : ℕ) × (start ≤ j) × (j < end) × IsOneOf h (IsBefore h (reader_in readings j)) (from + k) (slice_index top k))
                → (b ≡ slice_index top k) ⊎ (b ≢ slice_index top k) → IsOneOf h (IsOverwritten h (IsReadBefore h readings end) a) (from + k) b
            go (inl none) kind = absurd (omega (arith, none, up, some))
            go (inr (j, above, less, one)) (inl at) = by j above less (rw at one.meant)
            go (inr (j, above, less, one)) (inr other) =
                let w = pair_walk h b (slice_index top k)
                (inl (same_session h numbered b (slice_index top k) some (omega (arith, up, other)) one.below (mine ∙ sym one.owned))) in
                by j above less (reached_append h b (slice_index top k) (reader_in readings j) (w.0, w.1) one.meant)

        pub read_more : AreLatestPast h (IsOverwritten h (IsReadBefore h readings end) a) from known new
        read_more = record { wide = wide ∙ are.wide; each = λ k l. step k l (each k (omega (arith, l, are.wide))) }
          where
            step : (k : ℕ) → k < WIDE → IsLifted owners from top (writers h x) a k (slice_index old k) (slice_index new k)
                → IsLatestPast h (IsOverwritten h (IsReadBefore h readings end) a) (from + k) (slice_index known k) (slice_index new k)
            step k l lift = record { attained = go lift.attained; greatest = λ b one. most b one (split b one.meant) }
              where
                go : (slice_index new k ≡ slice_index old k) ⊎ IsLiftable owners from top (writers h x) a k (slice_index new k)
                    → (slice_index new k ≡ 0) ⊎ IsOneOf h (IsOverwritten h (IsReadBefore h readings end) a) (from + k) (slice_index new k)
                go (inl e) = rw e (still_one k (slice_index old k) (are.each k l).attained)
                go (inr w) = inr (over k (slice_index new k) l w)

                by_top : (b : ℕ) → IsOneOf h (IsOverwritten h (IsReadBefore h readings end) a) (from + k) b → Contains (writers h x) b → b ≢ a
                    → b ≤ max (slice_index top k) (slice_index known k) → (b ≤ slice_index top k) ⊎ (slice_index top k < b)
                    → b ≤ max (slice_index new k) (slice_index known k)
                by_top b one writer apart up (inl under) =
                    omega (
                      arith,
                      lift.greatest b (one.committed, apart, writer, known_owners.each b one.committed one.below ∙ one.owned, under),
                    )
                by_top b one writer apart up (inr past) = omega (arith, up, past)

                which : (b t : ℕ) → (b ≤ t) ⊎ (t < b)
                which b t = turn (cases_lt t b)
                  where
                    turn : (t < b) ⊎ (b ≤ t) → (b ≤ t) ⊎ (t < b)
                    turn (inl less) = inr less
                    turn (inr more) = inl more

                most : (b : ℕ) → IsOneOf h (IsOverwritten h (IsReadBefore h readings end) a) (from + k) b → IsNew b
                    → b ≤ max (slice_index new k) (slice_index known k)
                most b one (inl before) =
                    omega (
                      arith,
                      lift.kept,
                      (are.each k l).greatest b record { committed = one.committed; below = one.below; owned = one.owned; meant = before },
                    )
                most b one (inr (writer, apart, (j, above, less, reached))) =
                    let low : b ≤ slice_index (row_of table (reader_in readings j)) k
                    = ((reads_clock j (omega (arith, less, within))).each k l).greatest b record {
                      committed = one.committed;
                      below = one.below;
                      owned = one.owned;
                      meant = reached;
                    } in
                    by_top b one writer apart (omega (arith, low, (tops k l).greatest j above less)) (which b (slice_index top k))

-- ---- a transaction whose readers are like those of the one before it
pub like_before : (owners : List ℕ) (table : List (List ℕ)) (rows : List (List (ℕ × ℕ))) (a before : ℕ) → 0 < before
    → (before ≡ 0) ⊎ ((before ≡ a - 1) × (slice_index owners before ≡ slice_index owners a)) → AreAlike table (row_of rows a) (row_of rows before)
    → IsLikeBefore owners table rows a
like_before owners table rows a before some (inl none) alike = absurd (omega arith)
like_before owners table rows a before some (inr w) alike = record {
  more = omega (arith, w.0);
  same = subst (λ (z : ℕ). slice_index owners z ≡ slice_index owners a) w.0 w.1;
  alike = subst (λ (z : ℕ). AreAlike table (row_of rows a) (row_of rows z)) w.0 alike;
}

module _ (h : History) (numbered : IsBySession h.entries) (owners : List ℕ) (known_owners : AreOwners h owners) (from a : ℕ) (low : a < count h)
    (table : List (List ℕ)) (clocks : AreClocks h from table) (rows : List (List (ℕ × ℕ))) (all : AreNews h from table rows)
    (like : IsLikeBefore owners table rows a) (kept : List (List ℕ)) (are : AreEnough h (Overwrites h) (IsUpTo h from a) kept) where
  less_one : a - 1 < a
  less_one = omega (arith, like.more)

  prior_low : a - 1 < count h
  prior_low = omega (arith, low)

  leads : IsReached h (a - 1) a
  leads =
      let own : owner h (a - 1) ≡ owner h a
      = sym (known_owners.each (a - 1) (omega (arith, like.more)) prior_low) ∙ (like.same ∙ known_owners.each a (omega (arith, like.more)) low) in
      let w = pair_walk h (a - 1) a (inl (same_session h numbered (a - 1) a (omega (arith, like.more)) less_one low own)) in
      (w.0, w.1)

  climb : (e : ℕ) → (e ≡ a - 1) ⊎ IsReached h e (a - 1) → IsReached h e a
  climb e (inl same) = subst (λ (z : ℕ). IsReached h z a) (sym same) leads
  climb e (inr reached) = reached_append h e (a - 1) a reached leads

  -- what is covered for the one before is covered here
  handed_on : (b : ℕ) → IsCovered h kept (a - 1) b → IsCovered h kept a b
  handed_on b (d, way, inl (e, there, up_to)) = (d, way, inl (e, there, inr (climb e up_to)))
  handed_on b (d, way, inr reached) = (d, way, inr (reached_append h d (a - 1) a reached leads))

  -- a reader of the key for the one before, with the same row
  other_reader : (c : ℕ) (x : List ℕ) → IsReadBefore h (row_of rows a) (length (row_of rows a)) c x
      → (e : ℕ) × IsReadsPair h (a - 1) e x × (row_of table c ≡ row_of table e)
  other_reader c x (j, l, reader, key) =
      let w = like.alike j l in
      let name : key_at h (key_index_in (row_of rows (a - 1)) j) ≡ x = ap (λ p. key_at h p) (sym w.1) ∙ key in (
        reader_in (row_of rows (a - 1)) j,
        subst (λ (y : List ℕ). IsReadsPair h (a - 1) (reader_in (row_of rows (a - 1)) j) y) name
            (reads h from table (a - 1) (row_of rows (a - 1)) (all.each (a - 1)) j w.0).1,
        ap (λ z. row_of table z) (sym reader) ∙ w.2,
      )

  alike_covers : (b : ℕ) → Overwrites h a b → 0 < b → from ≤ owner h b → owner h b < from + WIDE → IsCovered h kept a b
  alike_covers b (small, below, (c, x, pair, writer, apart, reached)) some high less = by (owner h b - from) (omega (arith, high, less)) (omega (arith, high))
    where
      by : (k : ℕ) → k < WIDE → owner h b ≡ from + k → IsCovered h kept a b
      by k l mine = go (cases_eq b (a - 1))
        where
          again : (e : ℕ) → IsReadsPair h (a - 1) e x → row_of table c ≡ row_of table e → IsReached h b e
          again e reading same =
              let top : b ≤ slice_index (row_of table c) k
              = ((clocks.each c pair.1 pair.1).each k l).greatest b record { committed = some; below = below; owned = mine; meant = reached } in
              let up : b ≤ slice_index (row_of table e) k = subst (λ (r : List ℕ). b ≤ slice_index r k) same top in
              clock_reaches h numbered e (from + k) (slice_index (row_of table e) k) b ((clocks.each e reading.1 reading.1).each k l) some below mine up

          held : b ≤ slice_index (row_of table a) k → IsCovered h kept a b
          held up = (b, inl refl, inr (clock_reaches h numbered a (from + k) (slice_index (row_of table a) k) b ((clocks.each a low low).each k l) some below mine up))

          told : b ≢ a - 1 → IsReadBefore h (row_of rows a) (length (row_of rows a)) c x ⊎ TellsNone h from table a c x → IsCovered h kept a b
          told other (inl t) =
              let w = other_reader c x t in
              handed_on b (are (a - 1) b (prior_low, below, (w.0, x, w.1, writer, other, again w.0 w.1 w.2)) some ((high, less), less_one))
          told other (inr tells) =
              held (tells k b l record { committed = some; below = below; owned = mine; meant = (writer, apart, reached) })

          go : (b ≡ a - 1) ⊎ (b ≢ a - 1) → IsCovered h kept a b
          go (inl same) = (b, inl refl, inr (subst (λ (z : ℕ). IsReached h z a) (sym same) leads))
          go (inr other) = told other (back h from table a (row_of rows a) (all.each a) c x pair)

  -- no more links have to be kept into it
  pub alike_enough : AreEnough h (Overwrites h) (IsUpTo h from (a + 1)) kept
  alike_enough d b over some (meant, small) = go (cases_eq d a)
    where
      go : (d ≡ a) ⊎ (d ≢ a) → IsCovered h kept d b
      go (inl at) =
          subst (λ (z : ℕ). IsCovered h kept z b) (sym at) (alike_covers b (subst (λ (z : ℕ). Overwrites h z b) at over) some meant.0 meant.1)
      go (inr other) = are d b over some (meant, omega (arith, small, other))

-- a transaction that is passed over
pub none_more : (h : History) → IsBySession h.entries → (owners : List ℕ) → AreOwners h owners → (from a : ℕ) → a < count h → (table : List (List ℕ))
    → AreClocks h from table → (rows : List (List (ℕ × ℕ))) → AreNews h from table rows → (row_of rows a ≡ []) ⊎ IsLikeBefore owners table rows a
    → (kept : List (List ℕ)) → AreEnough h (Overwrites h) (IsUpTo h from a) kept → AreEnough h (Overwrites h) (IsUpTo h from (a + 1)) kept
none_more h numbered owners known from a low table clocks rows all (inl nothing) kept are =
    passed_enough h numbered from a low table clocks (nothing_told h from table a (row_of rows a) (all.each a) nothing) kept are
none_more h numbered owners known from a low table clocks rows all (inr like) kept are =
    alike_enough h numbered owners known from a low table clocks rows all like kept are
