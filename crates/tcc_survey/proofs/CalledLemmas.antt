-- The usual names of contradicted reads.
use Rattle.std.proofs.Common.{◌≡◌, ◌≢◌, ◌<◌, ◌≤◌, ◌+◌, ◌⊎◌, ◌↔◌, inl, inr, ℕ, true, List, length, slice_index, min, refl, sym, ◌∙◌, subst, arith}
use Rattle.std.specs.List.{All, Contains, zip}
use Rattle.std.proofs.lemmas.Bool.{cases_eq}
use Rattle.std.proofs.lemmas.List.Elements.{All-filter, All-contains, All-weaker, All-contains_itself, filter_passes}
use Rattle.std.proofs.lemmas.List.{get_or_default}
use Rattle.std.proofs.lemmas.Slice.Zip.{length-zip}
use Rattle.tcc_txn.proofs.Lists.{in_filter}
use Rattle.tcc_reads.specs.History.{History, count, owner}
use Rattle.tcc_graph.specs.Relations.{causal_pair, IsSessionPair, IsReadsPair, reads_from}
use Rattle.tcc_graph.specs.Keys.{has_name, key_at, readers, numbers}
use Rattle.tcc_graph.specs.Readings.{AreReadingsByIndex}
use Rattle.tcc_graph.proofs.NameLemmas.{has_name-contains, contains-has_name}
use Rattle.tcc_graph.proofs.Pairs.{PairParts, pair_kinds, pair_from_reads, pair_parts}
use Rattle.tcc_graph.proofs.WriterLemmas.{numbers_below, number_in}
use Rattle.tcc_clocks.specs.Clocks.{IsOneOf}
use Rattle.tcc_clocks.proofs.Reaching.{same_session, session_rises}
use Rattle.tcc_survey.specs.declared.session_guarantees.Knowledge.{Knowledge}
use Rattle.tcc_survey.specs.declared.usual_name.UsualName.TheVariants as name
use Rattle.tcc_survey.specs.Names.{ReadsFrom, Fits, rank}
use Rattle.tcc_survey.specs.private.Seen.{IsSeen, latest_mark}
use Rattle.tcc_survey.specs.private.Spells.{IsAfterAny, IsKnowledge, IsSeenAfter, NoneBefore}
use Rattle.tcc_survey.proofs.SeenLemmas.{reader_some}

-- ---- who reads a key
pub readers_below : (h : History) (a : ℕ) (x : List ℕ) → All (λ c. c < count h) (readers h a x)
readers_below h a x = All-filter (λ b. has_name (reads_from h a b) x) (λ c. c < count h) (numbers h) (numbers_below h)

reader_reads : (h : History) (a : ℕ) (x : List ℕ) (c : ℕ) → a < count h → Contains (readers h a x) c → IsReadsPair h a c x
reader_reads h a x c from there = (
  from,
  All-contains (λ d. d < count h) (readers h a x) c (readers_below h a x) there,
  has_name-contains (reads_from h a c) x (All-contains (λ d. has_name (reads_from h a d) x ≡ true) (readers h a x) c
      (filter_passes (λ d. has_name (reads_from h a d) x) (numbers h)) there),
)

reads_reader : (h : History) (a : ℕ) (x : List ℕ) (c : ℕ) → IsReadsPair h a c x → Contains (readers h a x) c
reads_reader h a x c (from, to, there) =
    in_filter (λ d. has_name (reads_from h a d) x) (numbers h) c (number_in h c to) (contains-has_name (reads_from h a c) x there)

-- ---- the names
module _ (h : History) (c : ℕ) (x : List ℕ) (b : ℕ) where
  pub fits_fractured : NoneBefore h c x b 1 → (causal_pair h b c ≡ true) ↔ Fits h c x b name.FracturedRead
  fits_fractured before = (λ pair. go (pair_kinds h b c pair), λ w. pair_from_reads h b c w.0 w.1)
    where
      go : IsSessionPair h b c ⊎ ((y : List ℕ) × IsReadsPair h b c y) → ReadsFrom h b c
      go (inl p) = absurd (before name.ReadYourWrites (omega arith) p)
      go (inr w) = w

  module _ (below : b < count h) where
    pub fits_reads : NoneBefore h c x b 2 → IsAfterAny h (readers h b x) c ↔ Fits h c x b name.MonotonicReads
    fits_reads before = (λ w. go w.0 w.1 w.2, λ w. (w.0, reads_reader h b x w.0 w.1, inr w.2))
      where
        go : (e : ℕ) → Contains (readers h b x) e → (e ≡ c) ⊎ IsSessionPair h e c → Fits h c x b name.MonotonicReads
        go e there (inl same) =
            let pair : IsReadsPair h b c x = subst (λ (z : ℕ). IsReadsPair h b z x) same (reader_reads h b x e below there) in
            absurd (before name.FracturedRead (omega arith) (x, pair))
        go e there (inr p) = (e, reader_reads h b x e below there, p)

    pub fits_follow : (among : List ℕ) → among ≡ readers h b x
        → ((f : ℕ) × Contains among f × IsSeenAfter h c f) ↔ Fits h c x b name.WritesFollowReads
    fits_follow among are = (there, back)
      where
        there : (f : ℕ) × Contains among f × IsSeenAfter h c f → Fits h c x b name.WritesFollowReads
        there (f, listed, (d, (e, upto, reads), way)) =
            (e, d, upto, reads, (f, reader_reads h b x f below (subst (λ (rs : List ℕ). Contains rs f) are listed), way))

        back : Fits h c x b name.WritesFollowReads → (f : ℕ) × Contains among f × IsSeenAfter h c f
        back (e, d, upto, reads, (f, pair, way)) =
            (f, subst (λ (rs : List ℕ). Contains rs f) (sym are) (reads_reader h b x f pair), (d, (e, upto, reads), way))

-- none of the first n and one more
pub none_more : (P : ℕ → Type 0) (xs : List ℕ) (n : ℕ) → ((k : ℕ) → k < n → P (slice_index xs k) → ⊥) → (P (slice_index xs n) → ⊥)
    → (k : ℕ) → k < n + 1 → P (slice_index xs k) → ⊥
none_more P xs n before never k less is = go (cases_eq k n)
  where
    go : (k ≡ n) ⊎ (k ≢ n) → ⊥
    go (inl same) = never (subst (λ (z : ℕ). P (slice_index xs z)) same is)
    go (inr other) = before k (omega (arith, less, other)) is

-- none of them at all
pub none_listed : (P : ℕ → Type 0) (xs : List ℕ) (n : ℕ) → length xs ≤ n → ((k : ℕ) → k < n → P (slice_index xs k) → ⊥) → (f : ℕ) → Contains xs f → P f → ⊥
none_listed P xs n past none f (k, inside, here) is =
    none k (omega (arith, inside, past)) (subst P (sym (get_or_default xs k 0 f inside ∙ here)) is)

-- ---- what the marks say
module _ (k : Knowledge) (is : IsKnowledge k) where
  abbrev the : History
  the = k.graph.now

  abbrev last_in : ℕ → ℕ
  last_in l = latest_mark k.owners.now k.marks.now k.reader l

  -- who was seen, and has this session, is no later than the last that is marked there
  seen_upto : (l d : ℕ) → l < length k.marks.now → 0 < d → d < count k.graph.now → owner k.graph.now d ≡ l → IsSeen k.graph.now k.reader d
      → d ≤ latest_mark k.owners.now k.marks.now k.reader l
  seen_upto l d room some below owned seen = (is.latest l room).greatest d record { committed = some; below = below; owned = owned; meant = seen }

  module _ (b : ℕ) (some : 0 < b) (below : b < count k.graph.now) where
    abbrev session : ℕ
    session = slice_index k.owners.now b

    mine : slice_index k.owners.now b ≡ owner k.graph.now b
    mine = is.owned.each b some below

    -- a later one of the session that was seen
    upto_later : (d : ℕ) → IsSessionPair k.graph.now b d → IsSeen k.graph.now k.reader d → d ≤ last_in session
    upto_later d pair seen =
        let parts : PairParts k.graph.now b d = pair_parts k.graph.now b d pair in
        seen_upto session d (is.room b below) parts.some parts.to (sym (parts.same some) ∙ sym mine) seen

    pub fits_past : (b < last_in session) ↔ Fits k.graph.now k.reader (key_at k.graph.now k.key_index) b name.MonotonicWrites
    fits_past = (λ less. there less (is.latest session (is.room b below)).attained, back)
      where
        there : b < last_in session → (last_in session ≡ 0) ⊎ IsOneOf k.graph.now (IsSeen k.graph.now k.reader) session (last_in session)
            → Fits k.graph.now k.reader (key_at k.graph.now k.key_index) b name.MonotonicWrites
        there less (inl none) = absurd (omega (arith, less, none))
        there less (inr one) = (
          one.meant.0,
          last_in session,
          one.meant.1,
          one.meant.2,
          same_session k.graph.now is.numbered b (last_in session) some less one.below (sym mine ∙ sym one.owned),
        )

        back : Fits k.graph.now k.reader (key_at k.graph.now k.key_index) b name.MonotonicWrites → b < last_in session
        back (e, d, upto, reads, pair) =
            omega (arith, session_rises k.graph.now is.numbered b d pair, upto_later d pair (e, upto, reads))

    pub seen_after : (b ≤ last_in session) ↔ IsSeenAfter k.graph.now k.reader b
    seen_after = (λ upto. there upto (is.latest session (is.room b below)).attained (cases_eq b (last_in session)), back)
      where
        there : b ≤ last_in session → (last_in session ≡ 0) ⊎ IsOneOf k.graph.now (IsSeen k.graph.now k.reader) session (last_in session)
            → (b ≡ last_in session) ⊎ (b ≢ last_in session) → IsSeenAfter k.graph.now k.reader b
        there upto (inl none) kind = absurd (omega (arith, upto, none, some))
        there upto (inr one) (inl same) = (last_in session, one.meant, inl same)
        there upto (inr one) (inr other) = (
          last_in session,
          one.meant,
          inr (same_session k.graph.now is.numbered b (last_in session) some (omega (arith, upto, other)) one.below (sym mine ∙ sym one.owned)),
        )

        back : IsSeenAfter k.graph.now k.reader b → b ≤ last_in session
        back (d, seen, inl same) =
            let there : IsSeen k.graph.now k.reader b = subst (IsSeen k.graph.now k.reader) (sym same) seen in
            seen_upto session b (is.room b below) some below (sym mine) there
        back (d, seen, inr pair) = omega (arith, session_rises k.graph.now is.numbered b d pair, upto_later d pair seen)

    -- a writer of another session, not seen, that nobody reads from
    pub none_closer : (slice_index k.owners.now b ≢ slice_index k.owners.now k.reader) → (IsSeenAfter k.graph.now k.reader b → ⊥)
        → (from key_indices : List ℕ) → AreReadingsByIndex k.graph.now b from key_indices → length from ≡ 0
        → NoneBefore k.graph.now k.reader (key_at k.graph.now k.key_index) b (rank name.CausalChain)
    none_closer apart unseen from key_indices are none = go
      where
        unread : (f : ℕ) → IsReadsPair k.graph.now b f (key_at k.graph.now k.key_index) → ⊥
        unread f pair =
            let there : Contains (zip from key_indices) (f, k.key_index) = (are.each f k.key_index).1 (is.key, pair) in
            let long : length (zip from key_indices) ≡ min (length from) (length key_indices) = length-zip from key_indices in
            let some : there.0 < length (zip from key_indices) = there.1 in
            omega (arith, some, long, none, are.long)

        go : NoneBefore k.graph.now k.reader (key_at k.graph.now k.key_index) b 5
        go name.ReadYourWrites less pair =
            let parts : PairParts k.graph.now b k.reader = pair_parts k.graph.now b k.reader pair in
            apart (mine ∙ (parts.same some ∙ sym (is.owned.each k.reader is.some is.below)))
        go name.FracturedRead less reads = unseen (b, (k.reader, (is.some, inl refl), reads), inl refl)
        go name.MonotonicReads less (e, pair, before) = unread e pair
        go name.MonotonicWrites less (e, d, upto, reads, before) = unseen (d, (e, upto, reads), inr before)
        go name.WritesFollowReads less (e, d, upto, reads, (f, pair, way)) = unread f pair
        go name.CausalChain less fits = let no : 5 < 5 = less in omega (arith, no)

  -- the readers of a key are no `init`
  pub readers_some : (b : ℕ) (x : List ℕ) → b < count k.graph.now → All (λ f. 0 < f) (readers k.graph.now b x)
  readers_some b x below =
      All-weaker (Contains (readers k.graph.now b x)) (λ f. 0 < f) (λ f there. reader_some k.graph.now is.acyclic b f x (reader_reads k.graph.now b x f below there))
      (readers k.graph.now b x) (All-contains_itself (readers k.graph.now b x))
