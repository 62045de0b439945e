-- Rows of the kept transactions, where one of them comes before another now.
use Rattle.std.proofs.Common.{ℕ, ◌≡◌, ◌<◌, ◌≤◌, ◌⊎◌, inl, inr, true, false, List, [], length, nat_le, slice_index, get_or, refl, sym, ap, subst, ◌∙◌, arith}
use Rattle.std.specs.Prelude.{max, slice_index_or}
use Rattle.std.proofs.lemmas.Bool.{cases_lt, leb-false, leb-true}
use Rattle.std.proofs.lemmas.List.{get_or_default}
use Rattle.tcc_reads.specs.History.{Entry, History, count, owner, place}
use Rattle.tcc_graph.specs.Levels.{causally}
use Rattle.tcc_graph.specs.Routes.{HasCycle}
use Rattle.tcc_graph.specs.Tables.{row_of}
use Rattle.tcc_watch.specs.Delivered.{with_last}
use Rattle.tcc_watch.specs.private.Rows.{IsPlaceOf, IsRouted}
use Rattle.tcc_forget.specs.Covers.{LeadsTo}
use Rattle.tcc_forget.specs.declared.at.SessionPlace.{SessionPlace}
use Rattle.tcc_forget.specs.Slots.{AreSlots, AreWide, Reaches}
use Rattle.tcc_forget.specs.private.Linking.{AreBetween, AreRaised, GoesTo, IsRaisedRow, Keeps}
use Rattle.tcc_forget.proofs.Leading.{around, leads_join}

either : (a b : ℕ) → (max a b ≡ a) ⊎ (max a b ≡ b)
either a b = go (cases_lt a b)
  where
    go : (a < b) ⊎ (b ≤ a) → (max a b ≡ a) ⊎ (max a b ≡ b)
    go (inl less) = inr (omega arith)
    go (inr more) = inl (omega arith)

module _ (h : History) (e : Entry) (numbers : List ℕ) (ats : List SessionPlace) (old new : List (List ℕ)) (b a : ℕ) (slots : AreSlots h numbers ats)
    (was : AreBetween h e numbers old) (at_b : b < length numbers) (at_a : a < length numbers)
    (raised : AreRaised (slice_index_or ats a (record { session = 0; place = 0 })) (row_of old b) old new) where
  abbrev n : ℕ → ℕ
  n i = slice_index numbers i

  abbrev at : SessionPlace
  at = slice_index_or ats a (record { session = 0; place = 0 })

  -- one comparison of a row with the place of `a`
  to_at : (i : ℕ) → Reaches h (row_of old i) (n a) → GoesTo at (row_of old i)
  to_at i r =
      let s = slots.session a (record { session = 0; place = 0 }) at_a in
      let p = slots.place a (record { session = 0; place = 0 }) at_a in
      let row = ap (λ k. slice_index (row_of old i) k) s in
      omega (arith, r, p, row)

  from_at : (i : ℕ) → GoesTo at (row_of old i) → Reaches h (row_of old i) (n a)
  from_at i r =
      let s = slots.session a (record { session = 0; place = 0 }) at_a in
      let p = slots.place a (record { session = 0; place = 0 }) at_a in
      let row = ap (λ k. slice_index (row_of old i) k) s in
      omega (arith, r, p, row)

  inside : (i : ℕ) → i < length numbers → i < length old
  inside i below = omega (arith, below, was.long)

  -- what is in a row now was there, or it was in that of b, where a was in this one
  forth : (u i : ℕ) → i < length numbers → Reaches h (row_of new i) u
      → Reaches h (row_of old i) u ⊎ (Reaches h (row_of old b) u × Reaches h (row_of old i) (n a))
  forth u i below up = go (raised.each i (inside i below))
    where
      pick : GoesTo at (row_of old i) → (max (slice_index (row_of old b) (owner h u)) (slice_index (row_of old i) (owner h u)) ≡ slice_index (row_of old b) (owner h u))
          ⊎ (max (slice_index (row_of old b) (owner h u)) (slice_index (row_of old i) (owner h u)) ≡ slice_index (row_of old i) (owner h u))
          → slice_index (row_of new i) (owner h u) ≡ max (slice_index (row_of old b) (owner h u)) (slice_index (row_of old i) (owner h u))
          → Reaches h (row_of old i) u ⊎ (Reaches h (row_of old b) u × Reaches h (row_of old i) (n a))
      pick goes (inl by_b) is = inr (omega (arith, up, by_b, is), from_at i goes)
      pick goes (inr by_i) is = inl (omega (arith, up, by_i, is))

      go : IsRaisedRow at (row_of old b) (row_of old i) (row_of new i) → Reaches h (row_of old i) u ⊎ (Reaches h (row_of old b) u × Reaches h (row_of old i) (n a))
      go (inl (goes, each)) =
          pick goes (either (slice_index (row_of old b) (owner h u)) (slice_index (row_of old i) (owner h u))) (each (owner h u))
      go (inr (none, same)) = inl (subst (λ (r : List ℕ). Reaches h r u) same up)

  back : (u i : ℕ) → i < length numbers → Reaches h (row_of old i) u ⊎ (Reaches h (row_of old b) u × Reaches h (row_of old i) (n a)) → Reaches h (row_of new i) u
  back u i below = go (raised.each i (inside i below))
    where
      go : IsRaisedRow at (row_of old b) (row_of old i) (row_of new i) → Reaches h (row_of old i) u ⊎ (Reaches h (row_of old b) u × Reaches h (row_of old i) (n a))
          → Reaches h (row_of new i) u
      go (inl (goes, each)) (inl up) = omega (arith, up, each (owner h u))
      go (inl (goes, each)) (inr (to_b, also)) = omega (arith, to_b, each (owner h u))
      go (inr (none, same)) (inl up) = subst (λ (r : List ℕ). Reaches h r u) (sym same) up
      go (inr (none, same)) (inr (to_b, also)) = absurd (none (to_at i also))

  stays : Keeps h old new
  stays u i at_u below up = back u i (omega (arith, below, was.long)) (inl up)

  -- each row has its own transaction
  itself : (i : ℕ) → i < length numbers → Reaches h (row_of old i) (n i)
  itself i below = was.old (n i) i (slots.below i below) below (inl refl)

  linked : Reaches h (row_of new a) (n b)
  linked = back (n b) a at_a (inr (itself b at_b, itself a at_a))

  module _ (free : Reaches h (row_of old b) (n a) → ⊥) (link : IsRouted (causally (with_last h e)) (n b) (n a)) where
    joined : (u i k : ℕ) → u < count h → i < length numbers → k < length numbers → Reaches h (row_of new i) u → Reaches h (row_of new k) (n i)
        → Reaches h (row_of new k) u
    joined u i k at_u at_i at_k p q = back u k at_k (go (forth u i at_i p) (forth (n i) k at_k q))
      where
        go : Reaches h (row_of old i) u ⊎ (Reaches h (row_of old b) u × Reaches h (row_of old i) (n a))
            → Reaches h (row_of old k) (n i) ⊎ (Reaches h (row_of old b) (n i) × Reaches h (row_of old k) (n a))
            → Reaches h (row_of old k) u ⊎ (Reaches h (row_of old b) u × Reaches h (row_of old k) (n a))
        go (inl r) (inl s) = inl (was.joined u i k at_u at_i at_k r s)
        go (inl r) (inr (s, t)) = inr (was.joined u i b at_u at_i at_b r s, t)
        go (inr (r, s)) (inl t) = inr (r, was.joined (n a) i k (slots.below a at_a) at_i at_k s t)
        go (inr (r, s)) (inr (t, w)) = inr (r, w)

    apart : (i k : ℕ) → i < length numbers → k < length numbers → Reaches h (row_of new k) (n i) → Reaches h (row_of new i) (n k) → n i ≡ n k
    apart i k at_i at_k p q = go (forth (n i) k at_k p) (forth (n k) i at_i q)
      where
        go : Reaches h (row_of old k) (n i) ⊎ (Reaches h (row_of old b) (n i) × Reaches h (row_of old k) (n a))
            → Reaches h (row_of old i) (n k) ⊎ (Reaches h (row_of old b) (n k) × Reaches h (row_of old i) (n a)) → n i ≡ n k
        go (inl r) (inl s) = was.apart i k at_i at_k r s
        go (inl r) (inr (s, t)) =
            absurd (free (was.joined (n a) k b (slots.below a at_a) at_k at_b (was.joined (n a) i k (slots.below a at_a) at_i at_k t r) s))
        go (inr (r, s)) (inl t) =
            absurd (free (was.joined (n a) i b (slots.below a at_a) at_i at_b (was.joined (n a) k i (slots.below a at_a) at_k at_i s t) r))
        go (inr (r, s)) (inr (t, w)) = absurd (free (was.joined (n a) i b (slots.below a at_a) at_i at_b w r))

    sound : (u i : ℕ) → u < count h → i < length numbers → Reaches h (row_of new i) u → LeadsTo (with_last h e) u (n i)
    sound u i at_u below up = go (forth u i below up)
      where
        go : Reaches h (row_of old i) u ⊎ (Reaches h (row_of old b) u × Reaches h (row_of old i) (n a)) → LeadsTo (with_last h e) u (n i)
        go (inl r) = was.sound u i at_u below r
        go (inr (r, s)) =
            leads_join (with_last h e) u (n b) (n i) (was.sound u b at_u at_b r)
            (leads_join (with_last h e) (n b) (n a) (n i) (inr link) (was.sound (n a) i (slots.below a at_a) below s))

    placed : (i session : ℕ) → i < length new → IsPlaceOf h session (slice_index (row_of new i) session)
    placed i session below = go (raised.each i (omega (arith, below, raised.long)))
      where
        here : i < length old
        here = omega (arith, below, raised.long)

        pick : (max (slice_index (row_of old b) session) (slice_index (row_of old i) session) ≡ slice_index (row_of old b) session)
            ⊎ (max (slice_index (row_of old b) session) (slice_index (row_of old i) session) ≡ slice_index (row_of old i) session)
            → IsPlaceOf h session (max (slice_index (row_of old b) session) (slice_index (row_of old i) session))
        pick (inl by_b) = subst (λ (z : ℕ). IsPlaceOf h session z) (sym by_b) (was.placed b session (inside b at_b))
        pick (inr by_i) = subst (λ (z : ℕ). IsPlaceOf h session z) (sym by_i) (was.placed i session here)

        go : IsRaisedRow at (row_of old b) (row_of old i) (row_of new i) → IsPlaceOf h session (slice_index (row_of new i) session)
        go (inl (goes, each)) =
            subst (λ (z : ℕ). IsPlaceOf h session z) (sym (each session)) (pick (either (slice_index (row_of old b) session) (slice_index (row_of old i) session)))
        go (inr (free_of, same)) = subst (λ (r : List ℕ). IsPlaceOf h session (slice_index r session)) (sym same) (was.placed i session here)

    between : AreBetween h e numbers new
    between = record {
      long = raised.long ∙ was.long;
      placed = placed;
      old = λ u i at_u below leads. stays u i at_u (inside i below) (was.old u i at_u below leads);
      sound = sound;
      joined = joined;
      apart = apart;
    }

    pub settled_now : AreBetween h e numbers new × Keeps h old new × Reaches h (row_of new a) (n b)
    settled_now = (between, stays, linked)

module _ (h : History) (e : Entry) (numbers : List ℕ) (rows : List (List ℕ)) (b a : ℕ) (was : AreBetween h e numbers rows)
    (at_b : b < length numbers) (at_a : a < length numbers) (below : slice_index numbers a < count h) where
  pub settled_already : Reaches h (row_of rows a) (slice_index numbers b)
      → AreBetween h e numbers rows × Keeps h rows rows × Reaches h (row_of rows a) (slice_index numbers b)
  settled_already up = (was, (λ u i at_u inside p. p), up)

  pub settled_cycle : IsRouted (causally (with_last h e)) (slice_index numbers b) (slice_index numbers a) → Reaches h (row_of rows b) (slice_index numbers a)
      → HasCycle (causally (with_last h e))
  settled_cycle link up = around (with_last h e) (slice_index numbers b) (slice_index numbers a) link (was.sound (slice_index numbers a) b below at_b up)

-- what a comparison of a row says
abbrev pub at_of : List SessionPlace → ℕ → SessionPlace
at_of ats n = get_or ats n (record { session = 0; place = 0 })

module _ (h : History) (numbers : List ℕ) (ats : List SessionPlace) (rows : List (List ℕ)) (n i : ℕ) (d : List ℕ) (slots : AreSlots h numbers ats)
    (below : n < length numbers) (inside : i < length rows) where
  same_test : nat_le (at_of ats n).place (slice_index (get_or rows i d) (at_of ats n).session)
      ≡ nat_le (place h (slice_index numbers n)) (slice_index (row_of rows i) (owner h (slice_index numbers n)))
  same_test =
      let one = get_or_default rows i d [] inside in
      let two = slots.session n (record { session = 0; place = 0 }) below in
      let three = slots.place n (record { session = 0; place = 0 }) below in
      (λ k. nat_le (three k) (slice_index (one k) (two k)))

  pub goes_true : nat_le (at_of ats n).place (slice_index (get_or rows i d) (at_of ats n).session) ≡ true → Reaches h (row_of rows i) (slice_index numbers n)
  goes_true test = leb-true (place h (slice_index numbers n)) (slice_index (row_of rows i) (owner h (slice_index numbers n))) (sym same_test ∙ test)

  pub goes_false : nat_le (at_of ats n).place (slice_index (get_or rows i d) (at_of ats n).session) ≡ false
      → Reaches h (row_of rows i) (slice_index numbers n) → ⊥
  goes_false test up =
      let over = leb-false (place h (slice_index numbers n)) (slice_index (row_of rows i) (owner h (slice_index numbers n))) (sym same_test ∙ test) in
      absurd (omega (arith, over, up))

-- rows of one width stay so
pub wide_stay : (sessions : ℕ) (a : SessionPlace) (row : List ℕ) (old new : List (List ℕ)) → AreWide sessions old → AreRaised a row old new → AreWide sessions new
wide_stay sessions a row old new wide raised i below = raised.wide i ∙ wide i (omega (arith, below, raised.long))

-- and what one of a clock says
module _ (h : History) (numbers : List ℕ) (ats : List SessionPlace) (clock : List ℕ) (n : ℕ) (slots : AreSlots h numbers ats) (below : n < length numbers) where
  clock_test : nat_le (at_of ats n).place (slice_index clock (at_of ats n).session)
      ≡ nat_le (place h (slice_index numbers n)) (slice_index clock (owner h (slice_index numbers n)))
  clock_test =
      let two = slots.session n (record { session = 0; place = 0 }) below in
      let three = slots.place n (record { session = 0; place = 0 }) below in
      (λ k. nat_le (three k) (slice_index clock (two k)))

  pub clock_true : nat_le (at_of ats n).place (slice_index clock (at_of ats n).session) ≡ true → Reaches h clock (slice_index numbers n)
  clock_true test = leb-true (place h (slice_index numbers n)) (slice_index clock (owner h (slice_index numbers n))) (sym clock_test ∙ test)

  pub clock_false : nat_le (at_of ats n).place (slice_index clock (at_of ats n).session) ≡ false → Reaches h clock (slice_index numbers n) → ⊥
  clock_false test up =
      let over = leb-false (place h (slice_index numbers n)) (slice_index clock (owner h (slice_index numbers n))) (sym clock_test ∙ test) in
      absurd (omega (arith, over, up))
