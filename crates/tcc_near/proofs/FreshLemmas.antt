-- One round's new numbers.
use Rattle.std.proofs.Common.{◌≡◌, ◌≢◌, ◌<◌, ◌≤◌, ◌+◌, ◌||◌, ◌↔◌, ◌⊎◌, ℕ, inl, inr, Bool, true, false, cond, List}
use Rattle.std.proofs.Common.{length, get_or, set, take, slice_index, refl, sym, ◌∙◌, arith, subst, eqb}
use Rattle.std.specs.List.{All, Contains}
use Rattle.std.proofs.lemmas.Bool.{cases_eq, false≢true, ne_eqb}
use Rattle.std.proofs.lemmas.List.{get_or-set_same, get_or-set_other}
use Rattle.std.proofs.lemmas.List.Elements.{All-weaker, All-contains_itself}
use Rattle.std.proofs.lemmas.List.Sums.{sum_by-set}
use Rattle.tcc_bits.specs.Bits.{is_marked, IsFresh}
use Rattle.tcc_near.specs.private.Breadth.{IsMarked, IsSearched, numbered, unnumbered, IsSeen, IsRound, IsLedTo}
use Rattle.tcc_graph.specs.Relations.{causal_pair}
use Rattle.tcc_graph.proofs.Pairs.{pair_kinds, pair_below}
use Rattle.tcc_reads.specs.History.{History, count}
use Rattle.tcc_near.proofs.BreadthLemmas.{known, marked_more, numbered_kept, numbered_unmarked, numbered_new}
use Rattle.tcc_near.specs.declared.walk_lengths.TheConstants.{NONE}
use Rattle.tcc_bits.proofs.Lists.{nothing_in, one_of_taken, still_taken, last_taken}

-- ---- spreading
-- nothing has led on yet
pub led_none : (h : History) (old fresh : List ℕ) (b : ℕ) → (is_marked old b ≡ true) ↔ IsLedTo h old (Contains (take 0 fresh)) b
led_none h old fresh b = (inl, back)
  where
    back : IsLedTo h old (Contains (take 0 fresh)) b → is_marked old b ≡ true
    back (inl m) = m
    back (inr (u, c, p)) = absurd (nothing_in u c)

-- one more leads on
pub led_more : (h : History) (old mid new fresh : List ℕ) (n : ℕ) → n < length fresh
    → ((b : ℕ) → (is_marked mid b ≡ true) ↔ IsLedTo h old (Contains (take n fresh)) b)
    → ((b : ℕ) → (is_marked new b ≡ true) ↔ ((is_marked mid b ≡ true) ⊎ (causal_pair h (get_or fresh n 0) b ≡ true))) → (b : ℕ)
    → (is_marked new b ≡ true) ↔ IsLedTo h old (Contains (take (n + 1) fresh)) b
led_more h old mid new fresh n inside before now b = (λ m. onward ((now b).0 m), back)
  where
    more : IsLedTo h old (Contains (take n fresh)) b → IsLedTo h old (Contains (take (n + 1) fresh)) b
    more (inl m) = inl m
    more (inr (u, c, p)) = inr (u, still_taken fresh n inside u c, p)

    onward : (is_marked mid b ≡ true) ⊎ (causal_pair h (get_or fresh n 0) b ≡ true) → IsLedTo h old (Contains (take (n + 1) fresh)) b
    onward (inl m) = more ((before b).0 m)
    onward (inr p) = inr (get_or fresh n 0, last_taken fresh n inside, p)

    by : (u : ℕ) → causal_pair h u b ≡ true → Contains (take n fresh) u ⊎ (get_or fresh n 0 ≡ u) → is_marked new b ≡ true
    by u p (inl was) = (now b).1 (inl ((before b).1 (inr (u, was, p))))
    by u p (inr is) = (now b).1 (inr (subst (λ (z : ℕ). causal_pair h z b ≡ true) (sym is) p))

    back : IsLedTo h old (Contains (take (n + 1) fresh)) b → is_marked new b ≡ true
    back (inl m) = (now b).1 (inl ((before b).1 (inl m)))
    back (inr (u, c, p)) = by u p (one_of_taken fresh n inside u c)

-- marks of transactions stay marks of transactions
pub led_inside : (h : History) (marks new : List ℕ) (IsOne : ℕ → Type 0) → ((b : ℕ) → is_marked marks b ≡ true → b < count h)
    → ((b : ℕ) → (is_marked new b ≡ true) ↔ IsLedTo h marks IsOne b) → (b : ℕ) → is_marked new b ≡ true → b < count h
led_inside h marks new IsOne inside led b mark = go ((led b).0 mark)
  where
    go : IsLedTo h marks IsOne b → b < count h
    go (inl was) = inside b was
    go (inr (u, one, p)) = (pair_below h u b (pair_kinds h u b p)).1

-- ---- numbering
-- whether a distance is none, as a number
abbrev without : ℕ → ℕ
without d = cond (eqb d NONE) 1 0

-- the numbers so far
pub record IsNumbered (old new numbers : List ℕ) (n : ℕ) (distance : ℕ) : Type 0 where
  pub long : length new ≡ length old
  pub each : (b : ℕ) → Contains (take n numbers) b → slice_index new b ≡ distance
  pub others : (b : ℕ) → (Contains (take n numbers) b → ⊥) → slice_index new b ≡ slice_index old b
  pub no_more : unnumbered new ≤ unnumbered old
  pub fewer : 0 < n → unnumbered new < unnumbered old

pub numbered_none : (old numbers : List ℕ) (distance : ℕ) → IsNumbered old old numbers 0 distance
numbered_none old numbers distance = record {
  long = refl;
  each = λ b h. absurd (nothing_in b h);
  others = λ b h. refl;
  no_more = omega arith;
  fewer = λ some. absurd (omega arith);
}

pub numbered_one : (old mid numbers : List ℕ) (n distance : ℕ) → IsNumbered old mid numbers n distance → n < length numbers → distance < NONE
    → (get_or numbers n 0 < length old) × (slice_index old (get_or numbers n 0) ≡ NONE) → length (set mid (get_or numbers n 0) distance) ≡ length mid
    → IsNumbered old (set mid (get_or numbers n 0) distance) numbers (n + 1) distance
numbered_one old mid numbers n distance before inside small at long = record {
  long = long ∙ before.long;
  each = λ b h. now b h (cases_eq b p);
  others = λ b h. other b h (cases_eq b p);
  no_more = omega (arith, here, gone, before.no_more);
  fewer = λ some. go (cases_eq n 0);
}
  where
    p : ℕ
    p = get_or numbers n 0

    within : p < length mid
    within = omega (arith, at.0, before.long)

    here : unnumbered (set mid p distance) + without (slice_index mid p) ≡ unnumbered mid + without distance
    here = sum_by-set without mid p distance 0 within

    gone : without distance ≡ 0
    gone = let away : distance ≢ NONE = λ e. absurd (omega arith) in rw (ne_eqb distance NONE away) refl

    now : (b : ℕ) → Contains (take (n + 1) numbers) b → (b ≡ p) ⊎ (b ≢ p) → slice_index (set mid p distance) b ≡ distance
    now b h (inl same) = rw same (get_or-set_same mid p distance 0 within)
    now b h (inr far) = get_or-set_other mid p b distance 0 far ∙ before.each b (was (one_of_taken numbers n inside b h))
      where
        was : Contains (take n numbers) b ⊎ (get_or numbers n 0 ≡ b) → Contains (take n numbers) b
        was (inl c) = c
        was (inr e) = absurd (far (sym e))

    other : (b : ℕ) → (Contains (take (n + 1) numbers) b → ⊥) → (b ≡ p) ⊎ (b ≢ p) → slice_index (set mid p distance) b ≡ slice_index old b
    other b h (inl same) = absurd (h (rw same (last_taken numbers n inside)))
    other b h (inr far) = get_or-set_other mid p b distance 0 far ∙ before.others b (λ c. h (still_taken numbers n inside b c))

    go : (n ≡ 0) ⊎ (n ≢ 0) → unnumbered (set mid p distance) < unnumbered old
    go (inr some) = omega (arith, here, gone, before.fewer (omega arith))
    go (inl first) =
        let empty : (Contains (take n numbers) p → ⊥) = λ c. nothing_in p (subst (λ (k : ℕ). Contains (take k numbers) p) first c) in
        let none : slice_index mid p ≡ NONE = before.others p empty ∙ at.1 in
        let one : without (slice_index mid p) ≡ 1 = rw none refl in
        omega (arith, here, gone, one, before.no_more)

-- ---- a round
module _ (row marks seen fresh : List ℕ) (inside : (b : ℕ) → is_marked marks b ≡ true → b < length row) (known : IsSeen row seen)
    (is : IsFresh seen marks fresh) where
  -- the new ones are marked and have no distance
  fresh_is : (b : ℕ) → Contains fresh b ↔ ((is_marked marks b ≡ true) × (slice_index row b ≡ NONE))
  fresh_is b = (λ c. onward ((is b).0 c), λ found. (is b).1 (found.0, (known b (inside b found.0)).1 found.1))
    where
      onward : (is_marked marks b ≡ true) × (is_marked seen b ≡ false) → (is_marked marks b ≡ true) × (slice_index row b ≡ NONE)
      onward found = (found.0, (known b (inside b found.0)).0 found.1)

  pub fresh_new : All (λ p. (p < length row) × (slice_index row p ≡ NONE)) fresh
  fresh_new = All-weaker (Contains fresh) (λ p. (p < length row) × (slice_index row p ≡ NONE)) one fresh (All-contains_itself fresh)
    where
      one : (p : ℕ) → Contains fresh p → (p < length row) × (slice_index row p ≡ NONE)
      one p c = let found = (fresh_is p).0 c in (inside p found.0, found.1)

  module _ (new : List ℕ) (distance : ℕ) (small : distance < NONE) (each : (b : ℕ) → Contains fresh b → slice_index new b ≡ distance)
      (others : (b : ℕ) → (Contains fresh b → ⊥) → slice_index new b ≡ slice_index row b) where
    numbered_so : (b : ℕ) → slice_index new b ≡ numbered row marks distance b
    numbered_so b = go (is_marked marks b) refl
      where
        by : is_marked marks b ≡ true → (slice_index row b ≡ NONE) ⊎ (slice_index row b ≢ NONE) → slice_index new b ≡ numbered row marks distance b
        by mark (inl none) = each b ((is b).1 (mark, (known b (inside b mark)).1 none)) ∙ sym (numbered_new row marks distance b mark none)
        by mark (inr some) = others b (λ c. some ((known b (inside b mark)).0 ((is b).0 c).1)) ∙ sym (numbered_kept row marks distance b some)

        go : (m : Bool) → is_marked marks b ≡ m → slice_index new b ≡ numbered row marks distance b
        go true mark = by mark (cases_eq (slice_index row b) NONE)
        go false mark = others b (λ c. false≢true (sym mark ∙ ((is b).0 c).0)) ∙ sym (numbered_unmarked row marks distance b mark)

    -- what is marked is seen now
    seen_so : (now : List ℕ) → length new ≡ length row → ((b : ℕ) → is_marked now b ≡ (is_marked seen b || is_marked marks b)) → IsSeen new now
    seen_so now long joined b below = (
      λ unseen. onward (is_marked seen b) refl (is_marked marks b) refl (sym (joined b) ∙ unseen),
      λ none. back none (is_marked seen b) refl (is_marked marks b) refl,
    )
      where
        within : b < length row
        within = omega (arith, long)

        onward : (s : Bool) → is_marked seen b ≡ s → (m : Bool) → is_marked marks b ≡ m → (is_marked seen b || is_marked marks b) ≡ false
            → slice_index new b ≡ NONE
        onward false s false m e = others b (λ c. false≢true (sym m ∙ ((is b).0 c).0)) ∙ (known b within).0 s
        onward true s m _ e = absurd (false≢true (sym e ∙ rw s refl))
        onward false s true m e = absurd (false≢true (sym e ∙ rw (s, m) refl))

        not_fresh : slice_index new b ≡ NONE → Contains fresh b → ⊥
        not_fresh none c = let at = each b c in omega arith

        back : slice_index new b ≡ NONE → (s : Bool) → is_marked seen b ≡ s → (m : Bool) → is_marked marks b ≡ m → is_marked now b ≡ false
        back none true s m _ =
            let before : slice_index row b ≡ NONE = sym (others b (not_fresh none)) ∙ none in
            absurd (false≢true (sym ((known b within).1 before) ∙ s))
        back none false s true m = absurd (not_fresh none ((is b).1 (m, s)))
        back none false s false m = joined b ∙ rw (s, m) refl

    pub round : (now : List ℕ) → length new ≡ length row → ((b : ℕ) → is_marked now b ≡ (is_marked seen b || is_marked marks b))
        → (0 < length fresh → unnumbered new < unnumbered row) → IsRound marks row new now fresh distance
    round now long joined fewer = record { each = numbered_so; fresh = fresh_is; seen = seen_so now long joined; fewer = fewer }

module _ {marks old new seen fresh : List ℕ} {distance : ℕ} (is : IsRound marks old new seen fresh distance) where
  -- if there are no new ones, all that is marked had a distance
  pub none_fresh : length fresh ≡ 0 → (b : ℕ) → is_marked marks b ≡ true → slice_index old b ≢ NONE
  none_fresh empty b mark none = let c = (is.fresh b).1 (mark, none) in omega (arith, c.1, empty)

  -- they are transactions
  pub fresh_below : {n : ℕ} → ((b : ℕ) → is_marked marks b ≡ true → b < n) → All (λ u. u < n) fresh
  fresh_below {n} inside = All-weaker (Contains fresh) (λ u. u < n) (λ u c. inside u ((is.fresh u).0 c).0) fresh (All-contains_itself fresh)

  -- they are those at this distance
  fresh_at : (u : ℕ) → slice_index old u ≢ distance → Contains fresh u ↔ (slice_index new u ≡ distance)
  fresh_at u far = (λ c. at ((is.fresh u).0 c), λ there. go there (cases_eq (slice_index old u) NONE) (is_marked marks u) refl)
    where
      at : (is_marked marks u ≡ true) × (slice_index old u ≡ NONE) → slice_index new u ≡ distance
      at found = is.each u ∙ numbered_new old marks distance u found.0 found.1

      go : slice_index new u ≡ distance → (slice_index old u ≡ NONE) ⊎ (slice_index old u ≢ NONE) → (m : Bool) → is_marked marks u ≡ m → Contains fresh u
      go there (inl none) true mark = (is.fresh u).1 (mark, none)
      go there (inl none) false mark = absurd (far (sym (is.each u ∙ numbered_unmarked old marks distance u mark) ∙ there))
      go there (inr some) m mark = absurd (far (sym (is.each u ∙ numbered_kept old marks distance u some) ∙ there))

-- what their pairs lead to is marked too
pub marked_round : {h : History} {a n : ℕ} {marks old new seen fresh next : List ℕ} → IsRound marks old new seen fresh (n + 1)
    → ((b : ℕ) → is_marked marks b ≡ true → b < count h)
    → IsSearched h a n old → IsMarked h a (n + 1) marks → IsSearched h a (n + 1) new → n + 1 < NONE
    → ((b : ℕ) → (is_marked next b ≡ true) ↔ IsLedTo h marks (Contains fresh) b) → IsMarked h a (n + 1 + 1) next
marked_round {h} {a} {n} {marks} {old} {new} {seen} {fresh} {next} is inside before marked searched small led =
    marked_more h a (n + 1) new marks next (Contains fresh) searched marked (omega arith) small (λ u below. fresh_at is u (far u below))
    (λ u c. inside u ((is.fresh u).0 c).0) led
  where
    far : (u : ℕ) → u < count h → slice_index old u ≢ n + 1
    far u below e = absurd (omega (arith, (known h a n old u before below (λ none. absurd (omega (arith, e, none)))).0, e))
