-- Where the transactions of each session begin.
use Rattle.std.proofs.Common.{◌≡◌, ◌≢◌, ◌<◌, ◌≤◌, ◌+◌, ◌-◌, ◌⊎◌, ◌↔◌, inl, inr, ℕ, zero, suc, Bool, true, false, nat_lt, List, [], ◌∷◌, length, get_or, filter, drop, refl, ap, ◌∙◌, arith}
use Rattle.std.proofs.lemmas.Bool.{cases_Bool, cases_lt, cases_eq, cases_order, ltb-true, ltb-false}
use Rattle.tcc_reads.specs.History.{Entry, History, IsBySession, count, initial, owner}
use Rattle.std.proofs.lemmas.List.{length-drop, get_or-drop}
use Rattle.std.proofs.lemmas.List.Sums.{length-filter, count_by-le-length}
use Rattle.tcc_graph.specs.Relations.{IsSessionPair}
use Rattle.tcc_graph.proofs.Pairs.{pair_parts, lower_first}
use Rattle.tcc_judge.specs.Runs.{first_of}

abbrev is_before : ℕ → Entry → Bool
is_before session e = nat_lt e.owner session

abbrev DoRise : List Entry → Type 0
DoRise es = (i j : ℕ) → i < j → j < length es → (get_or es i initial).owner ≤ (get_or es j initial).owner

none_kept : (es : List Entry) (session : ℕ) → ((i : ℕ) → i < length es → session ≤ (get_or es i initial).owner) → length (filter (is_before session) es) ≡ 0
none_kept [] session high = refl
none_kept (e ∷ es) session high = go (cases_Bool (is_before session e)) (none_kept es session (λ i l. high (suc i) (omega arith)))
  where
    go : (is_before session e ≡ true) ⊎ (is_before session e ≡ false) → length (filter (is_before session) es) ≡ 0
        → length (filter (is_before session) (e ∷ es)) ≡ 0
    go (inl t) rest = absurd (omega (arith, ltb-true e.owner session t, high 0 (omega arith)))
    go (inr f) rest = rw f rest

kept_front : (es : List Entry) (session : ℕ) → DoRise es → (i : ℕ) → i < length es
    → (i < length (filter (is_before session) es)) ↔ ((get_or es i initial).owner < session)
kept_front [] session rise i l = absurd (omega arith)
kept_front (e ∷ es) session rise i l =
    go i l (kept_front es session (λ j k m n. rise (suc j) (suc k) (omega arith) (omega arith))) (cases_Bool (is_before session e))
  where
    Front : ℕ → Type 0
    Front i = (i < length (filter (is_before session) (e ∷ es))) ↔ ((get_or (e ∷ es) i initial).owner < session)

    low : is_before session e ≡ false → session ≤ e.owner
    low f = ltb-false e.owner session f

    above : is_before session e ≡ false → (j : ℕ) → j < length es → session ≤ (get_or es j initial).owner
    above f j m = omega (arith, low f, rise 0 (suc j) (omega arith) (omega arith))

    first : is_before session e ≡ false → length (filter (is_before session) (e ∷ es)) ≡ 0
    first f = rw f (none_kept es session (above f))

    go : (i : ℕ) → i < length (e ∷ es)
        → ((j : ℕ) → j < length es → (j < length (filter (is_before session) es)) ↔ ((get_or es j initial).owner < session))
        → (is_before session e ≡ true) ⊎ (is_before session e ≡ false)
        → (i < length (filter (is_before session) (e ∷ es))) ↔ ((get_or (e ∷ es) i initial).owner < session)
    go zero l rest (inl t) = ((λ _. ltb-true e.owner session t), λ _. rw t (omega arith))
    go (suc i) l rest (inl t) =
        let w = rest i (omega arith) in
        rw t ((λ m. w.0 (omega arith)), λ m. let n = w.1 m in omega arith)
    go zero l rest (inr f) = ((λ m. absurd (omega (arith, m, first f))), λ m. absurd (omega (arith, m, low f)))
    go (suc i) l rest (inr f) = ((λ m. absurd (omega (arith, m, first f))), λ m. absurd (omega (arith, m, above f i (omega arith))))

module _ (h : History) (numbered : IsBySession h.entries) where
  entries_rise : DoRise (drop 1 h.entries)
  entries_rise i j less below =
      omega (
        arith,
        (numbered (1 + i) (1 + j) (omega arith) (omega (arith, below, length-drop 1 h.entries))).0,
        ap (λ (e : Entry). e.owner) (get_or-drop 1 h.entries i initial),
        ap (λ (e : Entry). e.owner) (get_or-drop 1 h.entries j initial),
      )

  -- a transaction before the first of a session is of an earlier session, and the other way round
  pub front : (n session : ℕ) → 0 < n → n < count h → (n < first_of h session) ↔ (owner h n < session)
  front n session some below =
      ((λ l. omega (arith, w.0 (omega arith), here)), λ l. let m = w.1 (omega (arith, l, here)) in omega arith)
    where
      here : (get_or (drop 1 h.entries) (n - 1) initial).owner ≡ owner h n
      here =
          let is : 1 + (n - 1) ≡ n = omega arith in
          ap (λ (e : Entry). e.owner) (get_or-drop 1 h.entries (n - 1) initial ∙ ap (λ i. get_or h.entries i initial) is)

      w : (n - 1 < length (filter (is_before session) (drop 1 h.entries))) ↔ ((get_or (drop 1 h.entries) (n - 1) initial).owner < session)
      w = kept_front (drop 1 h.entries) session entries_rise (n - 1) (omega (arith, length-drop 1 h.entries))

  pub first_within : (session : ℕ) → 0 < count h → first_of h session ≤ count h
  first_within session some =
      omega (
        arith,
        length-filter (is_before session) (drop 1 h.entries),
        count_by-le-length (is_before session) (drop 1 h.entries),
        length-drop 1 h.entries,
      )

  -- what determines the first of a session
  pub first_is : (n session : ℕ) → 0 < n → n ≤ count h → ((m : ℕ) → 0 < m → m < n → owner h m < session)
      → ((m : ℕ) → n ≤ m → m < count h → session ≤ owner h m) → n ≡ first_of h session
  first_is n session some upto low high = go (cases_order n (first_of h session))
    where
      bound : first_of h session ≤ count h
      bound = first_within session (omega arith)

      go : (n ≡ first_of h session) ⊎ ((n < first_of h session) ⊎ (first_of h session < n)) → n ≡ first_of h session
      go (inl same) = same
      go (inr (inl less)) =
          let below : n < count h = omega (arith, bound) in
          absurd (omega (arith, (front n session some below).0 less, high n (omega arith) below))
      go (inr (inr more)) =
          let below : first_of h session < count h = omega arith in
          let above : 0 < first_of h session = omega arith in
          absurd (omega (arith, (front (first_of h session) session above below).1 (low (first_of h session) above more)))

  pub first_none : 0 < count h → 1 ≡ first_of h 0
  first_none some =
      first_is 1 0 (omega arith) (omega arith) (λ m above less. absurd (omega arith)) (λ m above below. omega arith)

  -- the first of the next session: the same where a session has no transactions; else where it ends
  pub first_empty : (n session : ℕ) → 0 < n → n ≤ count h → n ≡ first_of h session → (n < count h → owner h n ≢ session) → n ≡ first_of h (session + 1)
  first_empty n session some upto is apart =
      first_is n (session + 1) some upto (λ m above less. omega (arith, (front m session above (omega arith)).0 (omega arith))) high
    where
      here : n < count h → session + 1 ≤ owner h n
      here below = go (cases_lt (owner h n) session)
        where
          go : (owner h n < session) ⊎ (session ≤ owner h n) → session + 1 ≤ owner h n
          go (inl less) = absurd (omega (arith, (front n session some below).1 less, is))
          go (inr more) = let other = apart below in omega arith

      high : (m : ℕ) → n ≤ m → m < count h → session + 1 ≤ owner h m
      high m above below = go (cases_eq n m)
        where
          go : (n ≡ m) ⊎ (n ≢ m) → session + 1 ≤ owner h m
          go (inl same) = omega (arith, here (omega arith), ap (owner h) same)
          go (inr other) = omega (arith, here (omega arith), (numbered n m (omega arith) below).0)

  pub first_behind : (n end session : ℕ) → 0 < n → n < count h → n ≡ first_of h session → owner h n ≡ session → end ≤ count h
      → ((v : ℕ) → IsSessionPair h n v ↔ ((n + 1 ≤ v) × (v < end))) → n + 1 ≤ end → end ≡ first_of h (session + 1)
  first_behind n end session some below is owned upto pairs order =
      first_is end (session + 1) (omega arith) upto (λ m above less. low m above less (cases_order m n)) (λ m above under. high m above under)
    where
      low : (m : ℕ) → 0 < m → m < end → (m ≡ n) ⊎ ((m < n) ⊎ (n < m)) → owner h m < session + 1
      low m above less (inl same) = omega (arith, ap (owner h) same, owned)
      low m above less (inr (inl before)) = omega (arith, (front m session above (omega arith)).0 (omega arith))
      low m above less (inr (inr behind)) =
          omega (arith, (pair_parts h n m ((pairs m).1 (omega arith, less))).same some, owned)

      high : (m : ℕ) → end ≤ m → m < count h → session + 1 ≤ owner h m
      high m above under = go (cases_eq (owner h n) (owner h m))
        where
          ordered : n < m
          ordered = omega arith

          go : (owner h n ≡ owner h m) ⊎ (owner h n ≢ owner h m) → session + 1 ≤ owner h m
          go (inl same) =
              let pair = lower_first h n m some below (omega arith) under same ((numbered n m ordered under).1 same) in
              absurd (omega (arith, ((pairs m).0 pair).1))
          go (inr other) = omega (arith, (numbered n m ordered under).0, owned, other)

  pub firsts_rise : 0 < count h → (session : ℕ) → first_of h session ≤ first_of h (session + 1)
  firsts_rise some session = go (cases_lt (first_of h (session + 1)) (first_of h session))
    where
      go : (first_of h (session + 1) < first_of h session) ⊎ (first_of h session ≤ first_of h (session + 1)) → first_of h session ≤ first_of h (session + 1)
      go (inl less) =
          let above : 0 < first_of h (session + 1) = omega arith in
          let below : first_of h (session + 1) < count h = omega (arith, less, first_within session some) in
          let low = (front (first_of h (session + 1)) session above below).0 less in
          absurd (omega (arith, (front (first_of h (session + 1)) (session + 1) above below).1 (omega (arith, low))))
      go (inr more) = more
