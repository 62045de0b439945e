-- The order that runs encode has each transaction once, and every session pair in order.
use Rattle.std.proofs.Common.{◌≡◌, ◌≢◌, ◌<◌, ◌≤◌, ◌+◌, ◌==◌, ◌⊎◌, inl, inr, ℕ, zero, suc, cond, List, [], ◌∷◌, ◌++◌, length, length-append, get_or, append_assoc, refl, sym, ap, subst, ◌∙◌, arith}
use Rattle.std.specs.List.{All, Contains, range_with_len}
use Rattle.std.proofs.lemmas.Bool.{cases_eq, cases_lt, cases_order, eq-eqb, ne_eqb}
use Rattle.std.proofs.lemmas.List.{get_or_append_left, get_or_at, get_or_default, append-nil}
use Rattle.std.proofs.lemmas.List.Elements.{Contains-append_left, Contains-push}
use Rattle.tcc_reads.specs.History.{History, IsBySession, count, owner}
use Rattle.tcc_graph.specs.Relations.{IsSessionPair}
use Rattle.tcc_graph.specs.Orders.{Before, IsNumbering}
use Rattle.tcc_graph.proofs.Pairs.{pair_parts, session_below}
use Rattle.tcc_clocks.proofs.Reaching.{session_rises}
use Rattle.tcc_cert.specs.declared.large.Run.{Run}
use Rattle.tcc_judge.specs.Runs.{first_of, next_behind, told_from, told_of, order_of, AreWhole}
use Rattle.tcc_judge.proofs.Firsts.{front, first_within, firsts_rise}

module _ (h : History) (numbered : IsBySession h.entries) where
  -- `init`, or a transaction that its session has passed
  abbrev pub IsPlaced : (ℕ → ℕ) → ℕ → Type 0
  IsPlaced next n = (n ≡ 0) ⊎ ((0 < n) × (n < count h) × (n < next (owner h n)))

  -- the later one is not the earlier one, and does not come before it in its session
  abbrev pub AreApart : ℕ → ℕ → Type 0
  AreApart earlier later = (earlier ≢ later) × (IsSessionPair h later earlier → ⊥)

  -- an order so far, with the next transaction of each session
  pub record IsLaid (next : ℕ → ℕ) (order : List ℕ) : Type 0 where
    pub low : (session : ℕ) → first_of h session ≤ next session
    pub init : Contains order 0
    pub placed : (i : ℕ) → i < length order → IsPlaced next (get_or order i 0)
    pub each : (n : ℕ) → 0 < n → n < count h → n < next (owner h n) → Contains order n
    pub apart : (i j : ℕ) → i < j → j < length order → AreApart (get_or order i 0) (get_or order j 0)

  -- none yet
  pub laid_none : 0 < count h → IsLaid (first_of h) (0 ∷ [])
  laid_none some = record {
    low = λ s. omega arith;
    init = (0, omega arith, refl);
    placed = λ i l. placed i l;
    each = λ n above below less. absurd (omega (arith, (front h numbered n (owner h n) above below).0 less));
    apart = λ i j less l. absurd (omega arith);
  }
    where
      placed : (i : ℕ) → i < 1 → IsPlaced (first_of h) (get_or (0 ∷ []) i 0)
      placed zero l = inl refl
      placed (suc i) l = absurd (omega arith)

  -- the same with another function that says where each session goes on, if the two agree
  pub laid_same : (next other : ℕ → ℕ) (order : List ℕ) → ((s : ℕ) → next s ≡ other s) → IsLaid next order → IsLaid other order
  laid_same next other order same w = record {
    low = λ s. omega (arith, w.low s, same s);
    init = w.init;
    placed = λ i l. go (get_or order i 0) (w.placed i l);
    each = λ n above below less. w.each n above below (omega (arith, less, same (owner h n)));
    apart = w.apart;
  }
    where
      go : (n : ℕ) → IsPlaced next n → IsPlaced other n
      go n (inl none) = inl none
      go n (inr (above, below, less)) = inr (above, below, omega (arith, less, same (owner h n)))

  -- one more transaction
  module _ (next other : ℕ → ℕ) (order : List ℕ) (session n : ℕ) (here : n ≡ next session) (inside : n < first_of h (session + 1)) (some : 0 < count h)
      (mine : other session ≡ n + 1) (others : (s : ℕ) → s ≢ session → other s ≡ next s) (w : IsLaid next order) where
    above : 0 < n
    above = omega (arith, w.low session, here)

    below : n < count h
    below = omega (arith, inside, first_within h numbered (session + 1) some)

    owned : owner h n ≡ session
    owned = go (cases_lt (owner h n) session)
      where
        go : (owner h n < session) ⊎ (session ≤ owner h n) → owner h n ≡ session
        go (inl less) = absurd (omega (arith, (front h numbered n session above below).1 less, w.low session, here))
        go (inr more) = omega (arith, (front h numbered n (session + 1) above below).0 inside, more)

    grown : (s : ℕ) → next s ≤ other s
    grown s = go (cases_eq s session)
      where
        go : (s ≡ session) ⊎ (s ≢ session) → next s ≤ other s
        go (inl same) = omega (arith, ap next same, ap other same, mine, here)
        go (inr apart) = omega (arith, others s apart)

    longer : length (order ++ n ∷ []) ≡ length order + 1
    longer = length-append order (n ∷ [])

    old_at : (i : ℕ) → i < length order → get_or (order ++ n ∷ []) i 0 ≡ get_or order i 0
    old_at i l = get_or_append_left order (n ∷ []) 0 i l

    new_at : get_or (order ++ n ∷ []) (length order) 0 ≡ n
    new_at = get_or_at order n [] 0 (length order) refl

    still : (m : ℕ) → IsPlaced next m → IsPlaced other m
    still m (inl none) = inl none
    still m (inr (a, b, less)) = inr (a, b, omega (arith, less, grown (owner h m)))

    -- a transaction that is there already is another one, and does not come after this one in its session
    from_new : (m : ℕ) → IsPlaced next m → AreApart m n
    from_new m (inl none) = ((λ same. omega (arith, above, same, none)), λ pair. omega (arith, (pair_parts h n m pair).some, none))
    from_new m (inr (a, b, less)) = (other_one, λ pair. behind pair)
      where
        other_one : m ≢ n
        other_one same = omega (arith, less, ap next (ap (owner h) same ∙ owned), here, same)

        behind : IsSessionPair h n m → ⊥
        behind pair =
            omega (arith, less, ap next (sym ((pair_parts h n m pair).same above) ∙ owned), here, session_rises h numbered n m pair)

    pub laid_one : IsLaid other (order ++ n ∷ [])
    laid_one = record {
      low = λ s. omega (arith, w.low s, grown s);
      init = Contains-append_left order (n ∷ []) 0 w.init;
      placed = λ i l. placed i (omega (arith, l, longer)) (cases_lt i (length order));
      each = λ m a b less. each m a b less (cases_eq (owner h m) session) (cases_eq m n);
      apart = λ i j less l. apart i j less (omega (arith, l, longer)) (cases_lt j (length order));
    }
      where
        placed : (i : ℕ) → i < length order + 1 → (i < length order) ⊎ (length order ≤ i) → IsPlaced other (get_or (order ++ n ∷ []) i 0)
        placed i l (inl less) = rw (old_at i less) (still (get_or order i 0) (w.placed i less))
        placed i l (inr more) =
            let same : i ≡ length order = omega arith in
            rw (same, new_at) (inr (above, below, omega (arith, mine, ap other owned)))

        each : (m : ℕ) → 0 < m → m < count h → m < other (owner h m) → (owner h m ≡ session) ⊎ (owner h m ≢ session) → (m ≡ n) ⊎ (m ≢ n)
            → Contains (order ++ n ∷ []) m
        each m a b less own (inl same) = rw same (Contains-push order n)
        each m a b less (inl own) (inr apart) =
            Contains-append_left order (n ∷ []) m (w.each m a b (omega (arith, less, ap other own, ap next own, mine, here, apart)))
        each m a b less (inr away) (inr apart) =
            Contains-append_left order (n ∷ []) m (w.each m a b (omega (arith, less, others (owner h m) away)))

        apart : (i j : ℕ) → i < j → j < length order + 1 → (j < length order) ⊎ (length order ≤ j)
            → AreApart (get_or (order ++ n ∷ []) i 0) (get_or (order ++ n ∷ []) j 0)
        apart i j less l (inl under) = rw (old_at i (omega arith), old_at j under) (w.apart i j less under)
        apart i j less l (inr over) =
            let last : j ≡ length order = omega arith in
            let early : i < length order = omega arith in
            rw (old_at i early, last, new_at) (from_new (get_or order i 0) (w.placed i early))

  -- one more run
  abbrev pub moved : (ℕ → ℕ) → ℕ → ℕ → ℕ → ℕ
  moved next session k s = next s + cond (s == session) k 0

  moved_mine : (next : ℕ → ℕ) (session k : ℕ) → moved next session k session ≡ next session + k
  moved_mine next session k = rw (eq-eqb session session refl) refl

  moved_other : (next : ℕ → ℕ) (session k s : ℕ) → s ≢ session → moved next session k s ≡ next s
  moved_other next session k s apart = rw (ne_eqb s session apart) (omega arith)

  laid_run : (next : ℕ → ℕ) (order : List ℕ) (session k n : ℕ) → n ≡ next session → n + k ≤ first_of h (session + 1) → 0 < count h → IsLaid next order
      → IsLaid (moved next session k) (order ++ range_with_len n k)
  laid_run next order session zero n here fits some w =
      subst (IsLaid (moved next session 0)) (sym (append-nil order)) (laid_same next (moved next session 0) order (λ s. same s (cases_eq s session)) w)
    where
      same : (s : ℕ) → (s ≡ session) ⊎ (s ≢ session) → next s ≡ moved next session 0 s
      same s (inl e) = rw (eq-eqb s session e) (omega arith)
      same s (inr apart) = sym (moved_other next session 0 s apart)
  laid_run next order session (suc k) n here fits some w =
      let one = laid_one next (moved next session 1) order session n here (omega arith) some (omega (arith, moved_mine next session 1, here)) (moved_other next session 1) w in
      let more = laid_run (moved next session 1) (order ++ n ∷ []) session k (n + 1) (omega (arith, moved_mine next session 1, here)) (omega arith) some one in
      subst (IsLaid (moved next session (suc k))) (append_assoc order (n ∷ []) (range_with_len (n + 1) k))
      (laid_same (moved (moved next session 1) session k) (moved next session (suc k)) ((order ++ n ∷ []) ++ range_with_len (n + 1) k)
      (λ s. same s (cases_eq s session)) more)
    where
      same : (s : ℕ) → (s ≡ session) ⊎ (s ≢ session) → moved (moved next session 1) session k s ≡ moved next session (suc k) s
      same s (inl e) = rw (eq-eqb s session e) (omega arith)
      same s (inr apart) = rw (ne_eqb s session apart) (omega arith)

  -- all runs
  laid_all : (runs : List Run) (next : ℕ → ℕ) (order : List ℕ) → 0 < count h
      → ((s : ℕ) → next s + told_of runs s ≤ first_of h (s + 1)) → IsLaid next order
      → IsLaid (λ s. next s + told_of runs s) (order ++ told_from next runs)
  laid_all [] next order some fits w =
      subst (IsLaid (λ s. next s + 0)) (sym (append-nil order)) (laid_same next (λ s. next s + 0) order (λ s. omega arith) w)
  laid_all (run ∷ runs) next order some fits w =
      let here = fits run.session in
      let mine : told_of (run ∷ runs) run.session ≡ run.count + told_of runs run.session = rw (eq-eqb run.session run.session refl) refl in
      let one = laid_run next order run.session run.count (next run.session) refl (omega (arith, here, mine)) some w in
      let more = laid_all runs (next_behind next run) (order ++ range_with_len (next run.session) run.count) some (λ s. omega (arith, fits s)) one in
      subst (IsLaid (λ s. next s + told_of (run ∷ runs) s)) (append_assoc order (range_with_len (next run.session) run.count) (told_from (next_behind next run) runs))
      (laid_same (λ s. next_behind next run s + told_of runs s) (λ s. next s + told_of (run ∷ runs) s)
      ((order ++ range_with_len (next run.session) run.count) ++ told_from (next_behind next run) runs) (λ s. omega arith) more)

-- ---- runs that have as many transactions as the sessions
pub told_none : (runs : List Run) (n session : ℕ) → All (λ run. run.session < n) runs → n ≤ session → told_of runs session ≡ 0
told_none [] n session all past = refl
told_none (run ∷ runs) n session all past =
    let first = all 0 run (omega arith) in
    let other : session ≢ run.session = omega arith in
    rw (ne_eqb session run.session other) (omega (arith, told_none runs n session (λ k d l. all (suc k) d (omega arith)) past))

module _ (h : History) (numbered : IsBySession h.entries) (some : 0 < count h)
    (owned : (n : ℕ) → 0 < n → n < count h → owner h n < length h.sessions) (runs : List Run) (whole : AreWhole h runs) where
  laid : IsLaid h numbered (λ s. first_of h s + told_of runs s) (order_of h runs)
  laid = laid_all h numbered runs (first_of h) (0 ∷ []) some (λ s. fits s (cases_lt s (length h.sessions))) (laid_none h numbered some)
    where
      fits : (s : ℕ) → (s < length h.sessions) ⊎ (length h.sessions ≤ s) → first_of h s + told_of runs s ≤ first_of h (s + 1)
      fits s (inl inside) = omega (arith, whole.sizes s inside)
      fits s (inr past) = omega (arith, told_none runs (length h.sessions) s whole.sessions past, firsts_rise h numbered some s)

  pub told_numbering : IsNumbering (count h) (order_of h runs)
  told_numbering = record {
    below = λ k d l. rw (get_or_default (order_of h runs) k d 0 l) (below k (laid.placed k l));
    each = λ n l. each n l (cases_eq n 0);
    once = λ i j less l. (laid.apart i j less l).0;
  }
    where
      below : (k : ℕ) → IsPlaced h numbered (λ s. first_of h s + told_of runs s) (get_or (order_of h runs) k 0) → get_or (order_of h runs) k 0 < count h
      below k (inl none) = omega (arith, none, some)
      below k (inr (a, b, c)) = b

      each : (n : ℕ) → n < count h → (n ≡ 0) ⊎ (n ≢ 0) → Contains (order_of h runs) n
      each n l (inl same) = rw same laid.init
      each n l (inr other) =
          let above : 0 < n = omega arith in
          laid.each n above l (omega (arith, whole.sizes (owner h n) (owned n above l), (front h numbered n (owner h n + 1) above l).1 (omega arith)))

  pub told_sessions : (a b : ℕ) → IsSessionPair h a b → Before (order_of h runs) a b
  told_sessions a b pair = go (told_numbering.each a (session_below h a b pair).0) (told_numbering.each b (session_below h a b pair).1)
    where
      go : Contains (order_of h runs) a → Contains (order_of h runs) b → Before (order_of h runs) a b
      go (i, l, at_a) (j, m, at_b) = by (cases_order i j)
        where
          is_a : get_or (order_of h runs) i 0 ≡ a
          is_a = get_or_default (order_of h runs) i 0 a l ∙ at_a

          is_b : get_or (order_of h runs) j 0 ≡ b
          is_b = get_or_default (order_of h runs) j 0 b m ∙ at_b

          by : (i ≡ j) ⊎ ((i < j) ⊎ (j < i)) → Before (order_of h runs) a b
          by (inl same) =
              let one : a ≡ b = sym is_a ∙ (ap (λ k. get_or (order_of h runs) k 0) same ∙ is_b) in
              absurd (omega (arith, session_rises h numbered a b pair, one))
          by (inr (inl less)) = (i, j, less, m, is_a, is_b)
          by (inr (inr more)) =
              absurd ((laid.apart j i more l).1 (subst (λ (z : ℕ). IsSessionPair h z (get_or (order_of h runs) j 0)) (sym is_a)
              (subst (IsSessionPair h a) (sym is_b) pair)))
