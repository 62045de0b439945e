-- For an order that keeps sessions, its runs encode that order.
use Rattle.std.proofs.Common.{◌≡◌, ◌≢◌, ◌<◌, ◌≤◌, ◌+◌, ◌==◌, ◌&&◌, ◌⊎◌, inl, inr, ℕ, suc, true, false, cond, nat_lt, List, [], ◌∷◌, ◌++◌, length, length-append, get_or, append_assoc, refl, sym, ap, subst, ◌∙◌, arith}
use Rattle.std.specs.List.{AllByRecursion, Contains, range_with_len}
use Rattle.std.proofs.lemmas.Bool.{cases_Bool, cases_eq, cases_lt, cases_order, eq-eqb, ne_eqb, and_from, lt-ltb}
use Rattle.std.proofs.lemmas.List.{append-nil, get_or_append_left, get_or_at, get_or_default}
use Rattle.std.proofs.lemmas.List.Elements.{All-from_recursion}
use Rattle.tcc_reads.specs.History.{History, IsBySession, count, owner}
use Rattle.tcc_graph.specs.Levels.{judged}
use Rattle.tcc_graph.specs.Orders.{Before, IsCommitOrder, IsNumbering}
use Rattle.tcc_graph.specs.Relations.{IsSessionPair}
use Rattle.tcc_graph.specs.declared.level.Level.{Level}
use Rattle.tcc_graph.proofs.Numberings.{has_index, one_index}
use Rattle.tcc_graph.proofs.Pairs.{initial_pair, lower_first}
use Rattle.tcc_cert.specs.declared.large.Run.{Run}
use Rattle.tcc_cert.specs.RunsTold.{before_runs, order_claim_of, runs_told}
use Rattle.tcc_judge.specs.Runs.{first_of, next_behind, told_from, told_of, order_of, AreWhole}
use Rattle.tcc_judge.specs.Verdicts.{order_rules}
use Rattle.tcc_judge.proofs.Firsts.{front, first_within, firsts_rise}
use Rattle.tcc_judge.proofs.Laid.{IsLaid, IsPlaced, laid_none, laid_one}
use Rattle.tcc_judge.proofs.Ordered.{accepted_order}
use Rattle.tcc_rules.specs.Asked.{AllHold}

-- one transaction of a session
abbrev one_of : ℕ → Run
one_of session = record { session = session; count = 1 }

-- ---- what a run encodes
told_same : (f g : ℕ → ℕ) (runs : List Run) → ((s : ℕ) → f s ≡ g s) → told_from f runs ≡ told_from g runs
told_same f g [] same = refl
told_same f g (r ∷ runs) same =
    let rest =
    told_same (next_behind f r) (next_behind g r) runs (λ s. ap (λ n. n + cond (s == r.session) r.count 0) (same s)) in
    ap (λ n. range_with_len n r.count ++ told_from (next_behind f r) runs) (same r.session)
    ∙ ap (λ xs. range_with_len (g r.session) r.count ++ xs) rest

one_more : (k : ℕ) → 1 + k ≡ suc k
one_more k = omega arith

-- one transaction before a run of its session
told_joined : (next : ℕ → ℕ) (session : ℕ) (r : Run) (runs : List Run) → session ≡ r.session
    → told_from next (record { session = session; count = 1 + r.count } ∷ runs) ≡ next session ∷ told_from (next_behind next (one_of session)) (r ∷ runs)
told_joined next session r runs same =
    let begins : next_behind next (one_of session) r.session ≡ next session + 1 = rw (eq-eqb r.session session (sym same)) (ap (λ s. next s + 1) (sym same)) in
    let rest =
    told_same (next_behind next (record { session = session; count = 1 + r.count })) (next_behind (next_behind next (one_of session)) r) runs (λ s. each s (cases_eq s session)) in
    ap (λ k. range_with_len (next session) k ++ told_from (next_behind next (record { session = session; count = 1 + r.count })) runs) (one_more r.count)
    ∙ ap (λ xs. next session ∷ range_with_len (next session + 1) r.count ++ xs) rest
    ∙ ap (λ n. next session ∷ range_with_len n r.count ++ told_from (next_behind (next_behind next (one_of session)) r) runs) (sym begins)
  where
    each : (s : ℕ) → (s ≡ session) ⊎ (s ≢ session)
        → next_behind next (record { session = session; count = 1 + r.count }) s ≡ next_behind (next_behind next (one_of session)) r s
    each s (inl here) = rw (eq-eqb s session here, eq-eqb s r.session (here ∙ same)) (omega arith)
    each s (inr apart) = rw (ne_eqb s session apart, ne_eqb s r.session (λ e. apart (e ∙ sym same))) (omega arith)

told_first : (next : ℕ → ℕ) (session : ℕ) (runs : List Run)
    → told_from next (before_runs (one_of session) runs) ≡ next session ∷ told_from (next_behind next (one_of session)) runs
told_first next session [] = refl
told_first next session (r ∷ runs) = go (cases_eq session r.session)
  where
    go : (session ≡ r.session) ⊎ (session ≢ r.session)
        → told_from next (before_runs (one_of session) (r ∷ runs)) ≡ next session ∷ told_from (next_behind next (one_of session)) (r ∷ runs)
    go (inl same) = rw (eq-eqb session r.session same) (told_joined next session r runs same)
    go (inr apart) = rw (ne_eqb session r.session apart) refl

told_of_first : (session : ℕ) (runs : List Run) (s : ℕ) → told_of (before_runs (one_of session) runs) s ≡ cond (s == session) 1 0 + told_of runs s
told_of_first session [] s = refl
told_of_first session (r ∷ runs) s = go (cases_eq session r.session)
  where
    joined : session ≡ r.session → (s ≡ session) ⊎ (s ≢ session)
        → cond (s == session) (1 + r.count) 0 + told_of runs s ≡ cond (s == session) 1 0 + (cond (s == r.session) r.count 0 + told_of runs s)
    joined same (inl here) = rw (eq-eqb s session here, eq-eqb s r.session (here ∙ same)) (omega arith)
    joined same (inr apart) = rw (ne_eqb s session apart, ne_eqb s r.session (λ e. apart (e ∙ sym same))) (omega arith)

    go : (session ≡ r.session) ⊎ (session ≢ r.session)
        → told_of (before_runs (one_of session) (r ∷ runs)) s ≡ cond (s == session) 1 0 + told_of (r ∷ runs) s
    go (inl same) = rw (eq-eqb session r.session same) (joined same (cases_eq s session))
    go (inr apart) = rw (ne_eqb session r.session apart) refl

-- the runs are of the first sessions
abbrev AreOf : ℕ → List Run → Type 0
AreOf sessions runs = AllByRecursion (λ run. run.session < sessions) runs

of_first : (sessions session : ℕ) (runs : List Run) → session < sessions → AreOf sessions runs → AreOf sessions (before_runs (one_of session) runs)
of_first sessions session [] below all = (below, tt)
of_first sessions session (r ∷ runs) below all = go (cases_Bool (session == r.session))
  where
    go : ((session == r.session) ≡ true) ⊎ ((session == r.session) ≡ false) → AreOf sessions (before_runs (one_of session) (r ∷ runs))
    go (inl t) = rw t (below, all.1)
    go (inr f) = rw f (below, all)

-- ---- orders in which each transaction is the next of its session
module _ (h : History) where
  abbrev Follow : (ℕ → ℕ) → List ℕ → Type 0
  Follow next [] = Unit {0}
  Follow next (n ∷ order) = ((0 < n) × (n < count h) × (n ≡ next (owner h n))) × Follow (next_behind next (one_of (owner h n))) order

  -- where each session goes on after these transactions
  abbrev behind : (ℕ → ℕ) → List ℕ → ℕ → ℕ
  behind next [] = next
  behind next (n ∷ order) = behind (next_behind next (one_of (owner h n))) order

  is_there : (n : ℕ) → 0 < n → n < count h → (nat_lt 0 n && nat_lt n (count h)) ≡ true
  is_there n above below = and_from (nat_lt 0 n) (nat_lt n (count h)) (lt-ltb 0 n above) (lt-ltb n (count h) below)

  follow_told : (next : ℕ → ℕ) (order : List ℕ) → Follow next order → told_from next (runs_told h order) ≡ order
  follow_told next [] follow = refl
  follow_told next (n ∷ order) ((above, below, here), rest) =
      let first = told_first next (owner h n) (runs_told h order) in
      let more = follow_told (next_behind next (one_of (owner h n))) order rest in
      rw (is_there n above below) (first ∙ ap (λ m. m ∷ told_from (next_behind next (one_of (owner h n))) (runs_told h order)) (sym here) ∙ ap (λ xs. n ∷ xs) more)

  follow_comes : (next : ℕ → ℕ) (order : List ℕ) → Follow next order → (s : ℕ) → next s + told_of (runs_told h order) s ≡ behind next order s
  follow_comes next [] follow s = omega arith
  follow_comes next (n ∷ order) ((above, below, here), rest) s =
      let first = told_of_first (owner h n) (runs_told h order) s in
      let more = follow_comes (next_behind next (one_of (owner h n))) order rest s in
      rw (is_there n above below) (omega (arith, first, more))

  follow_sessions : (sessions : ℕ) → ((n : ℕ) → 0 < n → n < count h → owner h n < sessions) → (next : ℕ → ℕ) (order : List ℕ) → Follow next order
      → AreOf sessions (runs_told h order)
  follow_sessions sessions owned next [] follow = tt
  follow_sessions sessions owned next (n ∷ order) ((above, below, here), rest) =
      let more = follow_sessions sessions owned (next_behind next (one_of (owner h n))) order rest in
      rw (is_there n above below) (of_first sessions (owner h n) (runs_told h order) (owned n above below) more)

-- ---- a commit order is one
module _ (h : History) (numbered : IsBySession h.entries) (some : 0 < count h) (order : List ℕ) (numbering : IsNumbering (count h) order)
    (sessions : (a b : ℕ) → IsSessionPair h a b → Before order a b) where
  -- the next transaction of the order is the next of its session
  is_next : (next : ℕ → ℕ) (done : List ℕ) (n : ℕ) (rest : List ℕ) → done ++ n ∷ rest ≡ order → IsLaid h numbered next done
      → (0 < n) × (n < count h) × (n ≡ next (owner h n))
  is_next next done n rest split laid = (above (cases_eq n 0), below, here (cases_order n (next (owner h n))))
    where
      long : length order ≡ length done + (1 + length rest)
      long = omega (arith, ap length (sym split), length-append done (n ∷ rest))

      at : get_or order (length done) 0 ≡ n
      at = ap (λ xs. get_or xs (length done) 0) (sym split) ∙ get_or_at done n rest 0 (length done) refl

      below : n < count h
      below = subst (λ (m : ℕ). m < count h) at (numbering.below (length done) 0 (omega (arith, long)))

      -- a transaction before it is another one
      apart : (m : ℕ) → Contains done m → m ≢ n
      apart m (k, l, e) same =
          numbering.once k (length done) l (omega (arith, long))
          (ap (λ xs. get_or xs k 0) (sym split) ∙ get_or_append_left done (n ∷ rest) 0 k l ∙ get_or_default done k 0 m l ∙ e ∙ same ∙ sym at)

      above : (n ≡ 0) ⊎ (n ≢ 0) → 0 < n
      above (inl none) = absurd (apart 0 laid.init (sym none))
      above (inr other) = omega arith

      -- an earlier one of the session comes before it, so it was passed
      earlier : (m : ℕ) → m ≡ next (owner h n) → m < n → ⊥
      earlier m is less = go (sessions m n pair)
        where
          above_m : 0 < m
          above_m = omega (arith, laid.low (owner h n))

          below_m : m < count h
          below_m = omega (arith, below)

          owned : owner h m ≡ owner h n
          owned = owned_of (cases_lt (owner h m) (owner h n))
            where
              owned_of : (owner h m < owner h n) ⊎ (owner h n ≤ owner h m) → owner h m ≡ owner h n
              owned_of (inl low) = absurd (omega (arith, (front h numbered m (owner h n) above_m below_m).1 low, laid.low (owner h n)))
              owned_of (inr high) =
                  let end = (front h numbered n (owner h n + 1) (omega arith) below).1 (omega arith) in
                  omega (arith, (front h numbered m (owner h n + 1) above_m below_m).0 (omega arith), high)

          pair : IsSessionPair h m n
          pair = lower_first h m n above_m below_m (omega arith) below owned ((numbered m n less below).1 owned)

          passed : IsPlaced h numbered next m → ⊥
          passed (inl none) = omega (arith, none, above_m)
          passed (inr (a, b, before)) = omega (arith, before, ap next owned, is)

          go : Before order m n → ⊥
          go (i, j, first, within, at_m, at_n) =
              let last : j ≡ length done = one_index numbering j (length done) within (omega (arith, long)) (at_n ∙ sym at) in
              let in_done : get_or done i 0 ≡ m
              = sym (get_or_append_left done (n ∷ rest) 0 i (omega arith)) ∙ ap (λ xs. get_or xs i 0) split ∙ at_m in
              passed (subst (IsPlaced h numbered next) in_done (laid.placed i (omega arith)))

      here : (n ≡ next (owner h n)) ⊎ ((n < next (owner h n)) ⊎ (next (owner h n) < n)) → n ≡ next (owner h n)
      here (inl same) = same
      here (inr (inl less)) = absurd (apart n (laid.each n (above (cases_eq n 0)) below less) refl)
      here (inr (inr more)) = absurd (earlier (next (owner h n)) refl more)

  -- where a session goes on is not past its end
  abbrev IsWithin : (ℕ → ℕ) → Type 0
  IsWithin next = (s : ℕ) → next s ≤ first_of h (s + 1)

  within_one : (next : ℕ → ℕ) (n : ℕ) → 0 < n → n < count h → n ≡ next (owner h n) → IsWithin next → IsWithin (next_behind next (one_of (owner h n)))
  within_one next n above below here within s = go (cases_eq s (owner h n))
    where
      go : (s ≡ owner h n) ⊎ (s ≢ owner h n) → next_behind next (one_of (owner h n)) s ≤ first_of h (s + 1)
      go (inl same) =
          let end : n < first_of h (owner h n + 1) = (front h numbered n (owner h n + 1) above below).1 (omega arith) in
          rw (eq-eqb s (owner h n) same, same) (omega (arith, here))
      go (inr apart) = rw (ne_eqb s (owner h n) apart) (omega (arith, within s))

  laid_next : (next : ℕ → ℕ) (done : List ℕ) (n : ℕ) → 0 < n → n < count h → n ≡ next (owner h n) → IsLaid h numbered next done
      → IsLaid h numbered (next_behind next (one_of (owner h n))) (done ++ n ∷ [])
  laid_next next done n above below here laid =
      laid_one h numbered next (next_behind next (one_of (owner h n))) done (owner h n) n here
      ((front h numbered n (owner h n + 1) above below).1 (omega arith)) some
      (rw (eq-eqb (owner h n) (owner h n) refl) (omega (arith, here))) (λ s apart. rw (ne_eqb s (owner h n) apart) (omega arith)) laid

  record Followed (next : ℕ → ℕ) (rest : List ℕ) : Type 0 where
    follow : Follow h next rest
    laid : IsLaid h numbered (behind h next rest) order
    within : IsWithin (behind h next rest)

  followed : (next : ℕ → ℕ) (done rest : List ℕ) → done ++ rest ≡ order → IsLaid h numbered next done → IsWithin next → Followed next rest
  followed next done [] split laid within = record {
    follow = tt;
    laid = subst (IsLaid h numbered next) (sym (append-nil done) ∙ split) laid;
    within = within;
  }
  followed next done (n ∷ rest) split laid within =
      let is = is_next next done n rest split laid in
      let more =
      followed (next_behind next (one_of (owner h n))) (done ++ n ∷ []) rest (append_assoc done (n ∷ []) rest ∙ split)
      (laid_next next done n is.0 is.1 is.2 laid) (within_one next n is.0 is.1 is.2 within) in
      record { follow = (is, more.follow); laid = more.laid; within = more.within }

  -- `init` is the first
  begins : (xs : List ℕ) → xs ≡ order → (rest : List ℕ) × (0 ∷ rest ≡ order)
  begins [] none = let zero_there = numbering.each 0 some in absurd (omega (arith, zero_there.1, ap length none))
  begins (n ∷ rest) is = (rest, ap (λ m. m ∷ rest) (sym (zero_first (cases_eq n 0))) ∙ is)
    where
      long : length order ≡ 1 + length rest
      long = omega (arith, ap length (sym is))

      at : get_or order 0 0 ≡ n
      at = ap (λ xs. get_or xs 0 0) (sym is)

      zero_first : (n ≡ 0) ⊎ (n ≢ 0) → n ≡ 0
      zero_first (inl same) = same
      zero_first (inr other) =
          let below : n < count h = subst (λ (m : ℕ). m < count h) at (numbering.below 0 0 (omega (arith, long))) in
          let (i, j, less, within, at_zero, at_n) = sessions 0 n (initial_pair h 0 n refl some (omega arith) below) in
          let first : j ≡ 0 = one_index numbering j 0 within (omega (arith, long)) (at_n ∙ sym at) in
          absurd (omega arith)

  told_again : (owned : (n : ℕ) → 0 < n → n < count h → owner h n < length h.sessions) → (order_of h (runs_told h order) ≡ order) × AreWhole h (runs_told h order)
  told_again owned = go (begins order refl)
    where
      go : (rest : List ℕ) × (0 ∷ rest ≡ order) → (order_of h (runs_told h order) ≡ order) × AreWhole h (runs_told h order)
      go (rest, is) = (
        subst (λ (xs : List ℕ). order_of h (runs_told h xs) ≡ xs) is (ap (λ xs. 0 ∷ xs) (follow_told h (first_of h) rest w.follow)),
        subst (λ (xs : List ℕ). AreWhole h (runs_told h xs)) is record {
          sessions = All-from_recursion (λ run. run.session < length h.sessions) (runs_told h rest) (follow_sessions h (length h.sessions) owned (first_of h) rest w.follow);
          sizes = λ s inside. follow_comes h (first_of h) rest w.follow s ∙ ends s (cases_lt (behind h (first_of h) rest s) (first_of h (s + 1)));
        },
      )
        where
          w : Followed (first_of h) rest
          w = followed (first_of h) (0 ∷ []) rest is (laid_none h numbered some) (firsts_rise h numbered some)

          -- each session has reached its end, since all transactions are there
          ends : (s : ℕ) → (behind h (first_of h) rest s < first_of h (s + 1)) ⊎ (first_of h (s + 1) ≤ behind h (first_of h) rest s)
              → behind h (first_of h) rest s ≡ first_of h (s + 1)
          ends s (inr high) = omega (arith, high, w.within s)
          ends s (inl low) = absurd (missing (behind h (first_of h) rest s) refl low)
            where
              missing : (m : ℕ) → m ≡ behind h (first_of h) rest s → m < first_of h (s + 1) → ⊥
              missing m is low = placed (has_index numbering m below)
                where
                  above : 0 < m
                  above = omega (arith, w.laid.low s)

                  below : m < count h
                  below = omega (arith, first_within h numbered (s + 1) some)

                  owned_by : (owner h m < s) ⊎ (s ≤ owner h m) → owner h m ≡ s
                  owned_by (inl less) = absurd (omega (arith, (front h numbered m s above below).1 less, w.laid.low s))
                  owned_by (inr more) = omega (arith, (front h numbered m (s + 1) above below).0 low, more)

                  past : IsPlaced h numbered (behind h (first_of h) rest) m → ⊥
                  past (inl none) = omega (arith, none, above)
                  past (inr (a, b, less)) = omega (arith, less, ap (behind h (first_of h) rest) (owned_by (cases_lt (owner h m) s)), is)

                  placed : (i : ℕ) × (i < length order) × (get_or order i 0 ≡ m) → ⊥
                  placed (i, l, e) = past (subst (IsPlaced h numbered (behind h (first_of h) rest)) e (w.laid.placed i l))

-- a commit order keeps the rules, encoded by runs
pub own_order : (h : History) → IsBySession h.entries → 0 < count h → ((n : ℕ) → 0 < n → n < count h → owner h n < length h.sessions) → (level : Level)
    → (order : List ℕ) → IsCommitOrder (judged h level) order → AllHold (order_rules h (order_claim_of level h order))
own_order h numbered some owned level order commit =
    let again = told_again h numbered some order commit.numbering commit.sessions owned in
    (accepted_order h numbered some owned (order_claim_of level h order)).1 (
      record { transactions = refl; sessions = refl; whole = again.1 },
      subst (IsCommitOrder (judged h level)) (sym again.0) commit,
    )
