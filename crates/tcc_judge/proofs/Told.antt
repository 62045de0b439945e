-- An order, run by run.
use Rattle.std.proofs.Common.{◌≡◌, ◌≢◌, ◌<◌, ◌≤◌, ◌+◌, ◌==◌, ◌&&◌, ◌⊎◌, inl, inr, ℕ, zero, suc, true, false, cond, nat_lt, Option, None, Some, List, [], ◌∷◌, ◌++◌, length, length-append, get_or, set, take, drop, append_assoc, refl, sym, ap, subst, ◌∙◌, arith}
use Rattle.std.specs.List.{range_with_len}
use Rattle.std.proofs.lemmas.Bool.{cases_Bool, cases_eq, cases_lt, eq-eqb, ne_eqb, and_parts, and_from, lt-ltb, ltb-true}
use Rattle.std.proofs.lemmas.List.{append-nil, get_or_append_left, get_or_at, get_or-set_same, get_or-set_other, length-set, take-append-drop, drop_more}
use Rattle.std.proofs.lemmas.List.Elements.{All-push}
use Rattle.tcc_reads.specs.History.{History, IsBySession, count, owner, place}
use Rattle.tcc_graph.specs.Numbers.{at}
use Rattle.tcc_cert.specs.declared.large.Run.{Run}
use Rattle.tcc_judge.specs.Runs.{first_of, next_behind, told_from, told_of, order_of, AreWhole}
use Rattle.tcc_judge.specs.private.Decoding.{AreFirsts, IsTold}
use Rattle.tcc_judge.proofs.Firsts.{first_none, firsts_rise}

-- ---- where a transaction is
pub record StandsIn (h : History) (n : ℕ) (session : ℕ) : Type 0 where
  pub above : 0 < n
  pub below : n < count h
  pub owned : owner h n ≡ session

first_of_some : Option (ℕ × ℕ) → ℕ
first_of_some None = 0
first_of_some (Some p) = p.0

first_same : (a b c d : ℕ) → (let p : ℕ × ℕ = (a, b) in let q : ℕ × ℕ = (c, d) in Some p ≡ Some q) → a ≡ c
unfolding first_of_some
first_same a b c d e = ap first_of_some e

none_some : (p : ℕ × ℕ) → None ≡ Some p → ⊥
none_some p e = cc

pub at_some : (h : History) (n session m : ℕ) → (let p : ℕ × ℕ = (session, m) in at h n ≡ Some p) → StandsIn h n session
at_some h n session m is = go (cases_Bool (nat_lt 0 n && nat_lt n (count h)))
  where
    go : ((nat_lt 0 n && nat_lt n (count h)) ≡ true) ⊎ ((nat_lt 0 n && nat_lt n (count h)) ≡ false) → StandsIn h n session
    go (inl t) =
        let both = and_parts (nat_lt 0 n) (nat_lt n (count h)) t in
        let one = rw t at is in
        record { above = ltb-true 0 n both.0; below = ltb-true n (count h) both.1; owned = first_same (owner h n) (place h n) session m one }
    go (inr f) = let none = rw f at is in absurd (none_some (session, m) none)

pub at_none : (h : History) (n : ℕ) → at h n ≡ None → 0 < n → n < count h → ⊥
at_none h n is above below =
    let t : (nat_lt 0 n && nat_lt n (count h)) ≡ true = and_from (nat_lt 0 n) (nat_lt n (count h)) (lt-ltb 0 n above) (lt-ltb n (count h) below) in
    let some = rw t at is in
    none_some (owner h n, place h n) (sym some)

-- ---- the firsts of the first sessions
pub record AreFirstsTo (h : History) (end : ℕ) (firsts : List ℕ) (first : ℕ) : Type 0 where
  pub long : length firsts ≡ end
  pub each : (session : ℕ) → session < end → get_or firsts session 0 ≡ first_of h session
  pub here : first ≡ first_of h end
  pub some : 0 < first
  pub within : first ≤ count h

pub firsts_none : (h : History) → IsBySession h.entries → 0 < count h → AreFirstsTo h 0 [] 1
firsts_none h numbered some = record {
  long = refl;
  each = λ s l. absurd (omega arith);
  here = first_none h numbered some;
  some = omega arith;
  within = omega arith;
}

pub firsts_push : (h : History) (end first : ℕ) (firsts : List ℕ) → AreFirstsTo h end firsts first
    → (length (firsts ++ first ∷ []) ≡ end + 1) × ((session : ℕ) → session < end + 1 → get_or (firsts ++ first ∷ []) session 0 ≡ first_of h session)
firsts_push h end first firsts w = (omega (arith, length-append firsts (first ∷ []), w.long), λ s l. go s l (cases_lt s (length firsts)))
  where
    go : (s : ℕ) → s < end + 1 → (s < length firsts) ⊎ (length firsts ≤ s) → get_or (firsts ++ first ∷ []) s 0 ≡ first_of h s
    go s l (inl less) = get_or_append_left firsts (first ∷ []) 0 s less ∙ w.each s (omega (arith, less, w.long))
    go s l (inr more) =
        let same : s ≡ length firsts = omega (arith, l, more, w.long) in
        let last : s ≡ end = omega (arith, same, w.long) in
        get_or_at firsts first [] 0 s (sym same) ∙ (w.here ∙ ap (first_of h) (sym last))

-- ---- one more run
pub range_last : (a n : ℕ) → range_with_len a (n + 1) ≡ range_with_len a n ++ (a + n) ∷ []
range_last a zero = let e : a + 0 ≡ a = omega arith in rw e refl
range_last a (suc n) =
    let e : (a + 1) + n ≡ a + suc n = omega arith in
    let f : suc n + 1 ≡ suc (n + 1) = omega arith in
    rw f (ap (λ xs. a ∷ xs) (range_last (a + 1) n ∙ ap (λ k. range_with_len (a + 1) n ++ k ∷ []) e))

pub told_last : (next : ℕ → ℕ) (runs : List Run) (run : Run)
    → told_from next (runs ++ run ∷ []) ≡ told_from next runs ++ range_with_len (next run.session + told_of runs run.session) run.count
told_last next [] run =
    let e : next run.session + 0 ≡ next run.session = omega arith in
    rw e (append-nil (range_with_len (next run.session) run.count))
told_last next (r ∷ runs) run =
    let e : next_behind next r run.session + told_of runs run.session ≡ next run.session + told_of (r ∷ runs) run.session = omega arith in
    let rest = told_last (next_behind next r) runs run in
    ap (λ xs. range_with_len (next r.session) r.count ++ xs) (rest ∙ ap (λ n. told_from (next_behind next r) runs ++ range_with_len n run.count) e)
    ∙ sym (append_assoc (range_with_len (next r.session) r.count) (told_from (next_behind next r) runs)
    (range_with_len (next run.session + told_of (r ∷ runs) run.session) run.count))

abbrev of_run : Run → ℕ → ℕ
of_run run session = cond (session == run.session) run.count 0

pub told_of_append : (runs later : List Run) (session : ℕ) → told_of (runs ++ later) session ≡ told_of runs session + told_of later session
told_of_append [] later session = omega arith
told_of_append (r ∷ runs) later session = omega (arith, told_of_append runs later session)

own_count : (run : Run) → of_run run run.session ≡ run.count
own_count run = rw (eq-eqb run.session run.session refl) refl

other_count : (run : Run) (session : ℕ) → session ≢ run.session → of_run run session ≡ 0
other_count run session apart = rw (ne_eqb session run.session apart) refl

pub nothing_told : (h : History) → IsBySession h.entries → 0 < count h → (firsts next order : List ℕ) → AreFirsts h firsts → length next ≡ length h.sessions
    → ((session : ℕ) → session < length h.sessions → get_or next session 0 ≡ get_or firsts session 0) → order ≡ 0 ∷ [] → IsTold h [] firsts next order
nothing_told h numbered some firsts next order are long same is = record {
  begins = are;
  sessions = λ k d l. absurd (omega arith);
  long = long;
  goes_on = λ s l. omega (arith, same s l, are.each s (omega arith));
  within = λ s l. omega (arith, same s l, are.each s (omega arith), firsts_rise h numbered some s);
  so_far = is;
}

module _ (h : History) (runs : List Run) (run : Run) (firsts next order : List ℕ) (w : IsTold h runs firsts next order) where
  pub told_more : run.session < length next → get_or next run.session 0 + run.count ≤ get_or firsts (run.session + 1) 0
      → IsTold h (runs ++ run ∷ []) firsts (set next run.session (get_or next run.session 0 + run.count))
      (order ++ range_with_len (get_or next run.session 0) run.count)
  told_more inside fits = record {
    begins = w.begins;
    sessions = All-push (λ r. r.session < length h.sessions) runs run w.sessions within;
    long = length-set next run.session (get_or next run.session 0 + run.count) ∙ w.long;
    goes_on = λ s l. goes_on s l (cases_eq s run.session);
    within = λ s l. stays s l (cases_eq s run.session);
    so_far = order_is;
  }
    where
      within : run.session < length h.sessions
      within = omega (arith, w.long)

      counted : (s : ℕ) → told_of (runs ++ run ∷ []) s ≡ told_of runs s + (of_run run s + 0)
      counted s = told_of_append runs (run ∷ []) s

      here : get_or (set next run.session (get_or next run.session 0 + run.count)) run.session 0 ≡ get_or next run.session 0 + run.count
      here = get_or-set_same next run.session (get_or next run.session 0 + run.count) 0 inside

      away : (s : ℕ) → s ≢ run.session → get_or (set next run.session (get_or next run.session 0 + run.count)) s 0 ≡ get_or next s 0
      away s apart = get_or-set_other next run.session s (get_or next run.session 0 + run.count) 0 apart

      goes_on : (s : ℕ) → s < length h.sessions → (s ≡ run.session) ⊎ (s ≢ run.session)
          → get_or (set next run.session (get_or next run.session 0 + run.count)) s 0 ≡ first_of h s + told_of (runs ++ run ∷ []) s
      goes_on s l (inl same) =
          rw same (omega (arith, here, w.goes_on run.session within, counted run.session, own_count run))
      goes_on s l (inr apart) = omega (arith, away s apart, w.goes_on s l, counted s, other_count run s apart)

      stays : (s : ℕ) → s < length h.sessions → (s ≡ run.session) ⊎ (s ≢ run.session)
          → get_or (set next run.session (get_or next run.session 0 + run.count)) s 0 ≤ first_of h (s + 1)
      stays s l (inl same) =
          rw same (omega (arith, here, fits, w.begins.each (run.session + 1) (omega (arith, within))))
      stays s l (inr apart) = omega (arith, away s apart, w.within s l)

      order_is : order ++ range_with_len (get_or next run.session 0) run.count ≡ order_of h (runs ++ run ∷ [])
      order_is =
          rw (w.so_far, w.goes_on run.session within) (ap (λ xs. 0 ∷ xs) (sym (told_last (first_of h) runs run)))

  -- fewer transactions are left than the run has
  pub not_told : (run.session < length next → get_or next run.session 0 + run.count ≤ get_or firsts (run.session + 1) 0 → ⊥) → (later : List Run)
      → AreWhole h (runs ++ run ∷ later) → ⊥
  not_told apart later whole = apart (omega (arith, inside, w.long)) fits
    where
      inside : run.session < length h.sessions
      inside =
          subst (λ (r : Run). r.session < length h.sessions) (get_or_at runs run later run (length runs) refl)
          (whole.sessions (length runs) run (omega (arith, length-append runs (run ∷ later))))

      fits : get_or next run.session 0 + run.count ≤ get_or firsts (run.session + 1) 0
      fits =
          omega (
            arith,
            w.goes_on run.session inside,
            whole.sizes run.session inside,
            told_of_append runs (run ∷ later) run.session,
            own_count run,
            w.begins.each (run.session + 1) (omega (arith, inside)),
          )

-- ---- whether all sessions have reached their ends
pub whole_from : (h : History) (runs : List Run) (firsts next order : List ℕ) (i : ℕ) → length next ≤ i → IsTold h runs firsts next order
    → ((session : ℕ) → session < i → session < length next → get_or firsts (session + 1) 0 ≡ get_or next session 0) → AreWhole h runs
whole_from h runs firsts next order i all w ends = record {
  sessions = w.sessions;
  sizes = λ s l.
      let inside : s < length next = omega (arith, l, w.long) in
      sym (w.goes_on s l) ∙ (sym (ends s (omega arith) inside) ∙ w.begins.each (s + 1) (omega (arith, l)));
}

pub not_whole : (h : History) (runs : List Run) (firsts next order : List ℕ) (session : ℕ) → session < length next
    → get_or firsts (session + 1) 0 ≢ get_or next session 0 → IsTold h runs firsts next order → AreWhole h runs → ⊥
not_whole h runs firsts next order session inside apart w whole =
    let l : session < length h.sessions = omega (arith, w.long) in
    apart (w.begins.each (session + 1) (omega (arith, l)) ∙ (sym (whole.sizes session l) ∙ sym (w.goes_on session l)))

-- ---- the runs of a list, up to one of them
pub split_at : (runs : List Run) (i : ℕ) (run : Run) → i < length runs → get_or runs i run ≡ run → runs ≡ take i runs ++ run ∷ drop (i + 1) runs
split_at runs i run l is = sym (take-append-drop i runs) ∙ ap (λ rest. take i runs ++ rest) (drop_more runs i run l ∙ ap (λ r. r ∷ drop (i + 1) runs) is)
