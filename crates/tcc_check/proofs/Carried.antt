-- Runs of session pairs, as far as they are found.
use Rattle.std.proofs.Common.{◌≡◌, ◌<◌, ◌≤◌, ◌+◌, ◌-◌, ◌==◌, ℕ, min, true, ◌&&◌, ◌⊎◌, inl, inr}
use Rattle.std.proofs.Common.{List, [], ◌∷◌, ◌++◌, length, get_or, arith, nat_lt, refl, sym, ap}
use Rattle.std.proofs.Common.{subst, ◌∙◌}
use Rattle.std.proofs.lemmas.Bool.{cases_eq, cases_lt, or_cases, and_parts, and_from, or_left, or_right, ltb-true, lt-ltb, eqb-true, eq-eqb}
use Rattle.std.proofs.lemmas.List.{get_or_append_left, get_or_push, length_push}
use Rattle.tcc_reads.specs.History.{History, count, owner, place}
use Rattle.tcc_graph.specs.Relations.{session_pair, IsSessionPair}
use Rattle.tcc_graph.proofs.Pairs.{session_below}
use Rattle.tcc_check.specs.private.Runs.{IsInRun, HasRuns, AreRuns}
use Rattle.tcc_check.specs.private.Weights.{unlinked}
use Rattle.tcc_check.specs.private.Searches.{HoldsBelow, IsFirstBelow, IsLongRun, IsLongRunTo}
use Rattle.tcc_check.proofs.First.{holds_below_more}

-- `init` comes before every other transaction
pub init_pair : (h : History) (v : ℕ) → 0 < v → v < count h → IsSessionPair h 0 v
init_pair h v some below =
    and_from _ _ (and_from _ _ (lt-ltb 0 (count h) (omega arith)) (lt-ltb v (count h) below)) (or_left _ _ (and_from _ _ refl (lt-ltb 0 v some)))

-- of two transactions after `init`, in one session
abbrev AreOwned : History → ℕ → ℕ → Type 0
AreOwned h a b = (0 < a) × (0 < b) × (owner h a ≡ owner h b) × (place h a < place h b)

pair_parts : (h : History) (a b : ℕ) → IsSessionPair h a b → ((a ≡ 0) × (0 < b)) ⊎ AreOwned h a b
pair_parts h a b p =
    go (or_cases ((a == 0) && nat_lt 0 b) (nat_lt 0 a && nat_lt 0 b && (owner h a == owner h b) && nat_lt (place h a) (place h b))
    (and_parts (nat_lt a (count h) && nat_lt b (count h)) _ p).1)
  where
    owned : (nat_lt 0 a && nat_lt 0 b && (owner h a == owner h b) && nat_lt (place h a) (place h b)) ≡ true → AreOwned h a b
    owned e =
        let placed = and_parts (nat_lt 0 a && nat_lt 0 b && (owner h a == owner h b)) (nat_lt (place h a) (place h b)) e in
        let one = and_parts (nat_lt 0 a && nat_lt 0 b) (owner h a == owner h b) placed.0 in
        let some = and_parts (nat_lt 0 a) (nat_lt 0 b) one.0 in
        (ltb-true 0 a some.0, ltb-true 0 b some.1, eqb-true (owner h a) (owner h b) one.1, ltb-true (place h a) (place h b) placed.1)

    go : (((a == 0) && nat_lt 0 b) ≡ true) ⊎ ((nat_lt 0 a && nat_lt 0 b && (owner h a == owner h b) && nat_lt (place h a) (place h b)) ≡ true)
        → ((a ≡ 0) × (0 < b)) ⊎ AreOwned h a b
    go (inl e) = let parts = and_parts (a == 0) (nat_lt 0 b) e in inl (eqb-true a 0 parts.0, ltb-true 0 b parts.1)
    go (inr e) = inr (owned e)

owned_pair : (h : History) (a b : ℕ) → a < count h → b < count h → AreOwned h a b → IsSessionPair h a b
owned_pair h a b l m (some, more, same, less) =
    let one : (owner h a == owner h b) ≡ true = eq-eqb (owner h a) (owner h b) same in
    and_from _ _ (and_from _ _ (lt-ltb a (count h) l) (lt-ltb b (count h) m))
    (or_right _ _ (and_from _ _ (and_from _ _ (and_from _ _ (lt-ltb 0 a some) (lt-ltb 0 b more)) one) (lt-ltb (place h a) (place h b) less)))

-- session order goes on from one pair to the next
pub pair_onward : (h : History) (a b c : ℕ) → IsSessionPair h a b → IsSessionPair h b c → IsSessionPair h a c
pair_onward h a b c p q = go (pair_parts h a b p) (pair_parts h b c q)
  where
    go : ((a ≡ 0) × (0 < b)) ⊎ AreOwned h a b → ((b ≡ 0) × (0 < c)) ⊎ AreOwned h b c → IsSessionPair h a c
    go (inl first) (inl second) = absurd (omega (arith, first.1, second.0))
    go (inl first) (inr second) = rw first.0 (init_pair h c second.1 (session_below h b c q).1)
    go (inr first) (inl second) = absurd (omega (arith, first.1, second.0))
    go (inr first) (inr second) =
        owned_pair h a c (session_below h a b p).0 (session_below h b c q).1 (first.0, second.1, first.2 ∙ second.2, omega (arith, first.3, second.3))

-- the runs of the first numbers, the last of which goes on from `begin`
pub record AreRunsTo (e : ℕ) (h : History) (begin : ℕ) (begins : List ℕ) : Type 0 where
  pub long : length begins ≡ e
  pub within : (v : ℕ) → v < e → get_or begins v 0 ≤ v
  pub onward : (v : ℕ) → v + 1 < e → (get_or begins (v + 1) 0 ≡ v + 1) ⊎ (get_or begins (v + 1) 0 ≡ get_or begins v 0)
  pub pairs : (u v : ℕ) → v < e → IsInRun (get_or begins v 0) v u → IsSessionPair h u v
  pub whole : (u v : ℕ) → v < e → IsSessionPair h u v → IsInRun (get_or begins v 0) v u
  pub last : (v : ℕ) → e ≡ v + 1 → begin ≡ get_or begins v 0

pub no_runs : (h : History) → AreRunsTo 0 h 0 []
no_runs h = record {
  long = refl;
  within = λ v l. absurd (omega arith);
  onward = λ v l. absurd (omega arith);
  pairs = λ u v l p. absurd (omega arith);
  whole = λ u v l p. absurd (omega arith);
  last = λ v e. absurd (omega (arith, e));
}

-- one more run, whose numbers are known to be pairs with the last
module _ (e : ℕ) (h : History) (old begin : ℕ) (begins : List ℕ) (was : AreRunsTo e h old begins) (within : begin ≤ e)
    (onward : (v : ℕ) → e ≡ v + 1 → (begin ≡ e) ⊎ (begin ≡ get_or begins v 0)) (pairs : (u : ℕ) → IsInRun begin e u → IsSessionPair h u e)
    (all : (u : ℕ) → IsSessionPair h u e → IsInRun begin e u) where
  here : get_or (begins ++ begin ∷ []) e 0 ≡ begin
  here = get_or_push begins begin 0 e (was.long)

  before : (v : ℕ) → v < e → get_or (begins ++ begin ∷ []) v 0 ≡ get_or begins v 0
  before v l = get_or_append_left begins (begin ∷ []) 0 v (omega (arith, was.long))

  pub one_more_run : AreRunsTo (e + 1) h begin (begins ++ begin ∷ [])
  one_more_run = record {
    long = length_push begins begin ∙ ap (λ k. k + 1) was.long;
    within = λ v l. inside v l (cases_eq v e);
    onward = λ v l. on v l (cases_eq (v + 1) e);
    pairs = λ u v l p. pair u v l p (cases_eq v e);
    whole = λ u v l p. whole u v l p (cases_eq v e);
    last = λ v is. ends v (omega (arith, is));
  }
    where
      whole : (u v : ℕ) → v < e + 1 → IsSessionPair h u v → (v ≡ e) ⊎ (v ≡ e → ⊥) → IsInRun (get_or (begins ++ begin ∷ []) v 0) v u
      whole u v l p (inl same) =
          let run : IsInRun begin e u = all u (subst (λ (z : ℕ). IsSessionPair h u z) same p) in
          let at : get_or (begins ++ begin ∷ []) v 0 ≡ begin = ap (λ k. get_or (begins ++ begin ∷ []) k 0) same ∙ here in
          subst (λ (z : ℕ). IsInRun z v u) (sym at) (subst (λ (z : ℕ). IsInRun begin z u) (sym same) run)
      whole u v l p (inr apart) = subst (λ (z : ℕ). IsInRun z v u) (sym (before v (omega (arith, l, apart)))) (was.whole u v (omega (arith, l, apart)) p)

      ends : (v : ℕ) → v ≡ e → begin ≡ get_or (begins ++ begin ∷ []) v 0
      ends v same = rw same (sym here)

      inside : (v : ℕ) → v < e + 1 → (v ≡ e) ⊎ (v ≡ e → ⊥) → get_or (begins ++ begin ∷ []) v 0 ≤ v
      inside v l (inl same) = rw (same, here) within
      inside v l (inr apart) = rw (before v (omega arith)) (was.within v (omega arith))

      on : (v : ℕ) → v + 1 < e + 1 → (v + 1 ≡ e) ⊎ (v + 1 ≡ e → ⊥)
          → (get_or (begins ++ begin ∷ []) (v + 1) 0 ≡ v + 1) ⊎ (get_or (begins ++ begin ∷ []) (v + 1) 0 ≡ get_or (begins ++ begin ∷ []) v 0)
      on v l (inl same) = turn (onward v (sym same))
        where
          at : get_or (begins ++ begin ∷ []) (v + 1) 0 ≡ begin
          at = ap (λ k. get_or (begins ++ begin ∷ []) k 0) same ∙ here

          turn : (begin ≡ e) ⊎ (begin ≡ get_or begins v 0) → (get_or (begins ++ begin ∷ []) (v + 1) 0 ≡ v + 1)
              ⊎ (get_or (begins ++ begin ∷ []) (v + 1) 0 ≡ get_or (begins ++ begin ∷ []) v 0)
          turn (inl new) = inl (at ∙ new ∙ sym same)
          turn (inr kept) = inr (at ∙ kept ∙ sym (before v (omega (arith, same))))
      on v l (inr apart) = rw (before (v + 1) (omega arith), before v (omega arith)) (was.onward v (omega arith))

      pair : (u v : ℕ) → v < e + 1 → IsInRun (get_or (begins ++ begin ∷ []) v 0) v u → (v ≡ e) ⊎ (v ≡ e → ⊥) → IsSessionPair h u v
      pair u v l p (inl same) =
          subst (λ (z : ℕ). IsSessionPair h u z) (sym same)
          (pairs u (subst (λ (z : ℕ). IsInRun z e u) (ap (λ k. get_or (begins ++ begin ∷ []) k 0) same ∙ here)
          (subst (λ (z : ℕ). IsInRun (get_or (begins ++ begin ∷ []) v 0) z u) same p)))
      pair u v l p (inr apart) = was.pairs u v (omega arith) (subst (λ (z : ℕ). IsInRun z v u) (before v (omega arith)) p)

-- no session pair ends at `init`
no_pair : (h : History) (u : ℕ) → IsSessionPair h u 0 → ⊥
no_pair h u p = go (pair_parts h u 0 p)
  where
    go : ((u ≡ 0) × (0 < 0)) ⊎ AreOwned h u 0 → ⊥
    go (inl first) = omega (arith, first.1)
    go (inr second) = omega (arith, second.1)

-- the last that comes before e in session order, where there is one
abbrev pub IsLastBefore : History → ℕ → ℕ → Type 0
IsLastBefore h e last = (u : ℕ) → IsSessionPair h u e → (u ≡ last) ⊎ IsSessionPair h u last

pub last_at : (h : History) (e last other : ℕ) → last ≡ other → IsLastBefore h e last → IsLastBefore h e other
last_at h e last other same is = subst (λ (z : ℕ). IsLastBefore h e z) same is

-- a run that begins anew, where only `init` comes before
pub run_begun : (e : ℕ) (h : History) (old : ℕ) (begins : List ℕ) → e < count h → (0 < e → IsLastBefore h e 0) → AreRunsTo e h old begins
    → AreRunsTo (e + 1) h e (begins ++ e ∷ [])
run_begun e h old begins below last was = one_more_run e h old e begins was (omega arith) (λ v is. inl refl) pairs all
  where
    pairs : (u : ℕ) → IsInRun e e u → IsSessionPair h u e
    pairs u (l, inl first) = rw first (init_pair h e (omega (arith, first)) below)
    pairs u (l, inr none) = absurd (omega arith)

    all : (u : ℕ) → IsSessionPair h u e → IsInRun e e u
    all u p = go (cases_eq e 0)
      where
        turn : 0 < e → (u ≡ 0) ⊎ IsSessionPair h u 0 → IsInRun e e u
        turn some (inl first) = (omega (arith, first, some), inl first)
        turn some (inr none) = absurd (no_pair h u none)

        go : (e ≡ 0) ⊎ (e ≡ 0 → ⊥) → IsInRun e e u
        go (inl none) = absurd (no_pair h u (subst (λ (z : ℕ). IsSessionPair h u z) none p))
        go (inr some) = let more : 0 < e = omega (arith, some) in turn more (last more u p)

-- one that goes on
pub run_kept : (e : ℕ) (h : History) (begin : ℕ) (begins : List ℕ) → e < count h → 0 < e → session_pair h (e - 1) e ≡ true → IsLastBefore h e (e - 1)
    → AreRunsTo e h begin begins → AreRunsTo (e + 1) h begin (begins ++ begin ∷ [])
run_kept e h begin begins below some goes last was =
    one_more_run e h begin begin begins was (omega (arith, is, was.within (e - 1) (omega arith))) (λ v e. inr (was.last v e)) pairs (λ u p. all u (last u p))
  where
    is : begin ≡ get_or begins (e - 1) 0
    is = was.last (e - 1) (omega arith)

    all : (u : ℕ) → (u ≡ e - 1) ⊎ IsSessionPair h u (e - 1) → IsInRun begin e u
    all u (inl same) = (omega (arith, same, some), inr (omega (arith, same, is, was.within (e - 1) (omega (arith, some)))))
    all u (inr pair) = let run = was.whole u (e - 1) (omega (arith, some)) pair in (omega (arith, run.0), subst (λ (z : ℕ). (u ≡ 0) ⊎ (z ≤ u)) (sym is) run.1)

    in_run : (u : ℕ) → u < e → begin ≤ u → (u ≡ e - 1) ⊎ (u ≡ e - 1 → ⊥) → IsSessionPair h u e
    in_run u l low (inl same) = rw same goes
    in_run u l low (inr apart) = pair_onward h u (e - 1) e (was.pairs u (e - 1) (omega arith) (omega arith, inr (omega (arith, is)))) goes

    pairs : (u : ℕ) → IsInRun begin e u → IsSessionPair h u e
    pairs u (l, inl first) = rw first (init_pair h e some below)
    pairs u (l, inr low) = in_run u l low (cases_eq u (e - 1))

pub all_runs : (e : ℕ) (h : History) (begin : ℕ) (begins : List ℕ) → e ≡ count h → AreRunsTo e h begin begins → AreRuns h begins
all_runs e h begin begins all was = record {
  long = was.long ∙ all;
  runs = record { within = λ v l. was.within v (omega (arith, was.long)); onward = λ v l. was.onward v (omega (arith, was.long)) };
  pairs = λ u v l p. was.pairs u v (omega arith) p;
  whole = λ u v p. was.whole u v (omega (arith, (session_below h u v p).1, all)) p;
}

-- ---- the least number in a run

-- what is carried along a row before the number of e: what the row has for `init`, and the least of the run that goes on to e
pub record IsCarried (begins row : List ℕ) (low e opening least : ℕ) : Type 0 where
  pub opened : (opening ≡ unlinked) ⊎ ((low ≡ 0) × (0 < e) × (opening ≡ get_or row 0 0))
  pub opens : low ≡ 0 → 0 < e → opening ≤ get_or row 0 0
  pub from : e < low + length row → get_or begins e 0 < e → (least ≡ unlinked)
      ⊎ ((u : ℕ) × IsInRun (get_or begins e 0) e u × (low ≤ u) × (get_or row (u - low) 0 ≡ least))
  pub lower : e < low + length row → get_or begins e 0 < e → (u : ℕ) → IsInRun (get_or begins e 0) e u → low ≤ u → least ≤ get_or row (u - low) 0

-- the same where e is looked at
pub record IsRunLeast (begins row : List ℕ) (low e least : ℕ) : Type 0 where
  pub from : (least ≡ unlinked) ⊎ ((u : ℕ) × IsInRun (get_or begins e 0) e u × (low ≤ u) × (get_or row (u - low) 0 ≡ least))
  pub lower : (u : ℕ) → IsInRun (get_or begins e 0) e u → low ≤ u → least ≤ get_or row (u - low) 0

pub nothing_carried : (begins row : List ℕ) (low : ℕ) → IsCarried begins row low low unlinked unlinked
nothing_carried begins row low = record {
  opened = inl refl;
  opens = λ none some. absurd (omega arith);
  from = λ l goes. inl refl;
  lower = λ l goes u run from. absurd (omega (arith, run.0));
}

module _ (begins row : List ℕ) (low e : ℕ) (runs : HasRuns begins) (long : length begins ≡ low + length row) (inside : e < low + length row)
    (above : low ≤ e) where
  pub run_anew : (opening least : ℕ) → get_or begins e 0 ≡ e → IsCarried begins row low e opening least → IsRunLeast begins row low e opening
  run_anew opening least anew was = record { from = from was.opened; lower = λ u run low_u. lower u run.0 run.1 low_u }
    where
      from : (opening ≡ unlinked) ⊎ ((low ≡ 0) × (0 < e) × (opening ≡ get_or row 0 0))
          → (opening ≡ unlinked) ⊎ ((u : ℕ) × IsInRun (get_or begins e 0) e u × (low ≤ u) × (get_or row (u - low) 0 ≡ opening))
      from (inl none) = inl none
      from (inr (first, some, is)) = inr (0, (some, inl refl), omega (arith, first), rw first (sym is))

      lower : (u : ℕ) → u < e → (u ≡ 0) ⊎ (get_or begins e 0 ≤ u) → low ≤ u → opening ≤ get_or row (u - low) 0
      lower u l (inl first) low_u = let bottom : low ≡ 0 = omega arith in rw (first, bottom) (was.opens bottom (omega arith))
      lower u l (inr more) low_u = absurd (omega (arith, anew))

  pub run_on : (opening least : ℕ) → (get_or begins e 0 ≡ e → ⊥) → IsCarried begins row low e opening least → IsRunLeast begins row low e least
  run_on opening least on was =
      let goes : get_or begins e 0 < e = go (cases_lt (get_or begins e 0) e) in
      record { from = was.from inside goes; lower = was.lower inside goes }
    where
      go : (get_or begins e 0 < e) ⊎ (e ≤ get_or begins e 0) → get_or begins e 0 < e
      go (inl l) = l
      go (inr g) = absurd (on (omega (arith, runs.within e (omega (arith, long)))))

  -- the number of e is looked at: the run is begun anew, or goes on
  run_here : (opening least carried : ℕ) → IsCarried begins row low e opening least → (get_or begins e 0 ≡ e → carried ≡ opening)
      → ((get_or begins e 0 ≡ e → ⊥) → carried ≡ least) → IsRunLeast begins row low e carried
  run_here opening least carried was anew on = go (cases_eq (get_or begins e 0) e)
    where
      go : (get_or begins e 0 ≡ e) ⊎ (get_or begins e 0 ≡ e → ⊥) → IsRunLeast begins row low e carried
      go (inl same) = rw (anew same) (run_anew opening least same was)
      go (inr apart) = rw (on apart) (run_on opening least apart was)

  carried_on : (opening old least new : ℕ) → IsCarried begins row low e old opening → IsRunLeast begins row low e least
      → new ≡ min least (get_or row (e - low) 0) → (next : ℕ) → (e ≡ 0 → next ≡ get_or row (e - low) 0) → ((e ≡ 0 → ⊥) → next ≡ old)
      → IsCarried begins row low (e + 1) next new
  carried_on opening old least new was here is next at_first later = record {
    opened = opened (cases_eq e 0);
    opens = λ bottom some. opens bottom (cases_eq e 0);
    from = λ l goes. from l (runs.onward e (omega (arith, long))) goes (cases_lt (get_or row (e - low) 0) least) here.from;
    lower = λ l goes u run low_u. lower u run l (runs.onward e (omega (arith, long))) goes low_u (cases_eq u e);
  }
    where
      first_number : e ≡ 0 → low ≡ 0 → get_or row (e - low) 0 ≡ get_or row 0 0
      first_number first bottom = ap (λ k. get_or row k 0) (omega arith)

      opened : (e ≡ 0) ⊎ (e ≡ 0 → ⊥) → (next ≡ unlinked) ⊎ ((low ≡ 0) × (0 < e + 1) × (next ≡ get_or row 0 0))
      opened (inl first) = let bottom : low ≡ 0 = omega arith in inr (bottom, omega arith, at_first first ∙ ap (λ k. get_or row k 0) (omega arith))
      opened (inr other) = rw (later other) (keep was.opened)
        where
          keep : (old ≡ unlinked) ⊎ ((low ≡ 0) × (0 < e) × (old ≡ get_or row 0 0)) → (old ≡ unlinked) ⊎ ((low ≡ 0) × (0 < e + 1) × (old ≡ get_or row 0 0))
          keep (inl none) = inl none
          keep (inr w) = inr (w.0, omega arith, w.2)

      opens : low ≡ 0 → (e ≡ 0) ⊎ (e ≡ 0 → ⊥) → next ≤ get_or row 0 0
      opens bottom (inl first) = omega (arith, at_first first, first_number first bottom)
      opens bottom (inr other) = omega (arith, later other, was.opens bottom (omega (arith, other)))

      Found : Type 0
      Found = (new ≡ unlinked) ⊎ ((u : ℕ) × IsInRun (get_or begins (e + 1) 0) (e + 1) u × (low ≤ u) × (get_or row (u - low) 0 ≡ new))

      in_next : (u : ℕ) → get_or begins (e + 1) 0 ≡ get_or begins e 0 → IsInRun (get_or begins e 0) e u → IsInRun (get_or begins (e + 1) 0) (e + 1) u
      in_next u same (l, which) = (omega arith, subst (λ (z : ℕ). (u ≡ 0) ⊎ (z ≤ u)) (sym same) which)

      from : e + 1 < low + length row → (get_or begins (e + 1) 0 ≡ e + 1) ⊎ (get_or begins (e + 1) 0 ≡ get_or begins e 0) → get_or begins (e + 1) 0 < e + 1
          → (get_or row (e - low) 0 < least) ⊎ (least ≤ get_or row (e - low) 0)
          → (least ≡ unlinked) ⊎ ((u : ℕ) × IsInRun (get_or begins e 0) e u × (low ≤ u) × (get_or row (u - low) 0 ≡ least)) → Found
      from l (inl anew) goes smaller found = absurd (omega (arith, anew))
      from l (inr same) goes (inl smaller) found =
          inr (e, (omega arith, inr (omega (arith, same, runs.within e (omega (arith, long))))), above, omega (arith, is))
      from l (inr same) goes (inr larger) (inl none) = inl (omega (arith, is))
      from l (inr same) goes (inr larger) (inr (u, run, low_u, found)) = inr (u, in_next u same run, low_u, omega (arith, is))

      lower : (u : ℕ) → IsInRun (get_or begins (e + 1) 0) (e + 1) u → e + 1 < low + length row
          → (get_or begins (e + 1) 0 ≡ e + 1) ⊎ (get_or begins (e + 1) 0 ≡ get_or begins e 0) → get_or begins (e + 1) 0 < e + 1 → low ≤ u
          → (u ≡ e) ⊎ (u ≡ e → ⊥) → new ≤ get_or row (u - low) 0
      lower u run l (inl anew) goes low_u which = absurd (omega (arith, anew))
      lower u run l (inr same) goes low_u (inl last) = omega (arith, is, ap (λ k. get_or row (k - low) 0) last)
      lower u run l (inr same) goes low_u (inr apart) =
          omega (arith, is, here.lower u (omega (arith, run.0), subst (λ (z : ℕ). (u ≡ 0) ⊎ (z ≤ u)) same run.1) low_u)

  -- the least of the run decides whether a pair of it is too long
  run_long : (least number : ℕ) → number ≡ get_or row (e - low) 0 → number ≤ unlinked → IsRunLeast begins row low e least → least + 1 < number
      → IsLongRun (get_or begins e 0) row low e
  run_long least number is fits here long_run = go here.from
    where
      go : (least ≡ unlinked) ⊎ ((u : ℕ) × IsInRun (get_or begins e 0) e u × (low ≤ u) × (get_or row (u - low) 0 ≡ least))
          → IsLongRun (get_or begins e 0) row low e
      go (inl none) = absurd (omega arith)
      go (inr (u, run, low_u, same)) = (u, run, low_u, omega arith)

  run_short : (least number : ℕ) → number ≡ get_or row (e - low) 0 → IsRunLeast begins row low e least → (least + 1 < number → ⊥)
      → IsLongRun (get_or begins e 0) row low e → ⊥
  run_short least number is here not (u, run, low_u, more) = not (omega (arith, here.lower u run low_u))

-- ---- one index of a row more

module _ (begins row : List ℕ) (low index : ℕ) (runs : HasRuns begins) (long : length begins ≡ low + length row) (inside : index < length row)
    (opening least carried : ℕ) (was : IsCarried begins row low (low + index) opening least)
    (anew : get_or begins (low + index) 0 ≡ low + index → carried ≡ opening) (on : (get_or begins (low + index) 0 ≡ low + index → ⊥) → carried ≡ least) where
  abbrev end : ℕ
  end = low + index

  number : get_or row index 0 ≡ get_or row (end - low) 0
  number = ap (λ k. get_or row k 0) (omega arith)

  least_here : IsRunLeast begins row low end carried
  least_here = run_here begins row low end runs long (omega (arith, inside)) (omega arith) opening least carried was anew on

  -- the number here is too great, and none before it is
  pub first_long : get_or row index 0 ≤ unlinked → carried + 1 < get_or row index 0 → HoldsBelow end (IsLongRunTo begins row low)
      → IsFirstBelow (low + length row) (IsLongRunTo begins row low) end
  first_long fits more before = record {
    below = omega (arith, inside);
    here =
        (omega arith, run_long begins row low end runs long (omega (arith, inside)) (omega arith) carried (get_or row index 0) number fits least_here more);
    first = before;
  }

  -- it isn't
  pub none_long : (carried + 1 < get_or row index 0 → ⊥) → HoldsBelow end (IsLongRunTo begins row low)
      → HoldsBelow (low + (index + 1)) (IsLongRunTo begins row low)
  none_long not before = holds_below_more end (low + (index + 1)) (IsLongRunTo begins row low) (omega arith) before
      (λ p. run_short begins row low end runs long (omega (arith, inside)) (omega arith) carried (get_or row index 0) number least_here not p.1)

  pub carried_more : (next new : ℕ) → new ≡ min carried (get_or row index 0) → (end ≡ 0 → next ≡ get_or row index 0)
      → ((end ≡ 0 → ⊥) → next ≡ opening) → IsCarried begins row low (low + (index + 1)) next new
  carried_more next new is at_first later =
      subst (λ (e : ℕ). IsCarried begins row low e next new) (omega arith)
      (carried_on begins row low end runs long (omega (arith, inside)) (omega arith) least opening carried new was least_here
      (is ∙ ap (λ n. min carried n) number) next (λ first. at_first first ∙ number) later)
