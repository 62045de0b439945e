-- The least numbers of steps from some transactions: one more transaction, and one more step.
use Rattle.std.proofs.Common.{◌≡◌, ◌≢◌, ◌<◌, ◌≤◌, ◌+◌, ◌↔◌, ◌⊎◌, inl, inr, ℕ, true, List, [], ◌∷◌, ◌++◌, length, length-set, replicate, set, take, get_or}
use Rattle.std.proofs.Common.{slice_index, refl, sym, ◌∙◌, ap, subst, arith, Option, Some, None}
use Rattle.std.specs.Prelude.{min}
use Rattle.std.specs.List.{All, Contains}
use Rattle.std.proofs.lemmas.Bool.{cases_eq, cases_lt}
use Rattle.std.proofs.lemmas.List.{get_or-replicate, length-replicate, get_or-set_same, get_or-set_other}
use Rattle.tcc_reads.specs.History.{History, count}
use Rattle.tcc_graph.specs.Relations.{IsSessionPair, causal_pair}
use Rattle.tcc_graph.specs.Levels.{causally}
use Rattle.tcc_graph.specs.Walks.{step_to, Leads, IsReached, IsWalk}
use Rattle.tcc_graph.specs.Tables.{row_of}
use Rattle.tcc_graph.specs.declared.step.Step.{Step}
use Rattle.tcc_graph.proofs.Pairs.{step_from_pair, pair_from_step}
use Rattle.tcc_graph.proofs.Walking.{leads_append}
use Rattle.tcc_near.proofs.Walks.{within_below}
use Rattle.tcc_near.specs.WalkLengths.{IsShortest, IsWalkLength, least_in}
use Rattle.tcc_near.specs.private.Breadth.{IsSessionEnd, IsBoundFrom, AreEnds, IsPairsFrom, HasLengths}
use Rattle.tcc_near.specs.private.Backwards.{IsLedFrom, IsLeastFrom, IsLowered, IsNextOrOne, IsFromOn, AreOthers, AreKnown, AreHeads}
use Rattle.tcc_near.specs.declared.walk_lengths.TheConstants.{NONE}
use Rattle.tcc_near.proofs.BreadthLemmas.{Read, read}
use Rattle.tcc_bits.proofs.Lists.{one_of_taken, still_taken, last_taken, nothing_in}
use Rattle.tcc_near.proofs.ShortWalks.{few_steps}

-- ---- a row of distances
module _ (h : History) (few : count h < NONE) (a : ℕ) (row : List ℕ) (is : HasLengths (causally h) a row) where
  -- no walk is shorter than what the row holds
  pub walk_no_less : (c : ℕ) (walk : List Step) → c < count h → IsWalk h a c walk → (slice_index row c < NONE) × (slice_index row c ≤ length walk)
  walk_no_less c walk to leads = go (read row c)
    where
      go : Read row c → (slice_index row c < NONE) × (slice_index row c ≤ length walk)
      go (inl r) =
          let none : IsWalkLength (causally h) a c None = subst (λ (d : Option ℕ). IsWalkLength (causally h) a c d) r.1 (is.exact c to) in
          absurd (none walk (leads, tt))
      go (inr r) =
          let some : IsShortest (causally h) a c (slice_index row c) =
          subst (λ (d : Option ℕ). IsWalkLength (causally h) a c d) r.1 (is.exact c to) in
          (omega (arith, is.short c (slice_index row c) to r.1), some.least walk (leads, tt))

  abbrev pub HasWalk : ℕ → Type 0
  HasWalk c = (slice_index row c ≡ NONE) ⊎ ((slice_index row c ≤ count h) × (walk : List Step) × IsWalk h a c walk × (length walk ≡ slice_index row c))

  pub walk_attained : (c : ℕ) → c < count h → HasWalk c
  walk_attained c to = go (read row c)
    where
      go : Read row c → HasWalk c
      go (inl r) = inl r.0
      go (inr r) =
          let some : IsShortest (causally h) a c (slice_index row c) =
          subst (λ (d : Option ℕ). IsWalkLength (causally h) a c d) r.1 (is.exact c to) in
          inr (is.short c (slice_index row c) to r.1, some.attained.0, some.attained.1.0, some.attained.2)

-- least numbers of steps from the same transactions, described in another way
pub least_same : (h : History) (IsOne IsOther : ℕ → Type 0) (row : List ℕ) → ((b : ℕ) → IsOne b ↔ IsOther b) → IsLeastFrom h IsOne row
    → IsLeastFrom h IsOther row
least_same h IsOne IsOther row same is = record {
  long = is.long;
  least = λ b c steps one to leads. is.least b c steps ((same b).1 one) to leads;
  attained = λ c to. go c (is.attained c to);
}
  where
    go : (c : ℕ) → (slice_index row c ≡ NONE) ⊎ ((slice_index row c ≤ count h) × IsLedFrom h IsOne c (slice_index row c))
        → (slice_index row c ≡ NONE) ⊎ ((slice_index row c ≤ count h) × IsLedFrom h IsOther c (slice_index row c))
    go c (inl none) = inl none
    go c (inr (low, (b, one, steps, leads, long))) = inr (low, (b, (same b).0 one, steps, leads, long))

-- from no transaction
pub least_none : (h : History) (IsOne : ℕ → Type 0) (n : ℕ) → n ≡ count h → ((b : ℕ) → IsOne b → ⊥) → IsLeastFrom h IsOne (replicate n NONE)
least_none h IsOne n long none = record {
  long = length-replicate n NONE ∙ long;
  least = λ b c steps one to leads. absurd (none b one);
  attained = λ c to. inl (get_or-replicate n c NONE 0 (omega arith));
}

-- from one more
pub least_more : (h : History) (few : count h < NONE) (IsOne : ℕ → Type 0) (old other : List ℕ) (a : ℕ) (new : List ℕ) → a < count h
    → IsLeastFrom h IsOne old → HasLengths (causally h) a other → IsLowered old other a new → IsLeastFrom h (λ b. IsOne b ⊎ (b ≡ a)) new
least_more h few IsOne old other a new below is has low = record {
  long = low.long ∙ is.long;
  least = λ b c steps one to leads. least b c steps one to leads (cases_eq c a);
  attained = λ c to. attained c to (cases_eq c a);
}
  where
    at : (c : ℕ) → c < count h → c ≢ a → slice_index new c ≡ min (slice_index other c) (slice_index old c)
    at c to far = low.others c (omega (arith, is.long)) far

    least : (b c : ℕ) (steps : List Step) → IsOne b ⊎ (b ≡ a) → c < count h → Leads h b c steps → (c ≡ a) ⊎ (c ≢ a)
        → (slice_index new c < NONE) × (slice_index new c ≤ length steps)
    least b c steps one to leads (inl same) = let zero_there : slice_index new c ≡ 0 = ap (slice_index new) same ∙ low.itself in (omega arith, omega arith)
    least b c steps (inl one) to leads (inr far) =
        let was = is.least b c steps one to leads in
        (omega (arith, was.0, at c to far), omega (arith, was.1, at c to far))
    least b c [] (inr this) to leads (inr far) = absurd (far (sym leads ∙ this))
    least b c (s ∷ steps) (inr this) to leads (inr far) =
        let was = walk_no_less h few a other has c (s ∷ steps) to (omega arith, subst (λ (z : ℕ). Leads h z c (s ∷ steps)) this leads) in
        (omega (arith, was.0, at c to far), omega (arith, was.1, at c to far))

    Here : ℕ → Type 0
    Here c = (slice_index new c ≡ NONE) ⊎ ((slice_index new c ≤ count h) × IsLedFrom h (λ b. IsOne b ⊎ (b ≡ a)) c (slice_index new c))

    from_old : (c : ℕ) → slice_index new c ≡ slice_index old c
        → (slice_index old c ≡ NONE) ⊎ ((slice_index old c ≤ count h) × IsLedFrom h IsOne c (slice_index old c))
        → Here c
    from_old c same (inl none) = inl (same ∙ none)
    from_old c same (inr (low, (b, one, steps, leads, long))) = inr (omega arith, (b, inl one, steps, leads, long ∙ sym same))

    from_other : (c : ℕ) → slice_index new c ≡ slice_index other c
        → (slice_index other c ≡ NONE) ⊎ ((slice_index other c ≤ count h) × (walk : List Step) × IsWalk h a c walk × (length walk ≡ slice_index other c))
        → Here c
    from_other c same (inl none) = inl (same ∙ none)
    from_other c same (inr (low, walk, leads, long)) = inr (omega arith, (a, inr refl, walk, leads.1, long ∙ sym same))

    which : (c : ℕ) → c < count h → c ≢ a → (slice_index other c < slice_index old c) ⊎ (slice_index old c ≤ slice_index other c) → Here c
    which c to far (inl less) = from_other c (omega (arith, at c to far)) (walk_attained h few a other has c to)
    which c to far (inr more) = from_old c (omega (arith, at c to far)) (is.attained c to)

    attained : (c : ℕ) → c < count h → (c ≡ a) ⊎ (c ≢ a) → Here c
    attained c to (inl same) =
        let zero_there : slice_index new c ≡ 0 = ap (slice_index new) same ∙ low.itself in
        inr (omega arith, (a, inr refl, [], sym same, sym zero_there))
    attained c to (inr far) = which c to far (cases_lt (slice_index other c) (slice_index old c))

-- from the first of the readers, and one more
pub next_none : (h : History) (a : ℕ) (numbers : List ℕ) (b : ℕ) → IsSessionPair h a b ↔ IsNextOrOne h a (take 0 numbers) b
next_none h a numbers b = (inl, back)
  where
    back : IsNextOrOne h a (take 0 numbers) b → IsSessionPair h a b
    back (inl p) = p
    back (inr c) = absurd (nothing_in b c)

pub next_more : (h : History) (a : ℕ) (numbers : List ℕ) (n : ℕ) → n < length numbers → (b : ℕ)
    → (IsNextOrOne h a (take n numbers) b ⊎ (b ≡ get_or numbers n 0)) ↔ IsNextOrOne h a (take (n + 1) numbers) b
next_more h a numbers n inside b = (onward, back)
  where
    onward : IsNextOrOne h a (take n numbers) b ⊎ (b ≡ get_or numbers n 0) → IsNextOrOne h a (take (n + 1) numbers) b
    onward (inl (inl p)) = inl p
    onward (inl (inr c)) = inr (still_taken numbers n inside b c)
    onward (inr same) = inr (subst (λ (x : ℕ). Contains (take (n + 1) numbers) x) (sym same) (last_taken numbers n inside))

    by : Contains (take n numbers) b ⊎ (get_or numbers n 0 ≡ b) → IsNextOrOne h a (take n numbers) b ⊎ (b ≡ get_or numbers n 0)
    by (inl c) = inl (inr c)
    by (inr same) = inr (sym same)

    back : IsNextOrOne h a (take (n + 1) numbers) b → IsNextOrOne h a (take n numbers) b ⊎ (b ≡ get_or numbers n 0)
    back (inl p) = inl (inl p)
    back (inr c) = by (one_of_taken numbers n inside b c)

-- one more step, from a transaction whose pairs lead to these: its distances
pub distances_over : (h : History) (few : count h + 1 < NONE) (IsOne : ℕ → Type 0) (a : ℕ) (old new : List ℕ) → IsLeastFrom h IsOne old
    → ((b : ℕ) → (causal_pair h a b ≡ true) ↔ IsOne b) → length new ≡ length old
    → ((c : ℕ) → c < length old → slice_index new c ≡ min (slice_index old c + 1) NONE) → HasLengths (causally h) a new
distances_over h few IsOne a old new is pairs same each = record {
  long = same ∙ is.long;
  exact = λ c to. exact c to (read new c);
  short = λ c n to some. short c n to some (read new c);
}
  where
    at : (c : ℕ) → c < count h → slice_index new c ≡ min (slice_index old c + 1) NONE
    at c to = each c (omega (arith, is.long))

    Here : ℕ → Type 0
    Here c = (slice_index old c ≡ NONE) ⊎ ((slice_index old c ≤ count h) × IsLedFrom h IsOne c (slice_index old c))

    no_less : (c : ℕ) (walk : List Step) → c < count h → IsWalk h a c walk → (slice_index new c < NONE) × (slice_index new c ≤ length walk)
    no_less c [] to leads = absurd (omega (arith, leads.0))
    no_less c (s ∷ steps) to leads =
        let pair : causal_pair h a (step_to s) ≡ true = subst (λ (z : ℕ). causal_pair h z (step_to s) ≡ true) leads.1.0 (pair_from_step h s leads.1.1) in
        let was = is.least (step_to s) c steps ((pairs (step_to s)).0 pair) to leads.1.2 in
        go was (is.attained c to)
      where
        go : (slice_index old c < NONE) × (slice_index old c ≤ length steps) → Here c → (slice_index new c < NONE) × (slice_index new c ≤ length (s ∷ steps))
        go was (inl none) = absurd (omega (arith, was.0, none))
        go was (inr (low, led)) = (omega (arith, low, at c to), omega (arith, was.1, at c to))

    walk_there : (c : ℕ) → c < count h → Here c → (slice_index new c ≢ NONE) → (walk : List Step) × IsWalk h a c walk × (length walk ≡ slice_index new c)
    walk_there c to (inl none) some = absurd (some (omega (arith, none, at c to)))
    walk_there c to (inr (low, (b, one, steps, leads, long))) some =
        let s = step_from_pair h a b ((pairs b).1 one) in
        let on : Leads h (step_to s.0) c steps = subst (λ (z : ℕ). Leads h z c steps) (sym s.2) leads in
        (s.0 ∷ steps, (omega arith, (s.1, s.3, on)), omega (arith, long, low, at c to))

    shortest : (c : ℕ) → c < count h → slice_index new c ≢ NONE → IsShortest (causally h) a c (slice_index new c)
    shortest c to some =
        let w = walk_there c to (is.attained c to) some in
        record { attained = (w.0, (w.1, tt), w.2); least = λ walk leads. (no_less c walk to leads.0).1 }

    exact : (c : ℕ) → c < count h → Read new c → IsWalkLength (causally h) a c (least_in new c)
    exact c to (inl r) = rw r.1 (λ walk leads. absurd (omega (arith, (no_less c walk to leads.0).0, r.0)))
    exact c to (inr r) = rw r.1 (shortest c to r.0)

    short : (c n : ℕ) → c < count h → least_in new c ≡ Some n → Read new c → n ≤ count h
    short c n to some (inl r) = absurd (let e : None ≡ Some n = sym r.1 ∙ some in cc)
    short c n to some (inr r) =
        let e : Some (slice_index new c) ≡ Some n = sym r.1 ∙ some in
        let at_n : slice_index new c ≡ n = cc in
        let w = walk_there c to (is.attained c to) r.0 in
        omega (arith, at_n, w.2, few_steps h a c w.0 w.1 (λ others leads. omega (arith, w.2, (no_less c others to leads).1)))

-- ---- tables
-- a row that is there has the distances
pub known_there : (h : History) (rows : List (List ℕ)) (u : ℕ) → u < count h → length (row_of rows u) ≡ count h → AreKnown h rows
    → HasLengths (causally h) u (row_of rows u)
known_there h rows u below long known = go (known.each u below)
  where
    go : (row_of rows u ≡ []) ⊎ HasLengths (causally h) u (row_of rows u) → HasLengths (causally h) u (row_of rows u)
    go (inl none) = absurd (let empty : length (row_of rows u) ≡ 0 = ap length none in omega arith)
    go (inr has) = has

-- one more row
pub known_more : (h : History) (rows : List (List ℕ)) (a : ℕ) (row : List ℕ) → a < count h → AreKnown h rows → HasLengths (causally h) a row
    → AreKnown h (set rows a row)
known_more h rows a row below known has = record {
  long = length-set rows a row ∙ known.long;
  each = λ u to. each u to (cases_eq u a);
}
  where
    each : (u : ℕ) → u < count h → (u ≡ a) ⊎ (u ≢ a) → (row_of (set rows a row) u ≡ []) ⊎ HasLengths (causally h) u (row_of (set rows a row) u)
    each u to (inl same) = inr (rw (same, get_or-set_same rows a row [] (omega (arith, below, known.long))) has)
    each u to (inr far) = rw (get_or-set_other rows a u row [] far) (known.each u to)

pub known_none : (h : History) (rows : List (List ℕ)) → length rows ≡ count h → All (λ row. row ≡ []) rows → AreKnown h rows
known_none h rows long none = record { long = long; each = λ u to. inl (none u [] (omega arith)) }

-- another head of one session
pub heads_more : (h : History) (heads : List ℕ) (runs : List (List ℕ)) (s head : ℕ) (run : List ℕ) → s < length heads → AreHeads h heads runs → head < count h
    → (0 < head → IsLeastFrom h (IsSessionPair h head) run) → AreHeads h (set heads s head) (set runs s run)
heads_more h heads runs s head run inside are below new = record {
  same = length-set runs s run ∙ (are.same ∙ sym (length-set heads s head));
  inside = λ t l. inside_at t l (cases_eq t s);
  run = λ t l some. run_at t l some (cases_eq t s);
}
  where
    long : length (set heads s head) ≡ length heads
    long = length-set heads s head

    same_runs : s < length runs
    same_runs = omega (arith, are.same, inside)

    inside_at : (t : ℕ) → t < length (set heads s head) → (t ≡ s) ⊎ (t ≢ s) → slice_index (set heads s head) t < count h
    inside_at t l (inl same) = rw (same, get_or-set_same heads s head 0 inside) below
    inside_at t l (inr far) = rw (get_or-set_other heads s t head 0 far) (are.inside t (omega (arith, long)))

    run_at : (t : ℕ) → t < length (set heads s head) → 0 < slice_index (set heads s head) t → (t ≡ s) ⊎ (t ≢ s)
        → IsLeastFrom h (IsSessionPair h (slice_index (set heads s head) t)) (row_of (set runs s run) t)
    run_at t l some (inl same) =
        let head_is : slice_index (set heads s head) t ≡ head = rw same (get_or-set_same heads s head 0 inside) in
        let run_is : row_of (set runs s run) t ≡ run = rw same (get_or-set_same runs s run [] same_runs) in
        rw (head_is, run_is) (new (omega (arith, head_is)))
    run_at t l some (inr far) =
        let head_is : slice_index (set heads s head) t ≡ slice_index heads t = get_or-set_other heads s t head 0 far in
        let run_is : row_of (set runs s run) t ≡ row_of runs t = get_or-set_other runs s t run [] far in
        rw (head_is, run_is) (are.run t (omega (arith, long)) (omega (arith, head_is)))

-- ---- pairs by the ends of sessions
pub others_of : (h : History) (u end : ℕ) (readers : List ℕ) → IsSessionEnd h u end → IsPairsFrom h u end readers → AreOthers h u readers
others_of h u end readers is pairs b = (λ p. onward ((pairs b).0 p), λ w. (pairs b).1 (back w))
  where
    onward : ((u + 1 ≤ b) × (b < end)) ⊎ Contains readers b → IsNextOrOne h u readers b
    onward (inl w) = inl ((is.pairs b).1 w)
    onward (inr c) = inr c

    back : IsNextOrOne h u readers b → ((u + 1 ≤ b) × (b < end)) ⊎ Contains readers b
    back (inl p) = inl ((is.pairs b).0 p)
    back (inr c) = inr c

-- session pairs from a transaction lead to the next of its session, and to what session pairs from that lead to
pub before_pairs : (h : History) (ends : List ℕ) → AreEnds h ends → (u v : ℕ) → v < count h → v ≡ u + 1 → slice_index ends u ≡ slice_index ends v → (b : ℕ)
    → IsFromOn h v b ↔ IsSessionPair h u b
before_pairs h ends are u v below next same b = (onward, λ p. back ((here.pairs b).0 p) (cases_eq b v))
  where
    here : IsSessionEnd h u (slice_index ends u)
    here = are.each u (omega arith)

    there : IsSessionEnd h v (slice_index ends v)
    there = are.each v below

    onward : IsFromOn h v b → IsSessionPair h u b
    onward (inl p) = let w = (there.pairs b).0 p in (here.pairs b).1 (omega (arith, w.0), omega (arith, w.1, same))
    onward (inr this) = (here.pairs b).1 (omega (arith, this), omega (arith, this, same, there.order))

    back : (u + 1 ≤ b) × (b < slice_index ends u) → (b ≡ v) ⊎ (b ≢ v) → IsFromOn h v b
    back w (inl this) = inr this
    back w (inr other) = inl ((there.pairs b).1 (omega (arith, w.0), omega (arith, w.1, same)))

-- at first the heads are the last transactions of sessions
pub heads_first : (h : History) (ends heads : List ℕ) (runs : List (List ℕ)) (n : ℕ) → AreEnds h ends → n ≡ count h
    → All (λ b. (b < length ends) × (slice_index ends b ≡ b + 1)) heads → length runs ≡ length heads → All (λ run. run ≡ replicate n NONE) runs
    → AreHeads h heads runs
heads_first h ends heads runs n are long last same blank = record {
  same = same;
  inside = λ s l. omega (arith, (last s 0 l).0, are.long);
  run = λ s l some. run s l;
}
  where
    run : (s : ℕ) → s < length heads → IsLeastFrom h (IsSessionPair h (slice_index heads s)) (row_of runs s)
    run s l =
        let head : ℕ = slice_index heads s in
        let at = last s 0 l in
        let end : IsSessionEnd h head (slice_index ends head) = are.each head (omega (arith, at.0, are.long)) in
        rw (blank s [] (omega (arith, same)))
        (least_none h (IsSessionPair h head) n long (λ b p. let w = (end.pairs b).0 p in absurd (omega (arith, w.0, w.1, at.1))))

-- ---- what walks lead to from a transaction that a later one of its session reaches
pub bound_run : (h : History) (a : ℕ) (run : List ℕ) → a < count h → IsLeastFrom h (IsSessionPair h a) run → slice_index run a ≢ NONE → IsBoundFrom h a run
bound_run h a run low is some = record { long = is.long; reached = λ b reached. go b reached (is.attained a low) }
  where
    by : (b z : ℕ) (steps : List Step) → IsReached h a b → IsSessionPair h a z → Leads h z a steps → slice_index run b ≢ NONE
    by b z steps (walk, w) later leads same =
        let below = within_below h a (length walk) b (walk, w, omega arith) in
        let far = is.least z b (steps ++ walk) later below (leads_append h z a b steps walk leads w.1) in
        omega (arith, far.0, same)

    go : (b : ℕ) → IsReached h a b → (slice_index run a ≡ NONE) ⊎ ((slice_index run a ≤ count h) × IsLedFrom h (IsSessionPair h a) a (slice_index run a))
        → slice_index run b ≢ NONE
    go b reached (inl none) = absurd (some none)
    go b reached (inr (few, (z, later, steps, leads, long))) = by b z steps reached later leads
