-- Which transactions reach others in a numbered history: session pairs, parents, and walks by their last pair.
use Rattle.std.proofs.Common.{◌≡◌, ◌≢◌, ◌<◌, ◌-◌, ◌==◌, ◌↔◌, ◌⊎◌, inl, inr, ℕ, zero, suc, Bool, true, false, ◌&&◌, ◌||◌, List, [], ◌∷◌, filter, nat_lt}
use Rattle.std.proofs.Common.{refl, sym, ap, ◌∙◌, subst, arith}
use Rattle.std.specs.List.{Contains}
use Rattle.std.proofs.lemmas.Bool.{cases_Bool, cases_eq, cases_order, or_cases, or_left, or_right, and_parts, and_from, ltb-true, lt-ltb, eqb-true, eq-eqb}
use Rattle.std.proofs.lemmas.Bool.{ne_eqb, false≢true}
use Rattle.std.proofs.lemmas.List.Elements.{All-contains, Contains-append_left, Contains-append_right, Contains-append_cases}
use Rattle.tcc_txn.proofs.Lists.{in_filter, from_filter, in_map, from_map}
use Rattle.tcc_reads.specs.History.{History, count, entry_at, owner, place}
use Rattle.tcc_graph.specs.Relations.{session_pair, IsSessionPair, reads_from, IsCausalPair}
use Rattle.tcc_graph.specs.Walks.{step_to, IsWalk, IsReached}
use Rattle.tcc_graph.specs.declared.step.Step.{Step}
use Rattle.tcc_graph.proofs.Pairs.{step_pair}
use Rattle.tcc_graph.proofs.Walking.{pair_walk, walk_on}
use Rattle.tcc_reads.specs.History.{IsBySession}
use Rattle.tcc_clocks.specs.Parents.{previous, previous_one, sources, HasSourcesAt, parents}

-- ---- session pairs
-- of one session, and in their order there
abbrev pub IsInSession : History → ℕ → ℕ → Type 0
IsInSession h a b = (0 < a) × (0 < b) × (owner h a ≡ owner h b) × (place h a < place h b)

abbrev inner : History → ℕ → ℕ → Bool
inner h a b = nat_lt 0 a && nat_lt 0 b && (owner h a == owner h b) && nat_lt (place h a) (place h b)

abbrev whose : History → ℕ → ℕ → Bool
whose h a b = ((a == 0) && nat_lt 0 b) || inner h a b

session_kinds : (h : History) (a b : ℕ) → IsSessionPair h a b → ((a ≡ 0) × (0 < b)) ⊎ IsInSession h a b
session_kinds h a b p = go (or_cases ((a == 0) && nat_lt 0 b) (inner h a b) (and_parts (nat_lt a (count h) && nat_lt b (count h)) (whose h a b) p).1)
  where
    go : (((a == 0) && nat_lt 0 b) ≡ true) ⊎ (inner h a b ≡ true) → ((a ≡ 0) × (0 < b)) ⊎ IsInSession h a b
    go (inl first) = let w = and_parts (a == 0) (nat_lt 0 b) first in inl (eqb-true a 0 w.0, ltb-true 0 b w.1)
    go (inr one) =
        let w = and_parts (nat_lt 0 a && nat_lt 0 b && (owner h a == owner h b)) (nat_lt (place h a) (place h b)) one in
        let v = and_parts (nat_lt 0 a && nat_lt 0 b) (owner h a == owner h b) w.0 in
        let u = and_parts (nat_lt 0 a) (nat_lt 0 b) v.0 in
        inr (ltb-true 0 a u.0, ltb-true 0 b u.1, eqb-true (owner h a) (owner h b) v.1, ltb-true (place h a) (place h b) w.1)

pub session_ends : (h : History) (a b : ℕ) → IsSessionPair h a b → (a < count h) × (b < count h)
session_ends h a b p =
    let w = and_parts (nat_lt a (count h)) (nat_lt b (count h)) (and_parts (nat_lt a (count h) && nat_lt b (count h)) (whose h a b) p).0 in
    (ltb-true a (count h) w.0, ltb-true b (count h) w.1)

pub session_init : (h : History) (b : ℕ) → 0 < b → b < count h → IsSessionPair h 0 b
session_init h b some below =
    and_from _ _ (and_from _ _ (lt-ltb 0 (count h) (omega arith)) (lt-ltb b (count h) below)) (or_left _ _ (lt-ltb 0 b some))

session_from : (h : History) (a b : ℕ) → a < count h → b < count h → IsInSession h a b → IsSessionPair h a b
session_from h a b from to (some, more, same, less) =
    and_from _ _ (and_from _ _ (lt-ltb a (count h) from) (lt-ltb b (count h) to))
    (or_right _ _ (and_from _ _ (and_from _ _ (and_from _ _ (lt-ltb 0 a some) (lt-ltb 0 b more)) (eq-eqb (owner h a) (owner h b) same))
    (lt-ltb (place h a) (place h b) less)))

-- nothing is before `init` in its session
pub none_before : (h : History) (a : ℕ) → IsSessionPair h a 0 → ⊥
none_before h a p = go (session_kinds h a 0 p)
  where
    go : ((a ≡ 0) × (0 < 0)) ⊎ IsInSession h a 0 → ⊥
    go (inl w) = omega (arith, w.1)
    go (inr w) = omega (arith, w.1)

module _ (h : History) (numbered : IsBySession h.entries) where
  -- the numbers of a session ascend
  pub session_rises : (a b : ℕ) → IsSessionPair h a b → a < b
  session_rises a b p = go (session_kinds h a b p)
    where
      in_order : IsInSession h a b → (a ≡ b) ⊎ ((a < b) ⊎ (b < a)) → a < b
      in_order w (inl same) = absurd (let less : place h b < place h b = rw same at w.3 in omega arith)
      in_order w (inr (inl less)) = less
      in_order w (inr (inr more)) = absurd (omega (arith, w.3, (numbered b a more (session_ends h a b p).0).1 (sym w.2)))

      go : ((a ≡ 0) × (0 < b)) ⊎ IsInSession h a b → a < b
      go (inl w) = omega (arith, w.0, w.1)
      go (inr w) = in_order w (cases_order a b)

  -- both are of one session, in the order of their numbers
  pub same_session : (b d : ℕ) → 0 < b → b < d → d < count h → owner h b ≡ owner h d → IsSessionPair h b d
  same_session b d some less below same =
      session_from h b d (omega (arith, less, below)) below (some, omega (arith, less), same, (numbered b d less below).1 same)

  -- between a transaction and another of its session there are only transactions of the session
  between : (a c : ℕ) → IsInSession h a c → a < c - 1 → c < count h → IsInSession h a (c - 1) × IsInSession h (c - 1) c
  between a c w less below =
      let low = (numbered a (c - 1) less (omega arith)).0 in
      let high = (numbered (c - 1) c (omega (arith, w.1)) below).0 in
      let one : owner h a ≡ owner h (c - 1) = omega (arith, w.2) in
      let two : owner h (c - 1) ≡ owner h c = omega (arith, w.2) in
      let some : 0 < c - 1 = omega (arith, w.0) in
      ((w.0, some, one, (numbered a (c - 1) less (omega arith)).1 one), (some, w.1, two, (numbered (c - 1) c (omega (arith, w.1)) below).1 two))

  -- what is before c in its session is the one right before it, or is before that one
  pub nearest : (a c : ℕ) → IsSessionPair h a c → (a ≡ previous h c) ⊎ IsSessionPair h a (previous h c)
  nearest a c p = go (cases_Bool (session_pair h (c - 1) c)) (session_kinds h a c p)
    where
      below : c < count h
      below = (session_ends h a c p).1

      less : a < c
      less = session_rises a c p

      after : ((a ≡ 0) × (0 < c)) ⊎ IsInSession h a c → (a ≡ c - 1) ⊎ (a ≢ c - 1) → (a ≡ c - 1) ⊎ IsSessionPair h a (c - 1)
      after kind (inl same) = inl same
      after (inl first) (inr other) =
          inr (subst (λ (z : ℕ). IsSessionPair h z (c - 1)) (sym first.0) (session_init h (c - 1) (omega (arith, first.0, first.1)) (omega (arith, below))))
      after (inr one) (inr other) =
          inr (session_from h a (c - 1) (omega (arith, less, below)) (omega (arith, below)) (between a c one (omega (arith, less)) below).0)

      alone : session_pair h (c - 1) c ≡ false → IsInSession h a c → (a ≡ c - 1) ⊎ (a ≢ c - 1) → ⊥
      alone miss one (inl same) = false≢true (sym miss ∙ (ap (λ x. session_pair h x c) (sym same) ∙ p))
      alone miss one (inr other) = false≢true (sym miss ∙ session_from h (c - 1) c (omega (arith, below)) below (between a c one (omega (arith, less)) below).1)

      go : (session_pair h (c - 1) c ≡ true) ⊎ (session_pair h (c - 1) c ≡ false) → ((a ≡ 0) × (0 < c)) ⊎ IsInSession h a c
          → (a ≡ previous h c) ⊎ IsSessionPair h a (previous h c)
      go (inl yes_pair) kind = rw yes_pair (after kind (cases_eq a (c - 1)))
      go (inr miss) (inl first) = rw miss (inl first.0)
      go (inr miss) (inr one) = absurd (alone miss one (cases_eq a (c - 1)))

  pub parent_before : (c : ℕ) → 0 < c → c < count h → IsSessionPair h (previous h c) c
  parent_before c some below = go (cases_Bool (session_pair h (c - 1) c))
    where
      go : (session_pair h (c - 1) c ≡ true) ⊎ (session_pair h (c - 1) c ≡ false) → IsSessionPair h (previous h c) c
      go (inl pair) = rw pair pair
      go (inr not_pair) = rw not_pair (session_init h c some below)

  session_join : (a b c : ℕ) → IsSessionPair h a b → IsSessionPair h b c → IsSessionPair h a c
  session_join a b c p q = go (session_kinds h a b p) (session_kinds h b c q)
    where
      from : a < count h
      from = (session_ends h a b p).0

      to : c < count h
      to = (session_ends h b c q).1

      go : ((a ≡ 0) × (0 < b)) ⊎ IsInSession h a b → ((b ≡ 0) × (0 < c)) ⊎ IsInSession h b c → IsSessionPair h a c
      go (inl first) kind = rw first.0 (session_init h c (omega (arith, session_rises b c q)) to)
      go (inr one) (inl first) = absurd (omega (arith, one.1, first.0))
      go (inr one) (inr two) = session_from h a c from to (one.0, two.1, one.2 ∙ two.2, omega (arith, one.3, two.3))

  -- the session pairs into c, by those into the one right before it
  pub session_more : (b c : ℕ) → 0 < c → c < count h → IsSessionPair h b c ↔ (IsSessionPair h b (previous h c) ⊎ (b ≡ previous h c))
  session_more b c some below = (there, back)
    where
      swap : (b ≡ previous h c) ⊎ IsSessionPair h b (previous h c) → IsSessionPair h b (previous h c) ⊎ (b ≡ previous h c)
      swap (inl x) = inr x
      swap (inr x) = inl x

      there : IsSessionPair h b c → IsSessionPair h b (previous h c) ⊎ (b ≡ previous h c)
      there p = swap (nearest b c p)

      back : IsSessionPair h b (previous h c) ⊎ (b ≡ previous h c) → IsSessionPair h b c
      back (inl p) = session_join b (previous h c) c p (parent_before c some below)
      back (inr same) = subst (λ (x : ℕ). IsSessionPair h x c) (sym same) (parent_before c some below)

-- unless it is `init`, the parent is the number before
pub parent_or_init : (h : History) (c : ℕ) → previous h c ≢ 0 → previous h c ≡ c - 1
parent_or_init h c other = go (cases_Bool (session_pair h (c - 1) c))
  where
    init : session_pair h (c - 1) c ≡ false → previous h c ≡ 0
    init miss = rw miss refl

    go : (session_pair h (c - 1) c ≡ true) ⊎ (session_pair h (c - 1) c ≡ false) → previous h c ≡ c - 1
    go (inl pair) = rw pair refl
    go (inr miss) = absurd (other (init miss))

pub parent_less : (h : History) (c : ℕ) → 0 < c → previous h c < c
parent_less h c some = go (cases_Bool (session_pair h (c - 1) c))
  where
    go : (session_pair h (c - 1) c ≡ true) ⊎ (session_pair h (c - 1) c ≡ false) → previous h c < c
    go (inl pair) = rw pair (omega arith)
    go (inr miss) = rw miss (omega arith)

-- ---- sources

pub source_reads : (h : History) (a c : ℕ) → Contains (sources h c) a → (x : List ℕ) × Contains (reads_from h a c) x
source_reads h a c there =
    let w = from_map (λ (read : List ℕ × ℕ). read.1) (entry_at h c).reads a there in (
      w.0.0,
      in_map (λ (read : List ℕ × ℕ). read.0) (filter (λ read. read.1 == a) (entry_at h c).reads) w.0
          (in_filter (λ (read : List ℕ × ℕ). read.1 == a) (entry_at h c).reads w.0 w.1 (eq-eqb w.0.1 a w.2)),
    )

pub reads_source : (h : History) (a c : ℕ) (x : List ℕ) → Contains (reads_from h a c) x → Contains (sources h c) a
reads_source h a c x there =
    let w = from_map (λ (read : List ℕ × ℕ). read.0) (filter (λ read. read.1 == a) (entry_at h c).reads) x there in
    let v = from_filter (λ (read : List ℕ × ℕ). read.1 == a) (entry_at h c).reads w.0 w.1 in
    subst (λ (y : ℕ). Contains (sources h c) y) (eqb-true w.0.1 a v.1) (in_map (λ (read : List ℕ × ℕ). read.1) (entry_at h c).reads w.0 v.0)

pub source_below : (h : History) (a c : ℕ) → HasSourcesAt h c → Contains (sources h c) a → a < count h
source_below h a c all there =
    let w = from_map (λ (read : List ℕ × ℕ). read.1) (entry_at h c).reads a there in
    rw (← w.2) (All-contains (λ (read : List ℕ × ℕ). read.1 < count h) (entry_at h c).reads w.0 all w.1)

-- the causal pairs into c: the session pairs, and those from sources
pub pairs_into : (h : History) (b c : ℕ) → c < count h → HasSourcesAt h c → IsCausalPair h b c ↔ (IsSessionPair h b c ⊎ Contains (sources h c) b)
pairs_into h b c below all = (there, back)
  where
    there : IsCausalPair h b c → IsSessionPair h b c ⊎ Contains (sources h c) b
    there (inl p) = inl p
    there (inr (x, p)) = inr (reads_source h b c x p.2)

    back : IsSessionPair h b c ⊎ Contains (sources h c) b → IsCausalPair h b c
    back (inl p) = inl p
    back (inr s) = let w = source_reads h b c s in inr (w.0, (source_below h b c all s, below, w.1))

-- ---- parents
pub parent_one : (h : History) (c p : ℕ) → Contains (previous_one h c) p → (0 < c) × (p ≡ previous h c)
parent_one h c p there = go (cases_eq c 0)
  where
    alone : Contains (previous h c ∷ []) p → p ≡ previous h c
    alone (zero, l, e) = sym e
    alone (suc k, l, e) = absurd (omega arith)

    nobody : Contains {X = ℕ} [] p → ⊥
    nobody (k, l, e) = omega arith

    go : (c ≡ 0) ⊎ (c ≢ 0) → (0 < c) × (p ≡ previous h c)
    go (inl same) = absurd (nobody (rw (eq-eqb c 0 same) at there))
    go (inr other) = (omega arith, alone (rw (ne_eqb c 0 other) at there))

pub one_parent : (h : History) (c : ℕ) → 0 < c → Contains (previous_one h c) (previous h c)
one_parent h c some =
    let other : c ≢ 0 = omega arith in
    rw (ne_eqb c 0 other) (0, omega arith, refl)

module _ (h : History) (numbered : IsBySession h.entries) (c : ℕ) (below : c < count h) (all : HasSourcesAt h c) where
  pub parent_pair : (p : ℕ) → Contains (parents h c) p → IsCausalPair h p c
  parent_pair p there = go (Contains-append_cases (previous_one h c) (sources h c) p there)
    where
      go : Contains (previous_one h c) p ⊎ Contains (sources h c) p → IsCausalPair h p c
      go (inl one) = let w = parent_one h c p one in inl (rw w.1 (parent_before h numbered c w.0 below))
      go (inr s) = (pairs_into h p c below all).1 (inr s)

  pub parents_all : (a : ℕ) → IsCausalPair h a c → Contains (parents h c) a ⊎ ((p : ℕ) × Contains (parents h c) p × IsCausalPair h a p)
  parents_all a (inr (x, p)) = inl (Contains-append_right (previous_one h c) (sources h c) a (reads_source h a c x p.2))
  parents_all a (inl p) = go (nearest h numbered a c p)
    where
      mine : Contains (parents h c) (previous h c)
      mine = Contains-append_left (previous_one h c) (sources h c) (previous h c) (one_parent h c (omega (arith, session_rises h numbered a c p)))

      go : (a ≡ previous h c) ⊎ IsSessionPair h a (previous h c)
          → Contains (parents h c) a ⊎ ((p : ℕ) × Contains (parents h c) p × IsCausalPair h a p)
      go (inl same) = inl (rw same mine)
      go (inr before) = inr (previous h c, mine, inl before)

-- ---- walks by their last pair
pub last_pair : (h : History) (b c : ℕ) (walk : List Step) → IsWalk h b c walk → IsCausalPair h b c ⊎ ((u : ℕ) × IsReached h b u × IsCausalPair h u c)
last_pair h b c [] w = absurd (omega (arith, w.0))
last_pair h b c (s ∷ []) w = inl (rw (← w.1.0, ← w.1.2) (step_pair h s w.1.1))
last_pair h b c (s ∷ t ∷ steps) w = inr (go (last_pair h (step_to s) c (t ∷ steps) (omega arith, w.1.2)))
  where
    one : IsCausalPair h b (step_to s)
    one = subst (λ (z : ℕ). IsCausalPair h z (step_to s)) w.1.0 (step_pair h s w.1.1)

    go : IsCausalPair h (step_to s) c ⊎ ((u : ℕ) × IsReached h (step_to s) u × IsCausalPair h u c) → (u : ℕ) × IsReached h b u × IsCausalPair h u c
    go (inl last) = let v = pair_walk h b (step_to s) one in (step_to s, (v.0, v.1), last)
    go (inr (u, (walk, is), last)) = (u, (s ∷ walk, (omega arith, (w.1.0, w.1.1, is.1))), last)

abbrev pub IsBehindBy : History → ℕ → ℕ → Type 0
IsBehindBy h b c = IsCausalPair h b c ⊎ ((p : ℕ) × Contains (parents h c) p × IsReached h b p)

-- c is reached from what a causal pair into it begins at, and from what reaches its parents
pub reached_by : (h : History) → IsBySession h.entries → (b c : ℕ) → c < count h → HasSourcesAt h c → IsBehindBy h b c ↔ IsReached h b c
reached_by h numbered b c below all = (there, λ w. back (last_pair h b c w.0 w.1))
  where
    there : IsBehindBy h b c → IsReached h b c
    there (inl p) = let w = pair_walk h b c p in (w.0, w.1)
    there (inr (p, parent, reached)) = let w = walk_on h b p c reached.0 reached.1 (parent_pair h numbered c below all p parent) in (w.0, w.1)

    by : (u : ℕ) → IsReached h b u → Contains (parents h c) u ⊎ ((p : ℕ) × Contains (parents h c) p × IsCausalPair h u p) → IsBehindBy h b c
    by u reached (inl parent) = inr (u, parent, reached)
    by u reached (inr (p, parent, pair)) = let w = walk_on h b u p reached.0 reached.1 pair in inr (p, parent, (w.0, w.1))

    back : IsCausalPair h b c ⊎ ((u : ℕ) × IsReached h b u × IsCausalPair h u c) → IsBehindBy h b c
    back (inl p) = inl p
    back (inr (u, reached, pair)) = by u reached (parents_all h numbered c below all u pair)
