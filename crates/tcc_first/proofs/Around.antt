-- Ways of at most two steps and cycles of three, by their links.
use Rattle.std.proofs.Common.{ℕ, ◌≡◌, ◌≢◌, ◌<◌, ◌≤◌, ◌+◌, ◌-◌, ◌⊎◌, inl, inr, Bool, List, [], ◌∷◌, ◌++◌, length, length-append, refl, sym, ◌∙◌, ap, subst, arith}
use Rattle.std.specs.Prelude.{◌↔◌, IsTrue, slice_index_or}
use Rattle.std.specs.List.{Contains}
use Rattle.std.proofs.lemmas.Bool.{cases_lt, cases_eq}
use Rattle.std.proofs.lemmas.List.Elements.{All-contains, Contains-append_right}
use Rattle.tcc_reads.specs.History.{History, IsBySession, count}
use Rattle.tcc_graph.specs.Relations.{IsSessionPair, IsCausalPair}
use Rattle.tcc_graph.specs.Walks.{step_from}
use Rattle.tcc_graph.specs.Levels.{Judged, IsAllowed}
use Rattle.tcc_graph.specs.Links.{IsLink, link_from, link_to, link_cost, cost}
use Rattle.tcc_graph.specs.Routes.{LinksLead, IsCycle, IsLeastCycle, IsUpward, IsUpwardRoute}
use Rattle.tcc_graph.specs.declared.level.Level.{Level}
use Rattle.tcc_graph.specs.declared.level.Level.TheVariants as level
use Rattle.tcc_graph.specs.declared.step.Step.{Step}
use Rattle.tcc_graph.specs.declared.link.Link.{Link}
use Rattle.tcc_graph.specs.declared.link.Link.TheVariants as link
use Rattle.tcc_graph.proofs.Pairs.{step_pair, step_of_kind, pair_below}
use Rattle.tcc_graph.proofs.Linking.{derived_cost, some_cost, cost_cons, cost_append, one_cost, no_links, pair_link, lead_append, lead_split}
use Rattle.tcc_graph.proofs.Upward.{turn_lowest}
use Rattle.tcc_least.specs.Shapes.{NoneBelow, IsRead, IsReturn}
use Rattle.tcc_least.proofs.ReadLemmas.{AreReadsAt}
use Rattle.tcc_least.proofs.ReturnLemmas.{place_of}
use Rattle.tcc_least.proofs.Sessions.{not_itself}
use Rattle.tcc_first.specs.private.Starts.{IsFirstStart}
use Rattle.tcc_first.specs.private.Ways.{IsTwoStep, IsWay, HasPairs, IsAround, IsAroundByPairs, HasStaleSource}
use Rattle.tcc_first.proofs.WayLemmas.{rises_to}

-- the last of some links
pub last_link : (links : List Link) → 0 < length links → (front : List Link) × (l : Link) × (links ≡ front ++ l ∷ [])
last_link [] some = absurd (omega arith)
last_link (l ∷ []) some = ([], l, refl)
last_link (l ∷ (m ∷ links)) some = let w = last_link (m ∷ links) (omega arith) in (l ∷ w.0, w.1, ap (λ ls. l ∷ ls) w.2)

module _ (j : Judged) where
  -- ---- links by what they cost
  pub pair_of : (l : Link) → IsLink j l → link_cost l ≡ 1 → IsCausalPair j.history (link_from l) (link_to l)
  pair_of (link.Session a b) is e = inl is
  pair_of (link.Reads a b x) is e = inr (x, is)
  pair_of (link.Derived b a x c walk) is e = absurd (omega (arith, derived_cost b a x c walk, is.1.0.0, e))

  pub two_step_of : (l : Link) → IsLink j l → link_cost l ≡ 2 → IsTwoStep j.history (link_from l) (link_to l)
  two_step_of (link.Session a b) is e = absurd (omega (arith, e))
  two_step_of (link.Reads a b x) is e = absurd (omega (arith, e))
  two_step_of (link.Derived b a x c []) is e = absurd (omega (arith, is.1.0.0))
  two_step_of (link.Derived b a x c (s ∷ [])) is e =
      let one : IsCausalPair j.history b c
      = subst (λ (z : ℕ). IsCausalPair j.history z c) is.1.0.1.0
      (subst (λ (z : ℕ). IsCausalPair j.history (step_from s) z) is.1.0.1.2 (step_pair j.history s is.1.0.1.1)) in
      (x, c, is.0, one)
  two_step_of (link.Derived b a x c (s ∷ t ∷ walk)) is e = absurd (omega (arith, derived_cost b a x c (s ∷ t ∷ walk), e))

  -- a link that costs more than a step leads to another transaction
  pub apart : (l : Link) → IsLink j l → 2 ≤ link_cost l → link_from l ≢ link_to l
  apart (link.Session a b) is e = absurd (omega (arith, e))
  apart (link.Reads a b x) is e = absurd (omega (arith, e))
  apart (link.Derived b a x c walk) is e = is.0.0

  allowed_one : (s : Step) → IsAllowed j.level (s ∷ [])
  allowed_one s = go j.level
    where
      go : (v : Level) → IsAllowed v (s ∷ [])
      go level.Causal = tt
      go level.Atomic = refl

  pub two_step_link : (b a : ℕ) → IsTwoStep j.history b a → (l : Link) × (link_from l ≡ b) × (link_to l ≡ a) × IsLink j l × (link_cost l ≡ 2)
  two_step_link b a (x, c, against, one) =
      let s = step_of_kind j.history b c one in (
        link.Derived b a x c (s.0 ∷ []),
        refl,
        refl,
        (against, ((omega arith, (s.1, s.3, s.2)), allowed_one s.0)),
        omega (arith, derived_cost b a x c (s.0 ∷ [])),
      )

  -- ---- ways
  pub way_of : (links : List Link) (n s u : ℕ) → n ≤ 2 → LinksLead j s u links → cost links ≡ n → IsWay j.history n s u
  way_of [] n s u low lead e = inl (sym e, lead)
  way_of (l ∷ []) n s u low (from, is, to) e = go (cases_eq n 1)
    where
      costs : link_cost l ≡ n
      costs = omega (arith, e, one_cost l)

      turned : (P : ℕ → ℕ → Type 0) → P (link_from l) (link_to l) → P s u
      turned P p = subst (λ (z : ℕ). P s z) to (subst (λ (z : ℕ). P z (link_to l)) from p)

      go : (n ≡ 1) ⊎ (n ≢ 1) → IsWay j.history n s u
      go (inl one) = inr (inl (one, turned (IsCausalPair j.history) (pair_of l is (omega (arith, costs, one)))))
      go (inr other) =
          let two : n ≡ 2 = omega (arith, low, other, costs, some_cost l) in
          inr (inr (two, inl (turned (IsTwoStep j.history) (two_step_of l is (omega (arith, costs, two))))))
  way_of (l ∷ m ∷ []) n s u low (from, is, (on, more, to)) e =
      let sum : link_cost l + link_cost m ≡ n = omega (arith, e, cost_cons l (m ∷ []), one_cost m) in
      let first : link_cost l ≡ 1 = omega (arith, sum, low, some_cost l, some_cost m) in
      let second : link_cost m ≡ 1 = omega (arith, sum, low, some_cost l, some_cost m) in
      inr (inr (
        omega (arith, sum, first, second),
        inr (
          link_to l,
          subst (λ (z : ℕ). IsCausalPair j.history z (link_to l)) from (pair_of l is first),
          subst (λ (z : ℕ). IsCausalPair j.history (link_to l) z) to (subst (λ (z : ℕ). IsCausalPair j.history z (link_to m)) on (pair_of m more second)),
        ),
      ))
  way_of (l ∷ m ∷ k ∷ links) n s u low lead e =
      absurd (omega (arith, e, low, cost_cons l (m ∷ k ∷ links), cost_cons m (k ∷ links), cost_cons k links, some_cost l, some_cost m, some_cost k))

  pub lead_of : (n s u : ℕ) → IsWay j.history n s u → (front : List Link) × LinksLead j s u front × (cost front ≡ n)
  lead_of n s u (inl (none, same)) = ([], same, sym none)
  lead_of n s u (inr (inl (one, pair))) =
      let l = pair_link j s u pair in (l.0 ∷ [], (l.1, l.3, l.2), omega (arith, one, l.4, one_cost l.0))
  lead_of n s u (inr (inr (two, inl short))) =
      let l = two_step_link s u short in (l.0 ∷ [], (l.1, l.3, l.2), omega (arith, two, l.4, one_cost l.0))
  lead_of n s u (inr (inr (two, inr (w, p, q)))) =
      let l = pair_link j s w p in
      let m = pair_link j w u q in
      (l.0 ∷ m.0 ∷ [], (l.1, l.3, (m.1 ∙ sym l.2, m.3, m.2)), omega (arith, two, l.4, m.4, cost_cons l.0 (m.0 ∷ []), one_cost m.0))

  -- ---- cycles
  pub around_cycle : (n s : ℕ) → IsAround j.history n s → (links : List Link) × IsCycle j s links × (cost links ≡ n)
  around_cycle n s (inl (u, (x, read), up, (m, sum, way))) =
      let (front, lead, costs) = lead_of m s u way in
      let last : Link = link.Reads u s x in (
        front ++ last ∷ [],
        (rw length-append (omega arith), lead_append j s u s front (last ∷ []) lead (refl, read, refl)),
        omega (arith, sum, costs, cost_append front (last ∷ []), one_cost last),
      )
  around_cycle n s (inr (three, (b, (short, back), up))) =
      let l = pair_link j s b back in
      let m = two_step_link b s short in (
        l.0 ∷ m.0 ∷ [],
        (omega arith, (l.1, l.3, (m.1 ∙ sym l.2, m.3, m.2))),
        omega (arith, three, l.4, m.4, cost_cons l.0 (m.0 ∷ []), one_cost m.0),
      )

  module _ (ordered : IsBySession j.history.entries) where
    -- a pair to a number that isn't greater is a read
    read_back : (u m : ℕ) → m ≤ u → IsCausalPair j.history u m → IsRead j.history u m
    read_back u m low (inr read) = read
    read_back u m low (inl p) = absurd (go (cases_lt 0 u))
      where
        go : (0 < u) ⊎ (u ≤ 0) → ⊥
        go (inl some) = omega (arith, low, rises_to j.history ordered u m some p)
        go (inr none) = not_itself j.history u (subst (λ (z : ℕ). IsSessionPair j.history u z) (omega (arith, low, none)) p)

    last_around : (m n : ℕ) (front : List Link) (l : Link) → n ≤ 3 → LinksLead j m m (front ++ l ∷ []) → m ≤ link_from l → cost (front ++ l ∷ []) ≡ n
        → IsAround j.history n m
    last_around m n front l low lead above e = go (cases_eq (link_cost l) 1) (cases_eq (link_cost l) 2)
      where
        parts : (k : ℕ) × LinksLead j m k front × LinksLead j k m (l ∷ [])
        parts = lead_split j m m front (l ∷ []) lead

        there : LinksLead j m (link_from l) front
        there = subst (λ (z : ℕ). LinksLead j m z front) (sym parts.2.0) parts.1

        to : link_to l ≡ m
        to = parts.2.2

        sum : cost front + link_cost l ≡ n
        sum = omega (arith, e, cost_append front (l ∷ []), one_cost l)

        into : (P : ℕ → ℕ → Type 0) → P (link_from l) (link_to l) → P (link_from l) m
        into P p = subst (λ (z : ℕ). P (link_from l) z) to p

        go : (link_cost l ≡ 1) ⊎ (link_cost l ≢ 1) → (link_cost l ≡ 2) ⊎ (link_cost l ≢ 2) → IsAround j.history n m
        go (inl one) k =
            inl (
              link_from l,
              read_back (link_from l) m above (into (IsCausalPair j.history) (pair_of l parts.2.1 one)),
              above,
              (cost front, omega (arith, sum, one), way_of front (cost front) m (link_from l) (omega (arith, low, sum, one)) there refl),
            )
        go (inr other) (inl two) = short (way_of front (cost front) m (link_from l) (omega (arith, low, sum, two)) there refl)
          where
            short : IsWay j.history (cost front) m (link_from l) → IsAround j.history n m
            short (inl (none, same)) = absurd (apart l parts.2.1 (omega (arith, two)) (sym same ∙ sym to))
            short (inr (inl (one, pair))) =
                inr (omega (arith, sum, one, two), (link_from l, (into (IsTwoStep j.history) (two_step_of l parts.2.1 two), pair), above))
            short (inr (inr (more, way))) = absurd (omega (arith, sum, low, two, more))
        go (inr other) (inr another) =
            let none : cost front ≡ 0 = omega (arith, low, sum, other, another, some_cost l) in
            let same : m ≡ link_from l = subst (λ (ls : List Link). LinksLead j m (link_from l) ls) (no_links front none) there in
            absurd (apart l parts.2.1 (omega (arith, other, some_cost l)) (sym same ∙ sym to))

    pub cycle_around : (m n : ℕ) (links : List Link) → n ≤ 3 → IsUpwardRoute j m m links → cost links ≡ n → IsAround j.history n m
    cycle_around m n links low ((some, lead), upward) e =
        let (front, l, split) = last_link links some in
        last_around m n front l low (subst (λ (ls : List Link). LinksLead j m m ls) split lead) (above front l split) (ap cost (sym split) ∙ e)
      where
        above : (front : List Link) (l : Link) → links ≡ front ++ l ∷ [] → m ≤ link_from l
        above front l split =
            (All-contains (IsUpward m) links l upward
            (subst (λ (ls : List Link). Contains ls l) (sym split) (Contains-append_right front (l ∷ []) l (0, omega arith, refl)))).0

    -- ---- where cycles start
    module _ (n : ℕ) (low : n ≤ 3) (none : NoneBelow j n) where
      pub none_around : ((s : ℕ) → IsAround j.history n s → ⊥) → NoneBelow j (n + 1)
      none_around never s links cycle = go (cases_eq (cost links) n)
        where
          go : (cost links ≡ n) ⊎ (cost links ≢ n) → n + 1 ≤ cost links
          go (inl same) =
              let w = turn_lowest j s links cycle in
              absurd (never w.lowest (cycle_around w.lowest n w.turned low w.route (w.costs ∙ same)))
          go (inr other) = omega (arith, none s links cycle, other)

      pub starts_around : (s : ℕ) → IsAround j.history n s → ((t : ℕ) → t < s → IsAround j.history n t → ⊥) → IsFirstStart j s n
      starts_around s around first = record { attained = around_cycle n s around; least = none; lowest = lowest }
        where
          lowest : (t : ℕ) (others : List Link) → IsLeastCycle j t others → s ≤ t
          lowest t others least =
              let w = turn_lowest j t others least.cycle in
              let (links, cycle, costs) = around_cycle n s around in
              let high : cost others ≤ cost links = least.least s links cycle in
              let same : cost w.turned ≡ n = omega (arith, w.costs, high, costs, none t others least.cycle) in
              go w.lowest w.low (cycle_around w.lowest n w.turned low w.route same) (cases_lt w.lowest s)
            where
              go : (m : ℕ) → m ≤ t → IsAround j.history n m → (m < s) ⊎ (s ≤ m) → s ≤ t
              go m below there (inl less) = absurd (first m less there)
              go m below there (inr more) = omega (arith, below, more)

-- it begins at a transaction
pub around_below : (h : History) (n s : ℕ) → IsAround h n s → s < count h
around_below h n s (inl (u, (x, read), up, way)) = read.1
around_below h n s (inr (three, (b, (short, back), up))) = (pair_below h s b back).0

-- ---- the way round, by its last link
pub pairs_way : (h : History) (n s u : ℕ) → HasPairs h n s u → IsWay h n s u
pairs_way h n s u (inl here) = inl here
pairs_way h n s u (inr (inl pair)) = inr (inl pair)
pairs_way h n s u (inr (inr (two, between))) = inr (inr (two, inr between))

module _ (h : History) (n s : ℕ) where
  abbrev pub HasReturn : Type 0
  HasReturn = (b : ℕ) × IsReturn h b s × (s ≤ b)

  pub by_pairs : IsAroundByPairs h n s → IsAround h n s
  by_pairs (u, read, up, (m, sum, pairs)) = inl (u, read, up, (m, sum, pairs_way h m s u pairs))

  pub by_stale : n ≡ 3 → HasStaleSource h s → IsAround h n s
  by_stale three (u, read, up, short) = inl (u, read, up, (2, omega (arith, three), inr (inr (refl, inl short))))

  pub by_return : n ≡ 3 → HasReturn → IsAround h n s
  by_return three back = inr (three, back)

  -- over a source by pairs, or by two steps to it
  over_source : (u m : ℕ) → IsRead h u s → s ≤ u → m + 1 ≡ n → IsWay h m s u → IsAroundByPairs h n s ⊎ ((n ≡ 3) × (HasStaleSource h s ⊎ HasReturn))
  over_source u m read up sum (inl here) = inl (u, read, up, (m, sum, inl here))
  over_source u m read up sum (inr (inl pair)) = inl (u, read, up, (m, sum, inr (inl pair)))
  over_source u m read up sum (inr (inr (two, inl short))) = inr (omega (arith, sum, two), inl (u, read, up, short))
  over_source u m read up sum (inr (inr (two, inr between))) = inl (u, read, up, (m, sum, inr (inr (two, between))))

  pub around_cases : IsAround h n s → IsAroundByPairs h n s ⊎ ((n ≡ 3) × (HasStaleSource h s ⊎ HasReturn))
  around_cases (inl (u, read, up, (m, sum, way))) = over_source u m read up sum way
  around_cases (inr (three, back)) = inr (three, inr back)

  -- ---- the loop over what s reads
  pub none_over : (reads : List (ℕ × ℕ)) → AreReadsAt h s reads → s < count h → (k : ℕ) → length reads ≤ k
      → ((i : ℕ) → i < k → s ≤ (slice_index_or reads i (0, 0)).1 → HasPairs h (n - 1) s (slice_index_or reads i (0, 0)).1 → ⊥)
      → IsAroundByPairs h n s → ⊥
  none_over reads are below k all none (u, (x, read), up, (m, sum, pairs)) =
      let w = place_of h s reads are below u x read in
      let same : m ≡ n - 1 = omega (arith, sum) in
      let there : HasPairs h (n - 1) s u = subst (λ (z : ℕ). HasPairs h z s u) same pairs in
      none w.0 (omega (arith, all, w.1)) (omega (arith, up, w.2)) (subst (λ (z : ℕ). HasPairs h (n - 1) s z) (sym w.2) there)

  -- ---- by what was found
  pub none_around_by : (IsAroundByPairs h n s → ⊥) → n ≢ 3 → IsAround h n s → ⊥
  none_around_by none other around = go (around_cases around)
    where
      go : IsAroundByPairs h n s ⊎ ((n ≡ 3) × (HasStaleSource h s ⊎ HasReturn)) → ⊥
      go (inl pairs) = none pairs
      go (inr (three, more)) = other three

  pub around_or : (r : Bool) → n ≡ 3 → (IsAroundByPairs h n s → ⊥) → (HasStaleSource h s → ⊥) → IsTrue r ↔ HasReturn → IsTrue r ↔ IsAround h n s
  around_or r three none fresh both = ((λ e. by_return three (both.0 e)), (λ around. go (around_cases around)))
    where
      go : IsAroundByPairs h n s ⊎ ((n ≡ 3) × (HasStaleSource h s ⊎ HasReturn)) → IsTrue r
      go (inl pairs) = absurd (none pairs)
      go (inr (same, inl stale)) = absurd (fresh stale)
      go (inr (same, inr back)) = both.1 back
