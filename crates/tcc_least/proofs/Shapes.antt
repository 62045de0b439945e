-- A cycle that costs at most three steps has one of the shapes, and what has one of them is a cycle.
use Rattle.std.proofs.Common.{ℕ, ◌+◌, ◌<◌, ◌≤◌, ◌≡◌, ◌⊎◌, inl, inr, List, [], ◌∷◌, refl, sym, ◌∙◌, subst, arith}
use Rattle.std.specs.Prelude.{◌≢◌}
use Rattle.std.proofs.lemmas.Bool.{cases_lt}
use Rattle.tcc_reads.specs.History.{History}
use Rattle.tcc_graph.specs.Relations.{IsCausalPair}
use Rattle.tcc_graph.specs.Walks.{step_from}
use Rattle.tcc_graph.specs.Levels.{Judged, IsAllowed}
use Rattle.tcc_graph.specs.Links.{MayContradict, IsLink, link_from, link_to, link_cost, cost}
use Rattle.tcc_graph.specs.Routes.{IsCycle}
use Rattle.tcc_graph.specs.declared.level.Level.{Level}
use Rattle.tcc_graph.specs.declared.level.Level.TheVariants as level
use Rattle.tcc_graph.specs.declared.step.Step.{Step}
use Rattle.tcc_graph.specs.declared.link.Link.{Link}
use Rattle.tcc_graph.specs.declared.link.Link.TheVariants as link
use Rattle.tcc_graph.proofs.Pairs.{step_pair, step_of_kind}
use Rattle.tcc_graph.proofs.Linking.{derived_cost, some_cost, cost_cons, one_cost, pair_link}
use Rattle.tcc_least.specs.Shapes.{NoneBelow, SomeBelow, IsRound, IsReturn}
use Rattle.tcc_least.proofs.Sessions.{session_on, not_itself, not_back}

-- some round of fewer than n pairs
abbrev pub HasRound : History → ℕ → Type 0
HasRound h n = (a : ℕ) × (c : ℕ) × IsRound h n a c

-- ---- pairs round
module _ (h : History) (n : ℕ) where
  one_pair : (a : ℕ) → 1 < n → IsCausalPair h a a → HasRound h n
  one_pair a few (inl s) = absurd (not_itself h a s)
  one_pair a few (inr r) = (a, a, (r, inl (few, refl)))

  two_pairs : (a b : ℕ) → 2 < n → IsCausalPair h a b → IsCausalPair h b a → HasRound h n
  two_pairs a b few (inl p) (inl q) = absurd (not_back h a b p q)
  two_pairs a b few (inr p) q = (a, b, (p, inr (inl (few, q))))
  two_pairs a b few (inl p) (inr q) = (b, a, (q, inr (inl (few, inl p))))

  three_pairs : (a b c : ℕ) → 3 < n → IsCausalPair h a b → IsCausalPair h b c → IsCausalPair h c a → HasRound h n
  three_pairs a b c few (inr p) (inr q) r = (b, c, (q, inr (inr (few, (a, p, r)))))
  three_pairs a b c few (inl p) (inl q) r = two_pairs a c (omega arith) (inl (session_on h a b c p q)) r
  three_pairs a b c few (inl p) (inr q) (inl r) = two_pairs c b (omega arith) (inl (session_on h c a b r p)) (inr q)
  three_pairs a b c few (inl p) (inr q) (inr r) = (c, a, (r, inr (inr (few, (b, q, inl p)))))
  three_pairs a b c few (inr p) (inl q) (inl r) = two_pairs b a (omega arith) (inl (session_on h b c a q r)) (inr p)
  three_pairs a b c few (inr p) (inl q) (inr r) = (a, b, (p, inr (inr (few, (c, r, inl q)))))

-- ---- links by cost
-- a derived link of two steps from b to a
abbrev pub IsShort : History → ℕ → ℕ → Type 0
IsShort h b a = (x : List ℕ) × (c : ℕ) × MayContradict h b a x c × IsCausalPair h b c

data Kind (h : History) (l : Link) : Type 0 where
  pair : IsCausalPair h (link_from l) (link_to l) → link_cost l ≡ 1 → Kind h l
  short : IsShort h (link_from l) (link_to l) → link_cost l ≡ 2 → Kind h l
  long : link_from l ≢ link_to l → 3 ≤ link_cost l → Kind h l

module _ (j : Judged) where
  kind_of : (l : Link) → IsLink j l → Kind j.history l
  kind_of (link.Session a b) is = pair (inl is) refl
  kind_of (link.Reads a b x) is = pair (inr (x, is)) refl
  kind_of (link.Derived b a x c []) is = absurd (omega (arith, is.1.0.0))
  kind_of (link.Derived b a x c (s ∷ [])) is =
      let one : IsCausalPair j.history b c
      = subst (λ (z : ℕ). IsCausalPair j.history z c) is.1.0.1.0
      (subst (λ (z : ℕ). IsCausalPair j.history (step_from s) z) is.1.0.1.2 (step_pair j.history s is.1.0.1.1)) in
      short (x, c, is.0, one) refl
  kind_of (link.Derived b a x c (s ∷ t ∷ walk)) is = long is.0.0 (omega (arith, derived_cost b a x c (s ∷ t ∷ walk)))

  -- ---- cycles by their links
  abbrev pub HasShape : ℕ → Type 0
  HasShape n = HasRound j.history n ⊎ ((3 < n) × ((b : ℕ) × (a : ℕ) × IsReturn j.history b a))

  around_one : (n s : ℕ) (l : Link) → IsCycle j s (l ∷ []) → cost (l ∷ []) < n → HasShape n
  around_one n s l cycle few = go (kind_of l cycle.1.1)
    where
      itself : link_from l ≡ link_to l
      itself = cycle.1.0 ∙ sym cycle.1.2

      go : Kind j.history l → HasShape n
      go (pair p one) =
          inl (one_pair j.history n (link_to l) (omega (arith, few, one_cost l)) (subst (λ (z : ℕ). IsCausalPair j.history z (link_to l)) itself p))
      go (short p two) = absurd (p.2.0 itself)
      go (long other three) = absurd (other itself)

  around_two : (n s : ℕ) (l m : Link) → n ≤ 4 → IsCycle j s (l ∷ m ∷ []) → cost (l ∷ m ∷ []) < n → HasShape n
  around_two n s l m low cycle few = go (kind_of l cycle.1.1) (kind_of m cycle.1.2.1)
    where
      on : link_from m ≡ link_to l
      on = cycle.1.2.0

      back : link_to m ≡ link_from l
      back = cycle.1.2.2 ∙ sym cycle.1.0

      sum : link_cost l + link_cost m < n
      sum = omega (arith, few, cost_cons l (m ∷ []), one_cost m)

      -- what holds from the start of m to its end holds from the end of l to its start
      turned : (P : ℕ → ℕ → Type 0) → P (link_from m) (link_to m) → P (link_to l) (link_from l)
      turned P p = subst (λ (z : ℕ). P (link_to l) z) back (subst (λ (z : ℕ). P z (link_to m)) on p)

      go : Kind j.history l → Kind j.history m → HasShape n
      go (pair p one) (pair q other) = inl (two_pairs j.history n (link_from l) (link_to l) (omega (arith, sum)) p (turned (IsCausalPair j.history) q))
      go (short p two) (pair q other) = inr (omega (arith, sum), (link_from l, link_to l, (p, turned (IsCausalPair j.history) q)))
      go (pair p one) (short q two) = inr (omega (arith, sum), (link_to l, link_from l, (turned (IsShort j.history) q, p)))
      go (short p two) (short q other) = absurd (omega (arith, sum))
      go (long other three) q = absurd (omega (arith, sum, some_cost m))
      go p (long other three) = absurd (omega (arith, sum, some_cost l))

  around_three : (n s : ℕ) (l m k : Link) → n ≤ 4 → IsCycle j s (l ∷ m ∷ k ∷ []) → cost (l ∷ m ∷ k ∷ []) < n → HasShape n
  around_three n s l m k low cycle few = go (kind_of l cycle.1.1) (kind_of m cycle.1.2.1) (kind_of k cycle.1.2.2.1)
    where
      sum : link_cost l + (link_cost m + link_cost k) < n
      sum = omega (arith, few, cost_cons l (m ∷ k ∷ []), cost_cons m (k ∷ []), one_cost k)

      go : Kind j.history l → Kind j.history m → Kind j.history k → HasShape n
      go (pair p one) (pair q two) (pair r three) =
          inl (three_pairs j.history n (link_from l) (link_to l) (link_to m) (omega (arith, sum)) p
          (subst (λ (z : ℕ). IsCausalPair j.history z (link_to m)) cycle.1.2.0 q)
          (subst (λ (z : ℕ). IsCausalPair j.history (link_to m) z) (cycle.1.2.2.2 ∙ sym cycle.1.0)
          (subst (λ (z : ℕ). IsCausalPair j.history z (link_to k)) cycle.1.2.2.0 r)))
      go (short p two) q r = absurd (omega (arith, sum, some_cost m, some_cost k))
      go (long p two) q r = absurd (omega (arith, sum, some_cost m, some_cost k))
      go p (short q two) r = absurd (omega (arith, sum, some_cost l, some_cost k))
      go p (long q two) r = absurd (omega (arith, sum, some_cost l, some_cost k))
      go p q (short r two) = absurd (omega (arith, sum, some_cost l, some_cost m))
      go p q (long r two) = absurd (omega (arith, sum, some_cost l, some_cost m))

  pub shape_of : (n s : ℕ) (links : List Link) → n ≤ 4 → IsCycle j s links → cost links < n → HasShape n
  shape_of n s [] low cycle few = absurd (omega (arith, cycle.0))
  shape_of n s (l ∷ []) low cycle few = around_one n s l cycle few
  shape_of n s (l ∷ m ∷ []) low cycle few = around_two n s l m low cycle few
  shape_of n s (l ∷ m ∷ k ∷ []) low cycle few = around_three n s l m k low cycle few
  shape_of n s (l ∷ m ∷ k ∷ o ∷ links) low cycle few =
      absurd (omega (
        arith,
        few,
        cost_cons l (m ∷ k ∷ o ∷ links),
        cost_cons m (k ∷ o ∷ links),
        cost_cons k (o ∷ links),
        cost_cons o links,
        some_cost l,
        some_cost m,
        some_cost k,
        some_cost o,
      ))

  -- ---- and back
  pairs_cycle : (a c : ℕ) → IsCausalPair j.history a c → IsCausalPair j.history c a → (links : List Link) × IsCycle j a links × (cost links ≡ 2)
  pairs_cycle a c p q =
      let l = pair_link j a c p in
      let m = pair_link j c a q in (
        l.0 ∷ m.0 ∷ [],
        (omega arith, (l.1, l.3, (m.1 ∙ sym l.2, m.3, m.2))),
        omega (arith, l.4, m.4, cost_cons l.0 (m.0 ∷ []), one_cost m.0),
      )

  round_cycle : (n a c : ℕ) → IsRound j.history n a c → SomeBelow j n
  round_cycle n a c ((x, r), inl (few, same)) =
      (a, link.Reads a c x ∷ [], (omega arith, (refl, r, same)), omega (arith, few))
  round_cycle n a c ((x, r), inr (inl (few, back))) =
      let w = pairs_cycle a c (inr (x, r)) back in (a, w.0, w.1, omega (arith, few, w.2))
  round_cycle n a c ((x, r), inr (inr (few, (d, (y, q), back)))) =
      let l = pair_link j c d back in (
        d,
        link.Reads d a y ∷ link.Reads a c x ∷ l.0 ∷ [],
        (omega arith, (refl, q, (refl, r, (l.1, l.3, l.2)))),
        omega (
          arith,
          few,
          l.4,
          cost_cons (link.Reads d a y) (link.Reads a c x ∷ l.0 ∷ []),
          cost_cons (link.Reads a c x) (l.0 ∷ []),
          one_cost l.0,
        ),
      )

  allowed_one : (s : Step) → IsAllowed j.level (s ∷ [])
  allowed_one s = go j.level
    where
      go : (v : Level) → IsAllowed v (s ∷ [])
      go level.Causal = tt
      go level.Atomic = refl

  return_cycle : (n b a : ℕ) → 3 < n → IsReturn j.history b a → SomeBelow j n
  return_cycle n b a few ((x, c, against, one), back) =
      let s = step_of_kind j.history b c one in
      let l = pair_link j a b back in
      let first : Link = link.Derived b a x c (s.0 ∷ []) in (
        b,
        first ∷ l.0 ∷ [],
        (omega arith, (refl, (against, ((omega arith, (s.1, s.3, s.2)), allowed_one s.0)), (l.1, l.3, l.2))),
        omega (arith, few, l.4, derived_cost b a x c (s.0 ∷ []), cost_cons first (l.0 ∷ []), one_cost l.0),
      )

  pub shape_cycle : (n : ℕ) → HasShape n → SomeBelow j n
  shape_cycle n (inl (a, c, round)) = round_cycle n a c round
  shape_cycle n (inr (few, (b, a, return))) = return_cycle n b a few return

  pub none_below : (n : ℕ) → n ≤ 4 → ((a c : ℕ) → IsRound j.history n a c → ⊥) → (3 < n → (b a : ℕ) → IsReturn j.history b a → ⊥) → NoneBelow j n
  none_below n low rounds returns s links cycle = least (cases_lt (cost links) n)
    where
      go : HasShape n → ⊥
      go (inl (a, c, round)) = rounds a c round
      go (inr (few, (b, a, return))) = returns few b a return

      least : (cost links < n) ⊎ (n ≤ cost links) → n ≤ cost links
      least (inl few) = absurd (go (shape_of n s links low cycle few))
      least (inr much) = much

  pub below_none : (n : ℕ) → HasShape n → NoneBelow j n → ⊥
  below_none n shape none = let w = shape_cycle n shape in omega (arith, w.3, none w.0 w.1 w.2)
