-- Walks: how they are joined, and where they end.
use Rattle.std.proofs.Common.{◌≡◌, ◌<◌, ◌+◌, ℕ, List, [], ◌∷◌, ◌++◌, length, length-append, refl, sym, subst, arith}
use Rattle.tcc_reads.specs.History.{History, count}
use Rattle.tcc_graph.specs.Relations.{IsCausalPair}
use Rattle.tcc_graph.specs.Walks.{step_to, Leads, IsWalk, IsReached}
use Rattle.tcc_graph.specs.declared.step.Step.{Step}
use Rattle.tcc_graph.proofs.Pairs.{step_of_kind, step_below}

pub leads_append : (h : History) (a m b : ℕ) (front back : List Step) → Leads h a m front → Leads h m b back → Leads h a b (front ++ back)
leads_append h a m b [] back p q = subst (λ (z : ℕ). Leads h z b back) (sym p) q
leads_append h a m b (s ∷ front) back p q = (p.0, p.1, leads_append h (step_to s) m b front back p.2 q)

-- what follows the first steps starts where they end
pub leads_split : (h : History) (a b : ℕ) (front back : List Step) → Leads h a b (front ++ back) → (m : ℕ) × Leads h a m front × Leads h m b back
leads_split h a b [] back p = (a, refl, p)
leads_split h a b (s ∷ front) back p = let w = leads_split h (step_to s) b front back p.2 in (w.0, (p.0, p.1, w.1), w.2)

pub walk_append : (h : History) (a m b : ℕ) (front back : List Step) → IsWalk h a m front → Leads h m b back → IsWalk h a b (front ++ back)
walk_append h a m b front back p q = (omega (arith, p.0, length-append front back), leads_append h a m b front back p.1 q)

pub reached_append : (h : History) (a m b : ℕ) → IsReached h a m → IsReached h m b → IsReached h a b
reached_append h a m b v w = (v.0 ++ w.0, walk_append h a m b v.0 w.0 v.1 w.1.1)

-- a causal pair is a walk of one step
pub pair_walk : (h : History) (a b : ℕ) → IsCausalPair h a b → (walk : List Step) × IsWalk h a b walk × (length walk ≡ 1)
pair_walk h a b p = let s = step_of_kind h a b p in (s.0 ∷ [], (omega arith, (s.1, s.3, s.2)), refl)

-- one more pair
pub walk_on : (h : History) (a b c : ℕ) (walk : List Step) → IsWalk h a b walk → IsCausalPair h b c
    → (longer : List Step) × IsWalk h a c longer × (length longer ≡ length walk + 1)
walk_on h a b c walk is p =
    let one = pair_walk h b c p in
    (walk ++ one.0, walk_append h a b c walk one.0 is one.1.1, omega (arith, one.2, length-append walk one.0))

-- a walk starts and ends at transactions
pub walk_below : (h : History) (a b : ℕ) (walk : List Step) → IsWalk h a b walk → (a < count h) × (b < count h)
walk_below h a b [] w = absurd (omega (arith, w.0))
walk_below h a b (s ∷ []) w =
    let ends = step_below h s w.1.1 in
    (subst (λ (z : ℕ). z < count h) w.1.0 ends.0, subst (λ (z : ℕ). z < count h) w.1.2 ends.1)
walk_below h a b (s ∷ t ∷ walk) w =
    let ends = step_below h s w.1.1 in
    (subst (λ (z : ℕ). z < count h) w.1.0 ends.0, (walk_below h (step_to s) b (t ∷ walk) (omega arith, w.1.2)).1)
