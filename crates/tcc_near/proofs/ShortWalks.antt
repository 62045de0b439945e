-- A shortest walk has at most as many steps as there are transactions.
use Rattle.std.proofs.Common.{ℕ, ◌≡◌, ◌≢◌, ◌<◌, ◌≤◌, ◌⊎◌, inl, inr, true, false, List, [], ◌∷◌, map, length, sym, subst, arith, eqb}
use Rattle.std.specs.List.{IsDistinct, list_any, AllByRecursion}
use Rattle.std.proofs.lemmas.Bool.{cases_eq, ne_eqb}
use Rattle.std.proofs.lemmas.List.{length-map}
use Rattle.std.proofs.lemmas.Map.Keys.{IsDistinct-cons}
use Rattle.std.proofs.lemmas.Map.Steps.{length-le_from_distinct_below}
use Rattle.tcc_reads.specs.History.{History, count}
use Rattle.tcc_graph.specs.Walks.{step_from, step_to, Leads, IsWalk}
use Rattle.tcc_graph.specs.declared.step.Step.{Step}
use Rattle.tcc_graph.proofs.Pairs.{step_below}

-- if no walk from a to b has fewer than n steps, no step of a shorter one to b begins at a
apart : (h : History) (a b n : ℕ) → ((others : List Step) → IsWalk h a b others → n ≤ length others) → (m : ℕ) (steps : List Step) → Leads h m b steps
    → length steps < n → AllByRecursion (λ y. eqb a y ≡ false) (map step_from steps)
apart h a b n least m [] leads few = tt
apart h a b n least m (s ∷ steps) leads few = (go (cases_eq a (step_from s)), apart h a b n least (step_to s) steps leads.2 (omega arith))
  where
    go : (a ≡ step_from s) ⊎ (a ≢ step_from s) → eqb a (step_from s) ≡ false
    go (inl same) = absurd (omega (arith, least (s ∷ steps) (omega arith, (sym same, leads.1, leads.2))))
    go (inr other) = ne_eqb a (step_from s) other

none : IsDistinct eqb []
unfolding IsDistinct
none = tt

-- the steps of a shortest walk begin at different transactions
distinct : (h : History) (a b : ℕ) (walk : List Step) → IsWalk h a b walk → ((others : List Step) → IsWalk h a b others → length walk ≤ length others)
    → IsDistinct eqb (map step_from walk)
distinct h a b [] is least = none
distinct h a b (s ∷ []) is least = IsDistinct-cons eqb (step_from s) [] tt none
distinct h a b (s ∷ t ∷ steps) is least =
    let least_here : (others : List Step) → IsWalk h (step_from s) b others → length (s ∷ t ∷ steps) ≤ length others =
    λ others leads. least others (subst (λ (z : ℕ). IsWalk h z b others) is.1.0 leads) in
    IsDistinct-cons eqb (step_from s) (map step_from (t ∷ steps))
    (apart h (step_from s) b (length (s ∷ t ∷ steps)) least_here (step_to s) (t ∷ steps) is.1.2 (omega arith))
    (distinct h (step_to s) b (t ∷ steps) (omega arith, is.1.2)
    (λ others leads. let longer = least (s ∷ others) (omega arith, (is.1.0, is.1.1, leads.1)) in omega arith))

below : (h : History) (a b : ℕ) (walk : List Step) → Leads h a b walk → (q : ℕ) → list_any (eqb q) (map step_from walk) ≡ true → q < count h
below h a b [] leads q has = absurd cc
below h a b (s ∷ steps) leads q has = go (cases_eq q (step_from s)) (below h (step_to s) b steps leads.2 q) has
  where
    go : (q ≡ step_from s) ⊎ (q ≢ step_from s) → (list_any (eqb q) (map step_from steps) ≡ true → q < count h)
        → list_any (eqb q) (map step_from (s ∷ steps)) ≡ true → q < count h
    go (inl same) later found = omega (arith, same, (step_below h s leads.1).0)
    go (inr other) later found = later (rw (ne_eqb q (step_from s) other) at found)

pub few_steps : (h : History) (a b : ℕ) (walk : List Step) → IsWalk h a b walk → ((others : List Step) → IsWalk h a b others → length walk ≤ length others)
    → length walk ≤ count h
few_steps h a b walk is least =
    omega (
      arith,
      length-map walk step_from,
      length-le_from_distinct_below (map step_from walk) (count h) (distinct h a b walk is least) (below h a b walk is.1),
    )
