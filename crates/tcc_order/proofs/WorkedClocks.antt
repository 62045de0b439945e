-- A small history and its clocks, worked out by hand, that the definitions have to agree with.
use Rattle.std.proofs.Common.{ℕ, ◌≡◌, ◌≤◌, zero, suc, List, [], ◌∷◌, true, inl, inr, refl, subst, arith, lit<, lit≤}
use Rattle.std.specs.Prelude.{codes}
use Rattle.std.proofs.lemmas.Bool.{false≢true}
use Rattle.tcc_reads.specs.History.{History, initial, place}
use Rattle.tcc_graph.specs.Relations.{causal_pair}
use Rattle.tcc_graph.specs.Walks.{step_to, Leads, IsReached}
use Rattle.tcc_graph.specs.declared.step.Step.{Step}
use Rattle.tcc_graph.specs.declared.step.Step.TheVariants as step
use Rattle.tcc_graph.specs.Clocks.{IsBehind, IsLast}
use Rattle.tcc_graph.proofs.Pairs.{first_pair, pair_kinds, pair_below}
use Rattle.tcc_graph.proofs.Worked.{x, y, entry}

-- a/1 and b/1 write x and y, c/1 reads a/1 at x and not b/1 at y, and d/1 the other way round
abbrev fork : History
fork = record {
  sessions = codes "a" ∷ codes "b" ∷ codes "c" ∷ codes "d" ∷ [];
  entries = initial ∷ entry 0 1 (x ∷ []) [] ∷ entry 1 1 (y ∷ []) [] ∷ entry 2 1 [] ((x, 1) ∷ (y, 0) ∷ []) ∷ entry 3 1 [] ((x, 0) ∷ (y, 2) ∷ []) ∷ [];
}

-- a/1 reaches c/1
fork-behind : IsLast fork 3 0 1
fork-behind = record {
  attained =
      inr (
        1,
        record {
          committed = omega arith;
          below = lit< tt;
          owned = refl;
          reached = (step.Reads 1 3 x ∷ [], (omega arith, (refl, (lit< tt, lit< tt, (0, omega arith, refl)), refl)));
        },
        refl,
      );
  greatest = places;
}
  where
    places : (b : ℕ) → IsBehind fork 3 0 b → place fork b ≤ 1
    places zero behind = lit≤ tt
    places (suc zero) behind = lit≤ tt
    places (suc (suc zero)) behind = lit≤ tt
    places (suc (suc (suc zero))) behind = lit≤ tt
    places (suc (suc (suc (suc zero)))) behind = lit≤ tt
    places (suc (suc (suc (suc (suc b))))) behind = absurd (omega (arith, behind.below))

-- nothing reaches `init`
fork-init : IsLast fork 0 0 0
fork-init = record { attained = inl refl; greatest = λ b behind. absurd (not_reached b behind.reached) }
  where
    into_init : (b : ℕ) → causal_pair fork b 0 ≡ true → ⊥
    into_init zero p = false≢true p
    into_init (suc zero) p = false≢true p
    into_init (suc (suc zero)) p = false≢true p
    into_init (suc (suc (suc zero))) p = false≢true p
    into_init (suc (suc (suc (suc zero)))) p = false≢true p
    into_init (suc (suc (suc (suc (suc b))))) p = let below =
        pair_below fork (suc (suc (suc (suc (suc b))))) 0 (pair_kinds fork (suc (suc (suc (suc (suc b))))) 0 p) in omega (arith, below.0)

    leads : (b : ℕ) (s : Step) (steps : List Step) → Leads fork b 0 (s ∷ steps) → ⊥
    leads b s [] w = into_init b (subst (λ (u : ℕ). causal_pair fork b u ≡ true) w.2 (first_pair fork b 0 s [] w))
    leads b s (t ∷ steps) w = leads (step_to s) t steps w.2

    not_reached : (b : ℕ) → IsReached fork b 0 → ⊥
    not_reached b ([], w) = omega (arith, w.0)
    not_reached b (s ∷ steps, w) = leads b s steps w.1
