-- Small histories, worked out by hand, that the definitions have to agree with.
use Rattle.std.proofs.Common.{ℕ, ◌≡◌, ◌≤◌, zero, suc, List, [], ◌∷◌, length, true, false, refl, sym, ◌∙◌, subst, arith, lit<}
use Rattle.std.specs.Prelude.{codes}
use Rattle.std.proofs.lemmas.Bool.{false≢true}
use Rattle.tcc_reads.specs.History.{History, initial}
use Rattle.tcc_graph.specs.Relations.{causal_pair}
use Rattle.tcc_graph.specs.Levels.{causally, atomically}
use Rattle.tcc_graph.specs.Walks.{step_to, IsWalk, IsReached}
use Rattle.tcc_graph.specs.declared.step.Step.{Step}
use Rattle.tcc_graph.specs.declared.step.Step.TheVariants as step
use Rattle.std.specs.Prelude.{None}
use Rattle.tcc_near.specs.WalkLengths.{IsShortest, IsWalkLength}
use Rattle.tcc_graph.proofs.Pairs.{first_pair, pair_kinds, pair_below}
use Rattle.tcc_graph.proofs.Worked.{x, y, entry, stale_read}

-- no walk of one step leads from a to b if no pair does
no_step : (h : History) (a b : ℕ) (s : Step) → causal_pair h a b ≡ false → IsWalk h a b (s ∷ []) → ⊥
no_step h a b s none w = false≢true (sym none ∙ subst (λ (u : ℕ). causal_pair h a u ≡ true) w.1.2 (first_pair h a b s [] w.1))

-- a walk that is a shortest one
shortest : (h : History) (a b : ℕ) (walk : List Step) → IsWalk h a b walk → ((other : List Step) → IsWalk h a b other → length walk ≤ length other)
    → IsShortest (causally h) a b (length walk)
shortest h a b walk is least = record { attained = (walk, (is, tt), refl); least = λ other allowed. least other allowed.0 }

-- a/1 writes x, and a/2 reads the initial value of x
stale_read-onwards : IsShortest (causally stale_read) 1 2 1
stale_read-onwards = shortest stale_read 1 2 (step.Session 1 2 ∷ []) (omega arith, (refl, refl, refl)) (λ other is. omega (arith, is.0))

nothing_from_last : (b : ℕ) → causal_pair stale_read 2 b ≡ true → ⊥
nothing_from_last zero p = false≢true p
nothing_from_last (suc zero) p = false≢true p
nothing_from_last (suc (suc zero)) p = false≢true p
nothing_from_last (suc (suc (suc b))) p = let below =
    pair_below stale_read 2 (suc (suc (suc b))) (pair_kinds stale_read 2 (suc (suc (suc b))) p) in omega (arith, below.1)

stale_read-back : IsReached stale_read 2 1 → ⊥
stale_read-back ([], w) = absurd (omega (arith, w.0))
stale_read-back (s ∷ steps, w) = nothing_from_last (step_to s) (first_pair stale_read 2 1 s steps w.1)

-- a/1 writes x, b/1 reads it and writes y, c/1 reads that, and c/2 reads the initial value of x
abbrev chain : History
chain = record {
  sessions = codes "a" ∷ codes "b" ∷ codes "c" ∷ [];
  entries = initial ∷ entry 0 1 (x ∷ []) [] ∷ entry 1 1 (y ∷ []) ((x, 1) ∷ []) ∷ entry 2 1 [] ((y, 2) ∷ []) ∷ entry 2 2 [] ((x, 0) ∷ []) ∷ [];
}

nothing_between : (m : ℕ) → causal_pair chain 1 m ≡ true → causal_pair chain m 4 ≡ true → ⊥
nothing_between zero p q = false≢true p
nothing_between (suc zero) p q = false≢true p
nothing_between (suc (suc zero)) p q = false≢true q
nothing_between (suc (suc (suc zero))) p q = false≢true p
nothing_between (suc (suc (suc (suc zero)))) p q = false≢true p
nothing_between (suc (suc (suc (suc (suc m))))) p q = let below =
    pair_below chain 1 (suc (suc (suc (suc (suc m))))) (pair_kinds chain 1 (suc (suc (suc (suc (suc m))))) p) in omega (arith, below.1)

-- two reads and a session step
chain-onwards : IsShortest (causally chain) 1 4 3
chain-onwards =
    shortest chain 1 4 (step.Reads 1 2 x ∷ step.Reads 2 3 y ∷ step.Session 3 4 ∷ [])
    (omega arith, (refl, (lit< tt, lit< tt, (0, omega arith, refl)), (refl, (lit< tt, lit< tt, (0, omega arith, refl)), (refl, refl, refl)))) none_shorter
  where
    none_shorter : (walk : List Step) → IsWalk chain 1 4 walk → 3 ≤ length walk
    none_shorter [] w = absurd (omega (arith, w.0))
    none_shorter (s ∷ []) w = absurd (no_step chain 1 4 s refl w)
    none_shorter (s ∷ t ∷ []) w =
        let last = first_pair chain (step_to s) 4 t [] w.1.2 in
        absurd (nothing_between (step_to s) (first_pair chain 1 4 s (t ∷ []) w.1) (subst (λ (u : ℕ). causal_pair chain (step_to s) u ≡ true) w.1.2.2 last))
    none_shorter (s ∷ t ∷ u ∷ steps) w = omega arith

-- if only a single pair is allowed, three steps lead nowhere
chain-alone : IsWalkLength (atomically chain) 1 4 None
chain-alone [] is = absurd (omega (arith, is.1))
chain-alone (s ∷ []) is = no_step chain 1 4 s refl is.0
chain-alone (s ∷ t ∷ steps) is = absurd (omega (arith, is.1))

-- if only a single pair is allowed, each step still leads as far as it does
chain-pair : IsShortest (atomically chain) 1 2 1
chain-pair = record {
  attained = (step.Reads 1 2 x ∷ [], ((omega arith, (refl, (lit< tt, lit< tt, (0, omega arith, refl)), refl)), refl), refl);
  least = λ walk is. omega (arith, is.1);
}

-- a/1 and b/1 read from each other
abbrev circle : History
circle = record {
  sessions = codes "a" ∷ codes "b" ∷ [];
  entries = initial ∷ entry 0 1 (x ∷ []) ((x, 0) ∷ (y, 2) ∷ []) ∷ entry 1 1 (y ∷ []) ((x, 1) ∷ []) ∷ [];
}

-- from a transaction to itself at least one step is taken
circle-round : IsShortest (causally circle) 1 1 2
circle-round =
    shortest circle 1 1 (step.Reads 1 2 x ∷ step.Reads 2 1 y ∷ [])
    (omega arith, (refl, (lit< tt, lit< tt, (0, omega arith, refl)), (refl, (lit< tt, lit< tt, (0, omega arith, refl)), refl))) none_shorter
  where
    none_shorter : (walk : List Step) → IsWalk circle 1 1 walk → 2 ≤ length walk
    none_shorter [] w = absurd (omega (arith, w.0))
    none_shorter (s ∷ []) w = absurd (no_step circle 1 1 s refl w)
    none_shorter (s ∷ t ∷ steps) w = omega arith
