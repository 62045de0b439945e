-- A small history worked out by hand, that the definitions have to agree with. a/1 writes x; b/1 writes x and y. c/1 comes last, and
-- reads y from b/1 and x from a/1. So b/1 has to come before a/1.
use Rattle.std.proofs.Common.{ℕ, zero, suc, ◌≡◌, inl, inr, List, [], ◌∷◌, slice_index, refl, arith}
use Rattle.std.specs.Prelude.{codes, max}
use Rattle.tcc_reads.specs.History.{Entry, History, count, entry_at, initial}
use Rattle.tcc_graph.specs.declared.step.Step.TheVariants as step
use Rattle.tcc_graph.specs.declared.link.Link.TheVariants as link
use Rattle.tcc_graph.proofs.Worked.{x, y, entry}
use Rattle.tcc_txn.specs.Snapshots.{Sessions}
use Rattle.tcc_watch.specs.Delivered.{with_last, ComesFrom, MayCome, IsBy}
use Rattle.tcc_watch.specs.private.Rows.{IsUpTo, IsRaisedAt}

abbrev writers : History
writers = record {
  sessions = codes "a" ∷ codes "b" ∷ codes "c" ∷ [];
  entries = initial ∷ entry 0 1 (x ∷ []) [] ∷ entry 1 1 (x ∷ y ∷ []) [] ∷ [];
}

abbrev reader : Entry
reader = entry 2 1 [] ((x, 1) ∷ (y, 2) ∷ [])

abbrev all : History
all = with_last writers reader

last : (count all ≡ 4) × (entry_at all 3 ≡ reader) × (entry_at all 2 ≡ entry_at writers 2)
last = (refl, refl, refl)

-- the new links are by c/1: the pairs into it, and the derived one of which it is the reader
by_reader : IsBy 3 (link.Reads 2 3 y) × IsBy 3 (link.Session 0 3) × IsBy 3 (link.Derived 2 1 x 3 (step.Reads 2 3 y ∷ []))
by_reader = (refl, refl, refl)

not_by_reader : IsBy 3 (link.Session 0 1) → ⊥
not_by_reader e = absurd (omega (arith, e))

-- before it came, a transaction that reads from it may not come
too_early : MayCome writers (entry 1 2 [] ((y, 3) ∷ [])) → ⊥
too_early may = let source = may.sources 0 (x, 0) (omega arith) in absurd (omega (arith, source))

-- nor one of a place that is there
too_low : MayCome writers (entry 1 1 [] []) → ⊥
too_low may = let lower = may.session 2 (omega arith) (omega arith) refl in absurd (omega (arith, lower))

-- the row of c/1 goes as far as those of a/1 and b/1, and to itself
abbrev rows : List (List ℕ)
rows = [] ∷ (1 ∷ []) ∷ (0 ∷ 1 ∷ []) ∷ (1 ∷ 1 ∷ 1 ∷ []) ∷ []

abbrev raised : List (List ℕ)
raised = [] ∷ (1 ∷ 1 ∷ []) ∷ (0 ∷ 1 ∷ []) ∷ (1 ∷ 1 ∷ 1 ∷ []) ∷ []

-- a/1 and b/1 come before c/1, and neither before the other
before : IsUpTo all rows 1 3 × IsUpTo all rows 2 3 × (IsUpTo all rows 1 2 → ⊥) × (IsUpTo all rows 2 1 → ⊥) × (IsUpTo all rows 3 1 → ⊥)
before = (omega arith, omega arith, (λ up. absurd (omega (arith, up))), (λ up. absurd (omega (arith, up))), λ up. absurd (omega (arith, up)))

-- b/1 comes before a/1: the row of a/1 goes to b/1 now, and that of c/1 did so before
linked : (v : ℕ) → IsRaisedAt all rows raised 2 1 v
linked zero = inl (refl, inl (λ up. absurd (omega (arith, up))))
linked (suc zero) = inr (omega arith, each)
  where
    each : (session : ℕ) → slice_index (1 ∷ 1 ∷ []) session ≡ max (slice_index (0 ∷ 1 ∷ []) session) (slice_index (1 ∷ []) session)
    each zero = refl
    each (suc zero) = refl
    each (suc (suc session)) = refl
linked (suc (suc zero)) = inl (refl, inl (λ up. absurd (omega (arith, up))))
linked (suc (suc (suc zero))) = inl (refl, inr (omega arith))
linked (suc (suc (suc (suc v)))) = inl (refl, inl (λ up. absurd (omega (arith, up))))

linked_after : IsUpTo all raised 2 1
linked_after = omega arith

-- the initial value comes from `init` alone, and no other value from it
initial_value : (s : Sessions) (h : History) (f : ℕ → ℕ) (a : ℕ) → ComesFrom s h f x 0 a → a ≡ 0
initial_value s h f a (below, inl (none, first)) = first
initial_value s h f a (below, inr (some, more, gives)) = absurd (some refl)

other_value : (s : Sessions) (h : History) (f : ℕ → ℕ) → ComesFrom s h f x 7 0 → ⊥
other_value s h f (below, inl (none, first)) = absurd (omega (arith, none))
other_value s h f (below, inr (some, more, gives)) = absurd (omega (arith, more))
