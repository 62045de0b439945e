-- A session leaves while a transaction of it waits, worked out by hand. First b/1 writes x, and a/1 reads that. Then a/2
-- reads the initial value of x, which contradicts, and y from c/1, for which it has to wait. So a leaves only after a/2 has come.
use Rattle.std.proofs.Common.{ℕ, zero, suc, ◌≡◌, ◌<◌, List, [], ◌∷◌, None, refl, subst, arith}
use Rattle.std.specs.Prelude.{All, codes}
use Rattle.std.specs.List.{Contains}
use Rattle.std.proofs.lemmas.List.Elements.{All-cons, All-nil}
use Rattle.tcc_reads.specs.History.{Entry, History, count, initial, owner, place}
use Rattle.tcc_graph.specs.Keys.{IsWriter}
use Rattle.tcc_graph.specs.declared.step.Step.TheVariants as step
use Rattle.tcc_graph.proofs.Worked.{x, y, entry}
use Rattle.tcc_watch.specs.Delivered.{MayCome}
use Rattle.tcc_forget.specs.Cases.{IsOutdated, Observes, Passed}
use Rattle.tcc_forget.specs.Covers.{ComesOn, Readable}

abbrev h : History
h = record {
  sessions = codes "a" ∷ codes "b" ∷ codes "c" ∷ [];
  entries = initial ∷ entry 1 1 (x ∷ []) [] ∷ entry 0 1 [] ((x, 1) ∷ []) ∷ entry 2 1 (y ∷ []) [] ∷ [];
}

-- a/2
abbrev e : Entry
e = entry 0 2 [] ((x, 0) ∷ (y, 3) ∷ [])

abbrev readable : Readable
readable = record { listed = 1 ∷ []; top = None }

-- by a/1 it has observed b/1
observed : Observes h e 1
observed =
    (step.Reads 1 2 x ∷ step.Session 2 4 ∷ [], (omega arith, (refl, (omega arith, omega arith, (0, omega arith, refl)), (refl, refl, refl))))

contradicts : IsOutdated h e readable 0
contradicts = Passed 1 not_listed (0, omega arith, refl) observed
  where
    not_listed : Contains {X = ℕ} (1 ∷ []) 0 → ⊥
    not_listed (zero, within, is) = absurd (omega (arith, is))
    not_listed (suc k, within, is) = absurd (omega (arith, within))

-- while a is live it may come
may : MayCome h e
may = record { placed = omega arith; session = lower; sources = both }
  where
    lower : (n : ℕ) → 0 < n → n < count h → owner h n ≡ 0 → place h n < 2
    lower zero some below same = absurd (omega (arith, some))
    lower (suc zero) some below same = absurd (omega (arith, same))
    lower (suc (suc zero)) some below same = omega arith
    lower (suc (suc (suc zero))) some below same = absurd (omega (arith, same))
    lower (suc (suc (suc (suc n)))) some below same = absurd (omega (arith, below))

    There : List ℕ × ℕ → Type 0
    There read = read.1 < 4

    both : All There ((x, 0) ∷ (y, 3) ∷ [])
    both = All-cons There (x, 0) ((y, 3) ∷ []) (omega arith) (All-cons There (y, 3) [] (omega arith) (All-nil There))

comes_on : ComesOn h (0 ∷ 1 ∷ 2 ∷ []) e
comes_on = record { may = may; stays = (0, omega arith, refl); sources = sources }
  where
    sources : (k : List ℕ) (a : ℕ) → Contains e.reads (k, a) → IsWriter h a k
    sources k a (zero, within, is) = subst (λ (r : List ℕ × ℕ). IsWriter h r.1 r.0) is (omega arith, refl)
    sources k a (suc zero, within, is) = subst (λ (r : List ℕ × ℕ). IsWriter h r.1 r.0) is (omega arith, refl)
    sources k a (suc (suc n), within, is) = absurd (omega (arith, within))

-- and once a has left it may not
not_after : ComesOn h (1 ∷ 2 ∷ []) e → ⊥
not_after on = go on.stays
  where
    go : Contains {X = ℕ} (1 ∷ 2 ∷ []) 0 → ⊥
    go (zero, within, is) = absurd (omega (arith, is))
    go (suc zero, within, is) = absurd (omega (arith, is))
    go (suc (suc k), within, is) = absurd (omega (arith, within))
