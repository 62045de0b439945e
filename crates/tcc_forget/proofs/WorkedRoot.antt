-- An old writer that is overwritten for one key and not for another, worked out by hand. First a/1 writes x and z, and b/1 writes x.
-- Then c/1 reads x from b/1 and writes y and z. By d/1, which reads z from a/1 and x from b/1, a/1 is before b/1, and thus before c/1.
-- Then d/2 writes x, and a/2, b/2 and c/2 read that. Now all know a/1, but not c/1, which writes z too. SessionPlace last a/3 reads y from c/1 and z
-- from a/1, a contradiction. It shows only if z still has both.
use Rattle.std.proofs.Common.{ℕ, zero, suc, ◌≡◌, inl, inr, List, [], ◌∷◌, None, Some, refl, arith}
use Rattle.std.specs.Prelude.{bytes_eq, codes, if◌then◌else◌}
use Rattle.std.specs.List.{Contains}
use Rattle.tcc_reads.specs.History.{Entry, History, count, initial}
use Rattle.tcc_graph.specs.declared.step.Step.TheVariants as step
use Rattle.tcc_graph.specs.declared.link.Link.TheVariants as link
use Rattle.tcc_graph.proofs.Worked.{x, y, entry}
use Rattle.tcc_forget.specs.Cases.{ClosesCircle, IsOutdated, Observes, Passed}
use Rattle.tcc_forget.specs.Covers.{Cover, LeadsTo, Readable}
use Rattle.tcc_forget.specs.Sweeps.{MakesTop}

abbrev z : List ℕ
z = codes "z"

abbrev h : History
h = record {
  sessions = codes "a" ∷ codes "b" ∷ codes "c" ∷ codes "d" ∷ [];
  entries = initial ∷ entry 0 1 (x ∷ z ∷ []) [] ∷ entry 1 1 (x ∷ []) [] ∷ entry 2 1 (y ∷ z ∷ []) ((x, 2) ∷ []) ∷ entry 3 1 [] ((x, 2) ∷ (z, 1) ∷ [])
      ∷ entry 3 2 (x ∷ []) [] ∷ entry 0 2 [] ((x, 5) ∷ []) ∷ entry 1 2 [] ((x, 5) ∷ []) ∷ entry 2 2 [] ((x, 5) ∷ []) ∷ [];
}

-- a/3
abbrev e : Entry
e = entry 0 3 [] ((y, 3) ∷ (z, 1) ∷ [])

counted : count h ≡ 9
counted = refl

-- a/1 is before b/1, since d/1 reads x from b/1 and has observed a/1; and c/1 reads from b/1
onward : LeadsTo h 1 3
onward = inr (
  link.Derived 1 2 x 4 (step.Reads 1 4 z ∷ []) ∷ link.Reads 2 3 x ∷ [],
  (
    omega arith,
    (
      refl,
      (
        ((λ same. absurd (omega (arith, same))), (omega arith, omega arith, (0, omega arith, refl)), (omega arith, refl)),
        ((omega arith, (refl, (omega arith, omega arith, (0, omega arith, refl)), refl)), tt),
      ),
      (refl, (omega arith, omega arith, (0, omega arith, refl)), refl),
    ),
  ),
)

observed : Observes h e 3
observed = (step.Reads 3 9 y ∷ [], (omega arith, (refl, (omega arith, omega arith, (0, omega arith, refl)), refl)))

-- where both are listed at z, the read makes a link that closes a circle
abbrev cover : Cover
cover k = if bytes_eq k z then record { listed = 3 ∷ 1 ∷ []; top = None } else record { listed = []; top = None }

closes : ClosesCircle h e cover
closes = (
  3,
  (3, 1) ∷ [],
  omega arith,
  (
    inl refl,
    record {
      key = z;
      read = (1, omega arith, refl);
      to = (1, omega arith, refl);
      from = (0, omega arith, refl);
      apart = λ same. absurd (omega (arith, same));
      observed = observed;
    },
    onward,
  ),
)

-- where a/1 is the top and c/1 is listed, it contradicts
contradicts : IsOutdated h e (record { listed = 3 ∷ []; top = Some 1 }) 1
contradicts = Passed 3 not_listed (0, omega arith, refl) observed
  where
    not_listed : Contains {X = ℕ} (3 ∷ []) 1 → ⊥
    not_listed (zero, within, is) = absurd (omega (arith, is))
    not_listed (suc k, within, is) = absurd (omega (arith, within))

-- and a/1 alone is never left: while c/1 is listed it isn't made the top
not_alone : (live : List ℕ) (new : Readable) → MakesTop h live (record { listed = 3 ∷ 1 ∷ []; top = None }) new → ⊥
not_alone live new m =
    let one : 3 ≡ m.top = m.only 3 (0, omega arith, refl) in
    let two : 1 ≡ m.top = m.only 1 (1, omega arith, refl) in
    absurd (omega (arith, one, two))
