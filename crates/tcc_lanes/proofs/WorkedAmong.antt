-- Small histories, worked out by hand, that the definitions have to agree with.
use Rattle.std.proofs.Common.{◌≤◌, ℕ, List, zero, suc, [], ◌∷◌, refl, arith}
use Rattle.std.specs.List.{Contains}
use Rattle.std.proofs.lemmas.List.Elements.{All-cons, All-nil}
use Rattle.tcc_graph.specs.Levels.{causally}
use Rattle.tcc_graph.specs.declared.link.Link.TheVariants as link
use Rattle.tcc_graph.specs.declared.step.Step.TheVariants as step
use Rattle.tcc_graph.proofs.Worked.{x, y, stale_read}
use Rattle.tcc_least.proofs.WorkedShapes.{crossed, overtaken}
use Rattle.tcc_lanes.specs.Among.{HasCheaperAmong, HasCheaperIntoInit, IsAmong}
use Rattle.tcc_lanes.specs.Contradicted.{IsSpannedAside}

-- a/1 and b/1
abbrev pub both : List ℕ
both = 1 ∷ 2 ∷ []

first : Contains both 1
first = (0, omega arith, refl)

second : Contains both 2
second = (1, omega arith, refl)

-- each of a/1 and b/1 reads what the other writes, which costs two steps
pub crossed-among : HasCheaperAmong (causally crossed) both 3
crossed-among = (
  1,
  link.Reads 1 2 x ∷ link.Reads 2 1 y ∷ [],
  (
    omega arith,
    (refl, (omega arith, omega arith, (0, omega arith, refl)), (refl, (omega arith, omega arith, (0, omega arith, refl)), refl)),
  ),
  All-cons (IsAmong both) (link.Reads 1 2 x) (link.Reads 2 1 y ∷ []) (first, second)
      (All-cons (IsAmong both) (link.Reads 2 1 y) [] (second, first) (All-nil (IsAmong both))),
  omega arith,
)

-- b/2, because of which b/1 has to come before a/1, needn't be among them
pub overtaken-among : HasCheaperAmong (causally overtaken) both 4
overtaken-among = (
  1,
  link.Reads 1 2 x ∷ link.Derived 2 1 x 3 (step.Session 2 3 ∷ []) ∷ [],
  (
    omega arith,
    (
      refl,
      (omega arith, omega arith, (0, omega arith, refl)),
      (
        refl,
        (
          ((λ e. absurd (omega arith)), (omega arith, omega arith, (0, omega arith, refl)), (omega arith, refl)),
          ((omega arith, (refl, refl, refl)), tt),
        ),
        refl,
      ),
    ),
  ),
  All-cons (IsAmong both) (link.Reads 1 2 x) (link.Derived 2 1 x 3 (step.Session 2 3 ∷ []) ∷ []) (first, second)
      (All-cons (IsAmong both) (link.Derived 2 1 x 3 (step.Session 2 3 ∷ [])) [] (second, first) (All-nil (IsAmong both))),
  omega arith,
)

-- in the order a/1, b/1, b/2 that link leads back over both
pub overtaken-spanned : (v : ℕ) → Contains both v → IsSpannedAside (causally overtaken) (λ u. u) v
overtaken-spanned v there = (
  2,
  1,
  x,
  3,
  step.Session 2 3 ∷ [],
  (
    ((λ e. absurd (omega arith)), (omega arith, omega arith, (0, omega arith, refl)), (omega arith, refl)),
    ((omega arith, (refl, refl, refl)), tt),
  ),
  (λ e. absurd (omega arith)),
  (ends v there).0,
  (ends v there).1,
)
  where
    ends : (v : ℕ) → Contains both v → (1 ≤ v) × (v ≤ 2)
    ends v (zero, inside, e) = (omega (arith, e), omega (arith, e))
    ends v (suc zero, inside, e) = (omega (arith, e), omega (arith, e))
    ends v (suc (suc n), inside, e) = absurd (omega (arith, inside))

-- a/1 writes x, and a/2 reads the initial value: from `init` to a/1 and back costs three steps, which are fewer than four
pub stale_read-into : HasCheaperIntoInit (causally stale_read) (0 ∷ []) 4
stale_read-into = (
  1,
  (
    0,
    2,
    step.Session 1 2 ∷ [],
    (0, omega arith, refl),
    (
      ((λ e. absurd (omega arith)), (omega arith, omega arith, (0, omega arith, refl)), (omega arith, refl)),
      ((omega arith, (refl, refl, refl)), tt),
    ),
    omega arith,
  ),
)

-- from `init` to a/1 and back costs no fewer than three steps
pub stale_read-three : HasCheaperIntoInit (causally stale_read) (0 ∷ []) 3 → ⊥
stale_read-three (b, (k, c, walk, there, reason, few)) = omega (arith, few, reason.1.0.0)

-- without a key, or without a transaction, there is nothing to find
pub no_keys : (n : ℕ) → HasCheaperIntoInit (causally stale_read) [] n → ⊥
no_keys n (b, (k, c, walk, there, reason, few)) = omega (arith, there.1)

pub nobody : (n : ℕ) → HasCheaperAmong (causally crossed) [] n → ⊥
nobody n (v, [], cycle, listed, few) = omega (arith, cycle.0)
nobody n (v, l ∷ links, cycle, listed, few) = omega (arith, (listed 0 l (omega arith)).0.1)
