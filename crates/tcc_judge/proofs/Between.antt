-- The search, one cost after another.
use Rattle.std.proofs.Common.{◌<◌, ◌≤◌, ◌+◌, ◌⊎◌, inl, inr, ℕ, None, Option, Some, refl, arith}
use Rattle.std.specs.Global.{Vec}
use Rattle.std.specs.Prelude.{MatchOption}
use Rattle.std.proofs.lemmas.Bool.{cases_lt}
use Rattle.tcc_graph.specs.Levels.{Judged}
use Rattle.tcc_least.specs.Shapes.{NoneBelow}
use Rattle.tcc_judge.specs.Picking.{IsFirstAround}
use Rattle.tcc_judge.specs.declared.picking.FirstAround.{FirstAround}
use Rattle.tcc_judge.specs.private.Picking.{IsCircleBelow, IsNoneYet}

-- where no cycle costs less than one number, none costs less than a lower one
pub none_lower : (j : Judged) (most n : ℕ) → n ≤ most → NoneBelow j most → NoneBelow j n
none_lower j most n below none s links cycle = omega (arith, none s links cycle, below)

pub begin_yet : (j : Judged) → NoneBelow j 4 → IsNoneYet j 4 4
begin_yet j none = record { below = none; low = omega arith; greater = omega arith }

pub none_up_to : (j : Judged) (turn none steps : ℕ) → IsNoneYet j turn none → none ≤ steps → NoneBelow j (steps + 1) → IsNoneYet j (turn + 1) (steps + 1)
none_up_to j turn none steps w from nothing = record {
  below = nothing;
  low = omega (arith, w.low, from);
  greater = omega (arith, w.greater, from);
}

-- the circle of the least cost
pub first_found : (j : Judged) (steps : ℕ) (circle : Vec ℕ) → 4 ≤ steps → NoneBelow j steps → IsCircleBelow j (steps + 1) (Some circle)
    → IsFirstAround j (record { steps = steps; circle = circle })
first_found j steps circle low nothing found =
    let first = found.1 steps refl nothing in
    record { some = omega (arith, low); none = nothing; inside = first.0; picked = first.1 }

-- some cycle costs at most `least`, and none costs less than 4, so `least` is at least 4
pub least_low : (j : Judged) (least : ℕ) → NoneBelow j 4 → (NoneBelow j (least + 1) → ⊥) → 4 ≤ least
least_low j least four some = go (cases_lt least 4)
  where
    go : (least < 4) ⊎ (4 ≤ least) → 4 ≤ least
    go (inl less) = absurd (some (none_lower j 4 (least + 1) (omega (arith, less)) four))
    go (inr enough) = enough

-- where some cycle costs at most `least`, something is found
pub found_at : (j : Judged) (least most : ℕ) (found : Option FirstAround) → (NoneBelow j (least + 1) → ⊥)
    → MatchOption found (NoneBelow j (least + 1)) (IsFirstAround j) → MatchOption found (NoneBelow j most) (IsFirstAround j)
found_at j least most None some none = absurd (some none)
found_at j least most (Some first) some is = is
