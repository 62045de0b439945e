-- Worked rows of the definitions.
use Rattle.std.proofs.Common.{ℕ, ◌≡◌, [], ◌∷◌, true, false, None, Some, refl, inl, arith}
use Rattle.tcc_graph.specs.declared.level.Level.TheVariants as level
use Rattle.tcc_graph.specs.declared.step.Step.TheVariants as step
use Rattle.tcc_derive.specs.Prices.{Tables, IsLater, price_at, cost_at, others_at}
use Rattle.tcc_derive.specs.private.CostBuckets.{costs_below}
use Rattle.tcc_derive.specs.private.Lowering.{price_by}
use Rattle.tcc_derive.specs.private.LeadingBack.{stands_at, Ahead}
use Rattle.tcc_near.specs.declared.walk_lengths.TheConstants.{NONE}

-- one step more than the way to the reader; if there is no way, there is no price
one_more : price_by (2 ∷ NONE ∷ []) (record { source = 1; reader = 0 }) ≡ 3
one_more = refl

out_of_reach : price_by (2 ∷ NONE ∷ []) (record { source = 0; reader = 1 }) ≡ NONE
out_of_reach = refl

-- a history of two transactions: 1 contradicts a read from 0 by a walk of three steps, and 0 has a session pair to it
abbrev two : Tables
two = record {
  level = level.Causal;
  prices = (NONE ∷ NONE ∷ []) ∷ (4 ∷ NONE ∷ []) ∷ [];
  ends = 2 ∷ 2 ∷ [];
  others = [] ∷ ((0, 4) ∷ []) ∷ [];
  limit = 4;
}

price_of_four : price_at two 1 0 ≡ Some 4
price_of_four = refl

no_price : price_at two 0 1 ≡ None
no_price = refl

cost_of_a_pair : cost_at two 0 1 ≡ Some 1
unfolding cost_at
cost_of_a_pair = refl

cost_of_an_other : cost_at two 1 0 ≡ Some 4
unfolding cost_at
cost_of_an_other = refl

no_cost : cost_at two 0 0 ≡ None
unfolding cost_at
no_cost = refl

later_of_init : IsLater two 0 1
later_of_init = (omega arith, omega arith)

none_later : (v : ℕ) → IsLater two 1 v → ⊥
none_later v w = omega (arith, w.0, w.1)

other_of_one : others_at two 1 ≡ (0, 4) ∷ []
other_of_one = refl

-- links by cost: 1 has that one, and with a limit below its cost it would have none
by_cost_of_one : costs_below 2 2 (others_at two 1) 5 ≡ (0, 4) ∷ []
by_cost_of_one = refl

past_the_limit : costs_below 2 2 (others_at two 1) 4 ≡ []
past_the_limit = refl

-- no steps lead only to the start; some lead where the row says so
at_start : stands_at (2 ∷ 1 ∷ []) 1 1 0 ≡ true
at_start = refl

not_at_start : stands_at (2 ∷ 1 ∷ []) 1 0 0 ≡ false
not_at_start = refl

two_steps : stands_at (2 ∷ 1 ∷ []) 1 0 2 ≡ true
two_steps = refl

-- the last step from the lower start comes first, whatever the steps before it
lower_start : Ahead (step.Session 1 4 ∷ step.Session 3 1 ∷ []) (step.Session 2 4 ∷ step.Session 0 2 ∷ [])
lower_start = inl refl

-- of two last steps with one start the session step comes first
session_first : Ahead (step.Session 1 4 ∷ []) (step.Reads 1 4 (120 ∷ []) ∷ [])
session_first = inl refl

-- of two last steps that are reads the one of the first key comes first
key_first : Ahead (step.Reads 1 4 (109 ∷ []) ∷ []) (step.Reads 1 4 (114 ∷ []) ∷ [])
key_first = inl refl
