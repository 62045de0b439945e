-- The cost of a least cycle, as a number that tables of costs determine: the floor of the bound.
use Rattle.std.specs.Prelude.{ℕ, zero, suc, ◌-◌, ◌==◌, ◌&&◌, ◌||◌, Bool, false, List, [], ◌∷◌, length, Option, None, Some, nat_lt, if◌then◌else◌}
use Rattle.std.specs.List.{list_any}
use Rattle.tcc_derive.specs.Prices.{Tables, cost_at}

-- the numbers below n
abbrev pub below : ℕ → List ℕ
below zero = []
below (suc n) = n ∷ below n

-- the test at what is left after a step, if there is such a step and it costs no more
abbrev pub after_step : Option ℕ → (ℕ → Bool) → ℕ → Bool
after_step None test left = false
after_step (Some d) test left = if nat_lt left d then false else test (left - d)

-- cheapest links, at most this many, lead from u to v and cost c together
abbrev pub leads : Tables → ℕ → ℕ → ℕ → ℕ → Bool
leads t zero u v c = (u == v) && (c == 0)
leads t (suc k) u v c = ((u == v) && (c == 0)) || list_any (λ w. after_step (cost_at t u w) (λ left. leads t k w v left) c) (below (length t.prices))

-- some cycle of cheapest links costs c, and each of them costs something
abbrev pub is_cycle_cost : Tables → ℕ → Bool
is_cycle_cost t c = nat_lt 0 c && list_any (λ s. leads t c s s c) (below (length t.prices))

-- the first number below n that passes the test, else n
abbrev pub first_below : ℕ → (ℕ → Bool) → ℕ
first_below zero test = zero
first_below (suc n) test = if test zero then zero else suc (first_below n (λ k. test (suc k)))

-- the cost of a least cycle, and `u64::MAX` where there is none
unfoldable pub least_cost : Tables → ℕ
least_cost t = first_below 18446744073709551615 (is_cycle_cost t)
