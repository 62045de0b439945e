-- The tables of two small histories, worked out by hand.
use Rattle.std.proofs.Common.{◌≡◌, [], ◌∷◌, refl}
use Rattle.tcc_graph.specs.Levels.{atomically, causally}
use Rattle.tcc_graph.proofs.Worked.{stale_read}
use Rattle.tcc_explain.specs.Tabled.{clock_table, far_table, near_table}

-- a/1 writes x, and a/2 reads the initial x. From `init` both are one step away, and from a/1 a/2 is. Each other walk has as many steps as
-- the cycle, or there is none.
stale_read-near : near_table (causally stale_read) 3 ≡ (3 ∷ 1 ∷ 1 ∷ []) ∷ (3 ∷ 3 ∷ 1 ∷ []) ∷ (3 ∷ 3 ∷ 3 ∷ []) ∷ []
stale_read-near = refl

-- the cycle goes from `init` by a session pair to a/1, and back by a derived link of two steps
stale_read-far : far_table (causally stale_read) 3 ≡ (3 ∷ 1 ∷ 1 ∷ []) ∷ (3 ∷ 1 ∷ []) ∷ (3 ∷ []) ∷ []
stale_read-far = refl

-- what is less than the cap is in the table
stale_read-far-4 : far_table (causally stale_read) 4 ≡ (3 ∷ 1 ∷ 1 ∷ []) ∷ (4 ∷ 1 ∷ []) ∷ (4 ∷ []) ∷ []
stale_read-far-4 = refl

-- a walk of one step is allowed at each level
stale_read-near-atomic : near_table (atomically stale_read) 3 ≡ (3 ∷ 1 ∷ 1 ∷ []) ∷ (3 ∷ 3 ∷ 1 ∷ []) ∷ (3 ∷ 3 ∷ 3 ∷ []) ∷ []
stale_read-near-atomic = refl

-- in its one session no transaction reaches `init` or a/1, and a/1 reaches a/2
stale_read-clocks : clock_table stale_read ≡ (0 ∷ []) ∷ (0 ∷ []) ∷ (1 ∷ []) ∷ []
stale_read-clocks = refl
