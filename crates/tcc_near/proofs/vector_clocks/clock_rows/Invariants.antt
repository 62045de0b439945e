use Rattle.std.proofs.Common.{◌≡◌, ◌<◌, ℕ, List, length, map, get_or, slice_index}
use Rattle.tcc_near.proofs.vector_clocks.clock_rows.Given as goal

abbrev pub invariant-loop-t : goal.invariant-loop-t
invariant-loop-t l =
    (length l.rows.items ≡ l.t)
    × ((i : ℕ) (d : List ℕ) → i < l.t → get_or l.rows.items i d ≡ map (λ row. slice_index row i) l.lasts)
