use Rattle.std.proofs.Common.{ℕ, ◌≡◌, ◌||◌, List, drop}
use Rattle.tcc_rows.specs.Followed.{holds, is_written}
use Rattle.tcc_rows.proofs.pending.written_by.Given as goal

abbrev pub invariant-loop-one : goal.invariant-loop-one
invariant-loop-one l =
    (w : List ℕ × ℕ) → (is_written (drop l.one-index l.pending) w || holds l.written w) ≡ is_written l.pending w
