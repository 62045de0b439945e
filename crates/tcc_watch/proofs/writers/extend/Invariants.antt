use Rattle.std.proofs.Common.{◌≡◌, ℕ, [], length, get_or}
use Rattle.tcc_watch.proofs.writers.extend.Given as goal

abbrev pub invariant-loop-key : goal.invariant-loop-key
invariant-loop-key l = (l._key ≡ length l.writers.items) × ((k : ℕ) → get_or l.writers.items k [] ≡ get_or l.initial.writers.items k [])
