use Rattle.std.proofs.Common.{◌≡◌, ℕ, length, slice_index}
use Rattle.tcc_watch.proofs.places.extend.Given as goal

abbrev pub invariant-loop-session : goal.invariant-loop-session
invariant-loop-session l =
    (l._session ≡ length l.places.items) × ((k : ℕ) → slice_index l.places.items k ≡ slice_index l.initial.places.items k)
