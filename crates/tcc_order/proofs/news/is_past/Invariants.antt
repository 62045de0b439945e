use Rattle.std.proofs.Common.{◌≡◌, ◌<◌, ◌≤◌, ℕ, false, slice_index}
use Rattle.std.specs.Prelude.{min}
use Rattle.tcc_order.proofs.news.is_past.Given as goal

abbrev pub invariant-loop-session : goal.invariant-loop-session
invariant-loop-session l = l.any ≡ false → (k : ℕ) → k < l.session → min (slice_index l.reader k) (slice_index l.last k) ≤ slice_index l.known k
