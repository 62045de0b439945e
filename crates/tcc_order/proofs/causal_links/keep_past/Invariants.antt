use Rattle.std.proofs.Common.{◌≡◌, ◌<◌, ◌≤◌, ℕ, length, slice_index}
use Rattle.tcc_order.specs.private.ByKey.{past_of}
use Rattle.tcc_order.proofs.causal_links.keep_past.Given as goal

abbrev pub invariant-loop-session : goal.invariant-loop-session
invariant-loop-session l =
    (length l.top ≡ length l.initial.top)
    × ((k : ℕ) → k < l.session → slice_index l.top k ≡ past_of (slice_index l.known k) (slice_index l.initial.top k))
    × ((k : ℕ) → l.session ≤ k → slice_index l.top k ≡ slice_index l.initial.top k)
