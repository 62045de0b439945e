use Rattle.std.proofs.Common.{ℕ, ◌<◌}
use Rattle.std.specs.Prelude.{slice_index}
use Rattle.tcc_graph.specs.Relations.{IsReadsPair, IsSessionPair}
use Rattle.tcc_graph.specs.Keys.{key_at}
use Rattle.tcc_first.proofs.two_steps.is_session_two_step.Given as goal

abbrev pub invariant-loop-key_index : goal.invariant-loop-key_index
invariant-loop-key_index l =
    (k : ℕ) → k < l.key_index-index
    → ((c : ℕ) × IsReadsPair l.graph l.to c (key_at l.graph (slice_index l.key_index-items k)) × IsSessionPair l.graph l.from c) → ⊥
