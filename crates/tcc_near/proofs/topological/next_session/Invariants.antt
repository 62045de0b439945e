use Rattle.std.proofs.Common.{◌<◌, length, slice_index}
use Rattle.std.specs.Prelude.{IfSome}
use Rattle.tcc_near.proofs.topological.next_session.Given as goal

abbrev pub invariant-loop-session : goal.invariant-loop-session
invariant-loop-session l = IfSome l.open (λ s. (s < length l.heads) × (0 < slice_index l.heads s))
