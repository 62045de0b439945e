use Rattle.tcc_order.specs.private.CausalLinks.{KeepsNews}
use Rattle.tcc_order.proofs.causal_links.keep.Given as goal

abbrev pub invariant-loop-session : goal.invariant-loop-session
invariant-loop-session l = KeepsNews l.need l.clock l.initial.run l.run l.initial.kept.items l.kept.items l.session
