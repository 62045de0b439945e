use Rattle.tcc_graph.proofs.Leveled.{atomic_order, causal_cycle}
use Rattle.tcc_graph.proofs.laws.levels.Goals as goal

pub returns : goal.returns
returns c = record { orders = atomic_order; cycles = causal_cycle }
