use Rattle.tcc_graph.proofs.Kept.{cycle_by}
use Rattle.tcc_slices.proofs.laws.cycles.Goals as goal

pub returns : goal.returns
returns c = λ j f s links. cycle_by f j s links
