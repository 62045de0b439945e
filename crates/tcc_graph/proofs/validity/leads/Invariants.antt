use Rattle.tcc_graph.proofs.Led.{IsRestOf}
use Rattle.tcc_graph.proofs.validity.leads.Given as goal

abbrev pub invariant-loop-step : goal.invariant-loop-step
invariant-loop-step l = IsRestOf l.graph l.from l.at l.to l.step-index l.steps
