use Rattle.std.proofs.Common.{◌≡◌, sym}
use Rattle.tcc_graph.specs.Keys.{keys}
use Rattle.tcc_graph.proofs.StepLemmas.{read_step}
use Rattle.tcc_graph.proofs.large_graph.LargeGraph.step.Goals as goal

pub returns-clause-step : goal.returns-clause-step
returns-clause-step c =
    let h = c.args.self.now in
    let names = c.self.inside.keys.items in
    let keyed : names ≡ keys h = rw (← c.self.view_is) c.self.invariant.keyed in
    read_step h names keyed c.args.from c.args.to c.reads_from_at.result.now c.reads_from_at.ensures.value c.reads_from_at.ensures.within
    (sym c.if-session.ensures) c.requires c.index-key.result.now c.index-key.ensures
