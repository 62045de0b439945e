use Rattle.std.proofs.Common.{◌<◌, ap, sym, subst}
use Rattle.tcc_reads.specs.History.{History, count}
use Rattle.tcc_graph.specs.private.Graphs.{Named}
use Rattle.tcc_graph.proofs.NamedLemmas.{named_at}
use Rattle.tcc_graph.proofs.graph.Graph.readings.Goals as goal

pub returns : goal.returns
returns c =
    let below = subst (λ (h : History). c.args.a < count h) (sym c.self.view_is) c.requires in
    let at = named_at c.self.inside.large (count c.self.inside.large) c.self.inside.names.items c.self.invariant.2 c.args.a below c.index.result.now c.index.ensures in
    let same = ap (λ (names : Named). names.readings) c.behind-self.view_is in
    rw (c.groups.ensures, c.values.ensures, same, ← c.self.view_is) at.readings
