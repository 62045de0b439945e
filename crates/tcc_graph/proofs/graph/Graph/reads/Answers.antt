use Rattle.std.proofs.Common.{◌<◌, ap, sym, subst}
use Rattle.tcc_reads.specs.History.{History, count}
use Rattle.tcc_graph.specs.private.Graphs.{Named}
use Rattle.tcc_graph.proofs.NamedLemmas.{named_at}
use Rattle.tcc_graph.proofs.graph.Graph.reads.Goals as goal

pub returns-clause-sources : goal.returns-clause-sources
returns-clause-sources c =
    let below = subst (λ (h : History). c.args.c < count h) (sym c.self.view_is) c.requires in
    let at = named_at c.self.inside.large (count c.self.inside.large) c.self.inside.names.items c.self.invariant.2 c.args.c below c.index.result.now c.index.ensures in
    let same = ap (λ (names : Named). names.reads) c.behind-self.view_is in
    rw (c.deref.ensures.value, same, ← c.self.view_is) at.sources
