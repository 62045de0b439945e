use Rattle.std.proofs.Common.{◌<◌, length, sym, subst}
use Rattle.tcc_reads.specs.History.{History}
use Rattle.tcc_reads.specs.Indexed.{entries_of}
use Rattle.tcc_graph.proofs.IndexedLemmas.{reads_below}
use Rattle.tcc_graph.proofs.large_graph.LargeGraph.reads_at.Goals as goal

pub returns-clause-within : goal.returns-clause-within
returns-clause-within c =
    rw (← c.self.view_is, c.reads.ensures, ← c.self.invariant.keyed)
    (reads_below c.self.inside.keys.items (entries_of c.self.inside.keys.items c.self.inside.indexed) c.self.inside.indexed c.self.invariant.indexed c.self.invariant.sources c.args.c
    (subst (λ (h : History). c.args.c < length h.entries) (sym c.self.view_is) c.requires))
