use Rattle.std.proofs.Common.{◌≡◌, ◌↔◌}
use Rattle.std.specs.Prelude.{IsTrue}
use Rattle.std.specs.List.{All}
use Rattle.tcc_reads.specs.History.{count}
use Rattle.tcc_graph.specs.Levels.{judged}
use Rattle.tcc_graph.specs.Links.{link_from}
use Rattle.tcc_cert.specs.CycleRules.{IsLinkBelow}
use Rattle.tcc_cert.specs.Reading.{with_walk}
use Rattle.tcc_rules.specs.Known.{IsKnownLink, IsKnownWalk}
use Rattle.tcc_judge.proofs.taken.TakenLinksTakesLinks.end.Goals as goal

pub returns-clause-link : goal.returns-clause-link
returns-clause-link c h sizes links head walk is =
    let old = c.args.self.now in
    let graph : old.graph.now ≡ h = is.so_far.graph in
    let same : c.in-Some.head ≡ head = cc (c.take.ensures.value, c.in-Some.is, is.begun) in
    let here : IsKnownWalk old.graph.now (link_from head) walk old.walk = rw graph is.known in
    let below : IsTrue old.are_below ↔ All (IsLinkBelow (count old.graph.now)) links = rw graph is.so_far.below in
    let known : IsKnownLink (judged h sizes.level) (with_walk head walk) c.in_ok-known.known
    = rw (graph, is.so_far.level, same) at (c.in_ok-known.ensures walk (rw same here)) in
    record {
      graph = graph;
      level = is.so_far.level;
      below = rw (graph, same) at (c.are_links_below-self.ensures (link_from head) walk links here below);
      seen = c.in_ok-judge_known.ensures.one (judged h sizes.level) sizes.cost links (with_walk head walk) known is.so_far.seen;
    }
