use Rattle.tcc_graph.specs.Links.{link_from}
use Rattle.tcc_judge.proofs.taken.TakenLinksTakesLinks.step.Goals as goal

pub returns-clause-step : goal.returns-clause-step
returns-clause-step c h sizes links head walk is = record {
  so_far = record { graph = is.so_far.graph; level = is.so_far.level; below = is.so_far.below; seen = is.so_far.seen };
  begun = is.begun;
  known = rw is.so_far.graph at (c.in_ok-push.ensures.one (link_from head) walk (rw is.so_far.graph is.known));
}
