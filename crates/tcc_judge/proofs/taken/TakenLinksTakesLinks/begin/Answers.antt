use Rattle.std.proofs.Common.{refl}
use Rattle.tcc_judge.proofs.taken.TakenLinksTakesLinks.begin.Goals as goal

pub returns-clause-head : goal.returns-clause-head
returns-clause-head c h sizes links is = record {
  so_far = record { graph = is.graph; level = is.level; below = is.below; seen = is.seen };
  begun = refl;
  known = rw c.from.ensures at (c.new-self.ensures h);
}
