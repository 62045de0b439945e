use Rattle.std.proofs.Common.{refl}
use Rattle.std.proofs.lemmas.List.Elements.{All-nil}
use Rattle.tcc_reads.specs.History.{count}
use Rattle.tcc_graph.specs.Levels.{judged}
use Rattle.tcc_cert.specs.CycleRules.{IsLinkBelow}
use Rattle.tcc_judge.proofs.taken.TakenLinksTakesLinks.start.Goals as goal

pub returns-clause-start : goal.returns-clause-start
returns-clause-start c h is = record {
  graph = is;
  level = refl;
  below = ((λ _. All-nil (IsLinkBelow (count h))), (λ _. refl));
  seen = c.new-self.ensures (judged h c.args.sizes.level);
}
