use Rattle.std.proofs.Common.{◌∙◌}
use Rattle.std.proofs.lemmas.Result.{IfOk-weaker}
use Rattle.tcc_graph.proofs.Kept.{same_link}
use Rattle.tcc_graph.proofs.link.Link.copy.Goals as goal

pub returns : goal.returns
returns c = IfOk-weaker c.renumbered.result _ _ (λ other is. is ∙ same_link c.args.self.now) c.renumbered.ensures
