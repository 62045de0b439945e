use Rattle.tcc_rules.proofs.JudgedLinks.{cost_over, cost_within}
use Rattle.tcc_rules.proofs.links.LinksJudge.is_over.Goals as goal

pub returns-in-Some : goal.returns-in-Some
returns-in-Some c j most links is = cost_within j most links c.args.self.now is c.in-Some.is

pub returns-in-None : goal.returns-in-None
returns-in-None c j most links is = cost_over j most links c.args.self.now is c.in-None.is
