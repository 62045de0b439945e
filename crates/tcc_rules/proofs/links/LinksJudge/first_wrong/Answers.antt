use Rattle.tcc_rules.proofs.JudgedLinks.{all_seen}
use Rattle.tcc_rules.proofs.links.LinksJudge.first_wrong.Goals as goal

pub returns : goal.returns
returns c j most links is = c.seen_wrong.ensures j most links (all_seen j most links c.args.self.now is)
