use Rattle.tcc_rules.proofs.JudgedLinks.{judged_more}
use Rattle.tcc_rules.proofs.links.LinksJudge.judge_known.Goals as goal

pub returns-clause-one : goal.returns-clause-one
returns-clause-one c j most links link known so_far =
    judged_more j most links link c.args.self.now _ _ so_far c.in-Some.ensures.1
    (λ least i all. c.with_known-self.ensures j least i all link known)
