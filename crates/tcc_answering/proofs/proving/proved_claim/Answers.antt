use Rattle.std.proofs.Common.{sym, subst, rules}
use Rattle.tcc_cert.specs.LargeTexts.{HasLeastText}
use Rattle.tcc_cert.specs.declared.large.LinksClaim.{LinksClaim}
use Rattle.tcc_judge.specs.Verdicts.{cycle_rules}
use Rattle.tcc_rules.proofs.Asked.{all_hold}
use Rattle.tcc_rules.specs.Asked.{AllHold}
use Rattle.tcc_answering.proofs.Judged.{not_rejected}
use Rattle.tcc_answering.proofs.proving.proved_claim.Goals as goal

pub returns-in-Accepted : goal.returns-in-Accepted
returns-in-Accepted c =
    let h = c.args.graph.now in
    let is = c.in_ok-claim.ensures in
    let room : HasLeastText c.in_ok-claim.claim.least = search rules in
    let hold = all_hold (cycle_rules h c.in_ok-claim.claim) c.in_ok-judge_cycle.field-0 c.in-Accepted.is c.in_ok-judge_cycle.ensures in
    (is, (subst (λ (k : LinksClaim). HasLeastText k.least) is room, subst (λ (k : LinksClaim). AllHold (cycle_rules h k)) is hold))

pub returns-in-Rejected : goal.returns-in-Rejected
returns-in-Rejected c provable =
    let h = c.args.graph.now in
    let hold = subst (λ (k : LinksClaim). AllHold (cycle_rules h k)) (sym c.in_ok-claim.ensures) provable.1 in
    not_rejected h c.in_ok-claim.claim c.in_ok-judge_cycle.field-0 c.in-Rejected.rule c.in-Rejected.at c.in-Rejected.is c.in_ok-judge_cycle.ensures hold
