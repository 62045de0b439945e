use Rattle.std.proofs.Common.{rules, ◌≡◌, List, subst}
use Rattle.tcc_cert.specs.declared.large.Run.{Run}
use Rattle.tcc_judge.specs.Verdicts.{least_rules}
use Rattle.tcc_rules.specs.declared.verdict.Verdict.TheVariants as verdict
use Rattle.tcc_judge.proofs.Leastness.{with_links}
use Rattle.tcc_judge.proofs.cycles.judge_cycle.Goals as goal
use Rattle.tcc_rules.specs.Asked.{IsVerdictOf}

pub returns-in_ok-verdict-in-Some : goal.returns-in_ok-verdict-in-Some
returns-in_ok-verdict-in-Some c =
    let accepted : c.in_ok-verdict.verdict ≡ verdict.Accepted = search rules in
    let right = rw accepted at c.in_ok-verdict.ensures in
    with_links c.args.graph.now c.args.claim.now _ c.in-Some.is (c.in_ok-has_links_sizes.ensures.0 c.if-not-branch.false) right.0
    c.in_ok-verdict-in-Some.verdict
    (subst (λ (z : List Run). IsVerdictOf (least_rules c.args.graph.now c.args.claim.now.level c.args.claim.now.cost z) c.in_ok-verdict-in-Some.verdict)
    c.as_slice.ensures c.in_ok-verdict-in-Some.ensures)
