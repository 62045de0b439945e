-- The sizes, then the links, then the tables.
use Rattle.std.proofs.Common.{[], ◌∷◌}
use Rattle.tcc_cert.specs.CycleRules.{HasRightSizes}
use Rattle.tcc_rules.specs.Asked.{as_whole}
use Rattle.tcc_check.specs.private.Judged.{claim_rules, links_rules}
use Rattle.tcc_check.specs.Verdicts.{bounds_rules}
use Rattle.tcc_rules.specs.declared.verdict.Rule.TheVariants.{Sizes}
use Rattle.tcc_rules.proofs.Asked.{all_hold, answer_early, answer_later, ok_later}
use Rattle.tcc_check.proofs.cycle.cycle_verdict.Goals as goal

pub returns-in_default : goal.returns-in_default
returns-in_default c =
    let h = c.args.graph.now in
    let k = c.args.claim.now in
    let sizes = c.has_right_sizes.ensures.0 c.if-not-has_right_sizes.false in
    answer_later (as_whole Sizes (HasRightSizes h k) ∷ []) (claim_rules h k) c.in_ok-of_links.of_links (sizes, tt)
    (answer_early (links_rules h k) (bounds_rules h k) c.in_ok-of_links.of_links c.in_default.not-Accepted c.in_ok-of_links.ensures)

pub returns-in-Accepted : goal.returns-in-Accepted
returns-in-Accepted c =
    let h = c.args.graph.now in
    let k = c.args.claim.now in
    let sizes = c.has_right_sizes.ensures.0 c.if-not-has_right_sizes.false in
    let right = all_hold (links_rules h k) c.in_ok-of_links.of_links c.in-Accepted.is c.in_ok-of_links.ensures in
    ok_later (as_whole Sizes (HasRightSizes h k) ∷ links_rules h k) (bounds_rules h k) c.bounds_verdict.result (sizes, right) c.bounds_verdict.ensures
