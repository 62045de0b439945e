use Rattle.std.proofs.Common.{List, subst}
use Rattle.std.proofs.lemmas.Bool.{iff_false}
use Rattle.tcc_graph.specs.Levels.{judged}
use Rattle.tcc_cert.specs.Taken.{with_links}
use Rattle.tcc_cert.specs.declared.large.Run.{Run}
use Rattle.tcc_rules.specs.Asked.{IsVerdictOf}
use Rattle.tcc_judge.specs.Verdicts.{least_rules}
use Rattle.tcc_judge.proofs.TakenLemmas.{least_claimed, links_rejected, not_claimed, sizes_rejected}
use Rattle.tcc_judge.proofs.taken.judge_taken_cycle.Goals as goal

pub returns-then-not-branch : goal.returns-then-not-branch
returns-then-not-branch g c links is = rw c.rejected.ensures
    (sizes_rejected c.args.graph.now (with_links c.args.head.now links) (iff_false (c.in_ok-has_head_sizes.ensures.sizes links is.below) c.if-not-branch.true))

pub returns-in-Some : goal.returns-in-Some
returns-in-Some g c links is =
    let sizes = c.args.head.now.sizes in
    let fault = rw c.in-Some.is at (c.in_ok-at.ensures (judged c.args.graph.now sizes.level) sizes.cost links is.seen) in
    rw c.rejected_at.ensures
    (links_rejected c.args.graph.now (with_links c.args.head.now links) ((c.in_ok-has_head_sizes.ensures.sizes links is.below).0 c.if-not-branch.false)
    c.in-Some.at fault)

pub least_verdict-requires : goal.least_verdict-requires
least_verdict-requires g c = rw c.as_slice.ensures (rw c.in-Some-least.is at (c.in_ok-has_head_sizes.ensures.needed c.if-not-branch.false))

pub returns-in_ok-verdict-in-Some-least : goal.returns-in_ok-verdict-in-Some-least
returns-in_ok-verdict-in-Some-least g c links is =
    let sizes = c.args.head.now.sizes in
    let right = rw c.in_default.is at (c.in_ok-at.ensures (judged c.args.graph.now sizes.level) sizes.cost links is.seen) in
    least_claimed c.args.graph.now (with_links c.args.head.now links) c.in-Some-least.runs c.in-Some-least.is
    ((c.in_ok-has_head_sizes.ensures.sizes links is.below).0 c.if-not-branch.false) right c.in_ok-verdict-in-Some-least.verdict
    (subst (λ (z : List Run). IsVerdictOf (least_rules c.args.graph.now sizes.level sizes.cost z) c.in_ok-verdict-in-Some-least.verdict) c.as_slice.ensures
    c.in_ok-verdict-in-Some-least.ensures)

pub returns-in-None : goal.returns-in-None
returns-in-None g c links is =
    let sizes = c.args.head.now.sizes in
    let right = rw c.in_default.is at (c.in_ok-at.ensures (judged c.args.graph.now sizes.level) sizes.cost links is.seen) in
    not_claimed c.args.graph.now (with_links c.args.head.now links) c.in-None.is
    ((c.in_ok-has_head_sizes.ensures.sizes links is.below).0 c.if-not-branch.false) right
