use Rattle.std.proofs.Common.{◌∙◌, sym}
use Rattle.std.proofs.lemmas.Result.{IfOk-weaker}
use Rattle.tcc_graph.specs.Levels.{Judged, judged}
use Rattle.tcc_graph.proofs.Pairs.{pair_kinds}
use Rattle.tcc_large.proofs.ReasonLemmas.{derived_of, step_read}
use Rattle.tcc_large.proofs.reasons.link_between.Goals as goal

pub step-requires : goal.step-requires
step-requires c = pair_kinds c.args.graph.now c.args.from c.args.to (sym c.causal.ensures ∙ c.if-causal.true)

pub returns-then-causal : goal.returns-then-causal
returns-then-causal c =
    let j : Judged = judged c.args.graph.now c.args.level in
    (c.of.ensures.from ∙ c.step.ensures.from, c.of.ensures.to ∙ c.step.ensures.to, c.of.ensures.link j c.step.ensures.step)

pub derived_by_walk-requires : goal.derived_by_walk-requires
derived_by_walk-requires c =
    let j : Judged = judged c.args.graph.now c.args.level in
    rw c.in-Causal.is at (derived_of j c.args.from c.args.to (sym c.causal.ensures ∙ c.if-causal.false) c.requires.held)

pub two_step_link-requires : goal.two_step_link-requires
two_step_link-requires c =
    let j : Judged = judged c.args.graph.now c.args.level in
    step_read c.args.graph.now c.args.from c.args.to
    (rw c.in-Atomic.is at (derived_of j c.args.from c.args.to (sym c.causal.ensures ∙ c.if-causal.false) c.requires.held))

pub returns-in-Causal : goal.returns-in-Causal
returns-in-Causal c = rw c.in-Causal.is c.derived_by_walk.ensures

pub returns-in-Atomic : goal.returns-in-Atomic
returns-in-Atomic c =
    IfOk-weaker c.two_step_link.result _ _ (λ link short. (short.from, short.to, short.link c.args.level)) c.two_step_link.ensures
