use Rattle.std.proofs.Common.{sym, ◌∙◌}
use Rattle.std.proofs.lemmas.Bool.{false≢true}
use Rattle.tcc_graph.specs.Levels.{judged}
use Rattle.tcc_graph.proofs.Pairs.{pair_kinds, pair_from_kinds}
use Rattle.tcc_first.specs.private.Picks.{NoneContradictedUpTo}
use Rattle.tcc_first.proofs.LongLemmas.{cheapest_pair, cheapest_derived, none_cheap}
use Rattle.tcc_first.proofs.cheapest.cheapest_link.Goals as goal

pub pair_link-requires-clause-pair : goal.pair_link-requires-clause-pair
pair_link-requires-clause-pair c = pair_kinds c.args.graph.now c.args.from c.args.to (sym c.causal.ensures ∙ c.if-causal.true)

pub returns-then-causal : goal.returns-then-causal
returns-then-causal c =
    cheapest_pair (judged c.args.graph.now c.args.level) c.args.from c.args.to c.pair_link.result (c.pair_link.ensures c.args.level)

pub returns-in_default : goal.returns-in_default
returns-in_default c =
    let h = c.args.graph.now in
    let j = judged h c.args.level in
    let lengths = c.in_ok-lengths.lengths.items in
    let none : NoneContradictedUpTo h lengths c.args.most c.args.from c.args.to = rw c.deref.ensures.value at c.in_default.ensures in
    none_cheap j c.args.from c.args.most lengths c.requires.few c.in_ok-lengths.ensures c.args.to
    (λ pair. false≢true (sym c.if-causal.false ∙ (c.causal.ensures ∙ pair_from_kinds h c.args.from c.args.to pair))) none

pub returns : goal.returns
returns c =
    let h = c.args.graph.now in
    let j = judged h c.args.level in
    let lengths = c.in_ok-lengths.lengths.items in
    let (below, (n, some, within, first, none)) = rw c.deref.ensures.value at c.in-Some.ensures in
    cheapest_derived j c.args.from c.args.most lengths c.requires.few c.in_ok-lengths.ensures c.args.to n some within none _ _ first c.in_ok-walk.walk
    (c.in_ok-walk.ensures c.args.level c.args.most c.requires.few (rw c.deref-2.ensures.value c.in_ok-lengths.ensures))
    (λ pair. false≢true (sym c.if-causal.false ∙ (c.causal.ensures ∙ pair_from_kinds h c.args.from c.args.to pair)))
