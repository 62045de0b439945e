use Rattle.std.proofs.Common.{sym, ◌∙◌, arith}
use Rattle.std.proofs.lemmas.Bool.{false≢true}
use Rattle.tcc_first.proofs.LastLemmas.{by_pair, by_two_steps, none_by}
use Rattle.tcc_first.proofs.short.last_cost.Goals as goal

pub returns-then-ends_by_pair : goal.returns-then-ends_by_pair
returns-then-ends_by_pair c =
    by_pair c.args.graph.now c.args.start c.args.end c.args.left c.args.from c.requires.some (c.ends_by_pair.ensures.0 c.if-ends_by_pair.true)

pub returns-then-left-eq1 : goal.returns-then-left-eq1
returns-then-left-eq1 c =
    none_by c.args.graph.now c.args.start c.args.end c.args.left c.args.from c.requires.some
    (λ found. false≢true (sym c.if-ends_by_pair.false ∙ c.ends_by_pair.ensures.1 found)) (λ more. absurd (omega (arith, more, c.if-left-eq1.true)))

pub returns-then-ends_by_two_steps : goal.returns-then-ends_by_two_steps
returns-then-ends_by_two_steps c =
    by_two_steps c.args.graph.now c.args.start c.args.end c.args.left c.args.from (omega (arith, c.requires.some, c.if-left-eq1.false))
    (c.ends_by_two_steps.ensures.0 c.if-ends_by_two_steps.true)

pub returns : goal.returns
returns c =
    none_by c.args.graph.now c.args.start c.args.end c.args.left c.args.from c.requires.some
    (λ found. false≢true (sym c.if-ends_by_pair.false ∙ c.ends_by_pair.ensures.1 found))
    (λ more found. false≢true (sym c.if-ends_by_two_steps.false ∙ c.ends_by_two_steps.ensures.1 found))
