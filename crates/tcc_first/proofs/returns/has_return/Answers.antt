use Rattle.std.proofs.Common.{sym, ◌∙◌}
use Rattle.std.proofs.lemmas.Bool.{false≢true}
use Rattle.tcc_first.proofs.ReturnLemmas.{overwritten_return, return_or}
use Rattle.tcc_first.proofs.returns.has_return.Goals as goal

pub returns-then-has_overwritten : goal.returns-then-has_overwritten
returns-then-has_overwritten c = (
  (λ _. overwritten_return c.args.graph.now c.numbered.ensures.numbered c.args.from (c.has_overwritten.ensures.0 c.if-has_overwritten.true)),
  (λ _. c.if-has_overwritten.true),
)

pub returns-else-has_overwritten : goal.returns-else-has_overwritten
returns-else-has_overwritten c =
    return_or c.args.graph.now c.args.from c.has_reader_return.result
    (λ found. false≢true (sym c.if-has_overwritten.false ∙ c.has_overwritten.ensures.1 found)) c.has_reader_return.ensures
