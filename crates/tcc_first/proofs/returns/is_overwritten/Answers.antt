use Rattle.std.proofs.Common.{inl, sym, ◌∙◌}
use Rattle.std.proofs.lemmas.Bool.{false≢true}
use Rattle.tcc_first.proofs.ReturnLemmas.{overwritten_or}
use Rattle.tcc_first.proofs.returns.is_overwritten.Goals as goal

pub returns-then-is_overwritten_between : goal.returns-then-is_overwritten_between
returns-then-is_overwritten_between c = (
  (λ _. let (b, writer, p, q) = c.is_overwritten_between.ensures.0 c.if-is_overwritten_between.true in (b, writer, inl (p, q))),
  (λ _. c.if-is_overwritten_between.true),
)

pub returns-else-is_overwritten_between : goal.returns-else-is_overwritten_between
returns-else-is_overwritten_between c =
    overwritten_or c.args.graph.now c.args.from c.args.reader _ c.reads_overwriting.result
    (λ found. false≢true (sym c.if-is_overwritten_between.false ∙ c.is_overwritten_between.ensures.1 found)) c.reads_overwriting.ensures
