-- A second derived link was met.
use Rattle.std.proofs.Common.{sym, ◌∙◌}
use Rattle.tcc_answer.proofs.Ends.{conflict}
use Rattle.tcc_answer.proofs.shape.shape_of.Goals as goal

pub returns-then-is_some : goal.returns-then-is_some
returns-then-is_some c =
    conflict c.args.links.now c.loop-link.link-index c.link-item.result c.loop-link.end _ _ _ _ _
    c.loop-link-test.true c.link-item.is c.in-Derived.is c.loop-link.invariant (sym c.if-is_some.true ∙ c.is_some.ensures)
