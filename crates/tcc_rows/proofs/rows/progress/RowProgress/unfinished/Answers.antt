use Rattle.std.proofs.Common.{◌∙◌, ap, None}
use Rattle.std.specs.Prelude.{fold}
use Rattle.tcc_rows.specs.private.Passing.{lower}
use Rattle.tcc_rows.proofs.LeastOpen.{fold-is-least}
use Rattle.tcc_rows.proofs.rows.progress.RowProgress.unfinished.Goals as goal

pub returns : goal.returns
returns c limits past is =
    c.least_begun.ensures ∙ ap (fold lower None) c.all.ensures.value ∙ fold-is-least limits past c.args.self.now.sessions is.seats c.all.ensures.found
