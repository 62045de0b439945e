use Rattle.std.proofs.Common.{◌∙◌}
use Rattle.tcc_steal.proofs.Capping.{row_capped, row_uncapped}
use Rattle.tcc_steal.proofs.branch_and_bound.capped_row.Goals as goal

pub returns-in-Some : goal.returns-in-Some
returns-in-Some c = rw c.in-Some.is (c.capped.ensures ∙ row_capped c.in-Some.cap c.args.row)

pub returns-in-None : goal.returns-in-None
returns-in-None c = rw c.in-None.is (row_uncapped c.args.row)
