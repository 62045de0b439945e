use Rattle.std.proofs.Common.{get_or}
use Rattle.tcc_lanes.specs.private.Closings.{AreOffered, IsInColumns}
use Rattle.tcc_lanes.proofs.two_step_links.offer_table.Given as goal

abbrev pub invariant-loop-column : goal.invariant-loop-column
invariant-loop-column l =
    AreOffered (IsInColumns l.positions l.most l.starts l.members l.prices.table.items l.column) (λ v. get_or l.positions v 0) l.initial.found.prices.items
    l.initial.found.lasts.items l.found.prices.items l.found.lasts.items
