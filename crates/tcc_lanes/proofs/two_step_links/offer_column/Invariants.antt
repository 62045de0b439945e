use Rattle.std.proofs.Common.{get_or}
use Rattle.tcc_lanes.specs.private.Closings.{AreOffered, IsInColumn}
use Rattle.tcc_lanes.proofs.two_step_links.offer_column.Given as goal

abbrev pub invariant-loop-lane : goal.invariant-loop-lane
invariant-loop-lane l =
    AreOffered (IsInColumn l.positions l.most l.starts l.members l.table l.column l.lane) (λ v. get_or l.positions v 0) l.initial.found.prices.items
    l.initial.found.lasts.items l.found.prices.items l.found.lasts.items
