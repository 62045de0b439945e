-- the searches that are left, and those that have their slots
use Rattle.std.proofs.Common.{length}
use Rattle.tcc_steal.specs.private.Working.{MayTakeIn}
use Rattle.tcc_steal.proofs.Slots.{AreTaking}
use Rattle.tcc_steal.proofs.merging.take_in.Given as goal

abbrev pub invariant-loop-searched : goal.invariant-loop-searched
invariant-loop-searched l =
    AreTaking (λ t workers. MayTakeIn t l.bound workers l.fn.seat l.fn.slots l.fn.share) l.seat.known (length l.fn.slots) l.searches.items l.slots

abbrev pub decreases-loop-searched : goal.decreases-loop-searched
decreases-loop-searched l = goal.left-loop-searched l
