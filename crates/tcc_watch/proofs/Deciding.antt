-- What is known of a history, when a transaction is taken in.
use Rattle.std.proofs.Common.{Bool, true, false, not, ◌≡◌}
use Rattle.tcc_reads.specs.History.{History}
use Rattle.tcc_graph.specs.Levels.{causally}
use Rattle.tcc_graph.specs.declared.level.Level.TheVariants as level
use Rattle.tcc_watch.specs.declared.delivered.Delivered.{Delivered}
use Rattle.tcc_watch.specs.private.Tables.{Arriving, after}
use Rattle.tcc_watch.specs.private.Delivering.{HasDelivered, IsState}
use Rattle.tcc_watch.specs.private.Deciding.{IsKnownAs}
use Rattle.tcc_watch.proofs.Arrived.{cycle_stays}
use Rattle.tcc_watch.proofs.NoCycle.{no_cycle}

-- a cycle stays
pub still_cycle : (a : Arriving) (d : Delivered) (b : Bool) → b ≡ true → IsKnownAs a.history d b → IsKnownAs (after a) d b
still_cycle a d true is cycle = cycle_stays a.history a.entry level.Causal cycle
still_cycle a d false is known = cc

-- where it has none all is known
pub all_of : (h : History) (d : Delivered) (b : Bool) → b ≡ false → IsKnownAs h d b → IsState h d
all_of h d true is cycle = cc
all_of h d false is known = known.0

-- it has a cycle with the new one, or none
pub known_after : (a : Arriving) (d : Delivered) (in_order : Bool) → HasDelivered a d in_order → IsKnownAs (after a) d (not in_order)
known_after a d true done = done
known_after a d false cycle = cycle

pub first_known : (h : History) (d : Delivered) → IsState h d → IsKnownAs h d false
first_known h d state =
    (state, no_cycle (causally h) d.tables.closure.items state.tables.laid.closed.ordered state.tables.links state.tables.laid.delivered)
