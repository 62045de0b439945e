-- Whether a transaction brings a cycle is decided by its reads and by the links between listed writers.
use Rattle.std.proofs.Common.{ℕ, ◌⊎◌, inl, inr, List}
use Rattle.std.specs.Prelude.{◌↔◌}
use Rattle.tcc_reads.specs.History.{Entry, History}
use Rattle.tcc_graph.specs.Levels.{causally}
use Rattle.tcc_graph.specs.Routes.{HasCycle}
use Rattle.tcc_watch.specs.Delivered.{IsDelivered, with_last}
use Rattle.tcc_forget.specs.Cases.{ClosesCircle, ReadsOutdated}
use Rattle.tcc_forget.specs.Covers.{ComesOn, Cover, Covers}
use Rattle.tcc_forget.proofs.Made.{circle_cycle, cycle_by}
use Rattle.tcc_forget.proofs.Outdated.{outdated_cycle}

pub decided : (h : History) (live : List ℕ) (cover : Cover) (e : Entry) → IsDelivered h → (HasCycle (causally h) → ⊥) → Covers h live cover
    → ComesOn h live e → HasCycle (causally (with_last h e)) ↔ (ReadsOutdated h e cover ⊎ ClosesCircle h e cover)
decided h live cover e delivered none covers on = (cycle_by h live cover e delivered covers on none, back)
  where
    back : ReadsOutdated h e cover ⊎ ClosesCircle h e cover → HasCycle (causally (with_last h e))
    back (inl (x, a, read, is)) = outdated_cycle h live cover e delivered covers on x a read is
    back (inr circle) = circle_cycle h live cover e delivered covers on circle
