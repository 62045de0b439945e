-- Whether the history so far has a cycle.
use Rattle.std.specs.Prelude.{ℕ, Bool, true, false, List}
use Rattle.tcc_reads.specs.History.{History}
use Rattle.tcc_graph.specs.Levels.{causally}
use Rattle.tcc_graph.specs.Routes.{HasCycle}
use Rattle.tcc_watch.specs.declared.at.At.{At}
use Rattle.tcc_watch.specs.declared.delivered.Delivered.{Delivered}
use Rattle.tcc_watch.specs.declared.decided.Decided.{Decided}
use Rattle.tcc_watch.specs.private.Tables.{Arriving}
use Rattle.tcc_watch.specs.private.Delivering.{IsComing, IsState}

-- it has a cycle; or all is known of it, and it has none
abbrev pub IsKnownAs : History → Delivered → Bool → Type 0
IsKnownAs h d true = HasCycle (causally h)
IsKnownAs h d false = IsState h d × (HasCycle (causally h) → ⊥)

abbrev pub IsDecided : History → Decided → Type 0
IsDecided h d = IsKnownAs h d.delivered d.has_cycle

-- what is known of the history before, and what comes
pub record CanDecide (arriving : Arriving) (d : Decided) (at : At) (writes : List (List ℕ)) (reads : List (List ℕ × ℕ)) : Type 0 where
  pub known : IsDecided arriving.history d
  pub coming : IsComing arriving at writes reads
