-- A first answer without tables says what the first answer of the history is.
use Rattle.std.proofs.Common.{ℕ, List, refl}
use Rattle.tcc_reads.specs.History.{History}
use Rattle.tcc_graph.specs.Levels.{judged}
use Rattle.tcc_graph.specs.Orders.{IsFirstOrder}
use Rattle.tcc_graph.specs.Routes.{HasCycle}
use Rattle.tcc_graph.specs.Ties.{IsFirstCycle}
use Rattle.tcc_graph.specs.declared.level.Level.{Level}
use Rattle.tcc_graph.specs.declared.link.Link.{Link}
use Rattle.tcc_answer.specs.declared.answer.Answer.TheVariants as answer
use Rattle.tcc_explain.specs.Explained.{IsBareAnswer}
use Rattle.tcc_run.specs.LargeRuns.{bare_cycle, bare_order}

pub order_bare : (h : History) (level : Level) (order : List ℕ) → (HasCycle (judged h level) → ⊥) → IsFirstOrder (judged h level) order
    → IsBareAnswer (judged h level) (answer.Commit (bare_order level h order))
order_bare h level order none is = ((none, is), refl, refl, refl)

pub cycle_bare : (h : History) (level : Level) (s : ℕ) (links : List Link) → IsFirstCycle (judged h level) s links
    → IsBareAnswer (judged h level) (answer.Anomaly (bare_cycle level h links))
cycle_bare h level s links is = ((s, is), refl, refl)
