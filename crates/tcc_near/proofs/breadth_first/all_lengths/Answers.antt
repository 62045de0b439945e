use Rattle.std.proofs.lemmas.Result.{IfOk-weaker}
use Rattle.tcc_graph.specs.declared.level.Level.TheVariants as level
use Rattle.tcc_near.proofs.BreadthLemmas.{near_from_rows}
use Rattle.tcc_near.proofs.breadth_first.all_lengths.Goals as goal

pub returns-in-Causal : goal.returns-in-Causal
returns-in-Causal g c =
    rw c.in-Causal.is (IfOk-weaker c.rows_backwards.result _ _ (λ rows have. near_from_rows c.args.pairs.now.history level.Causal rows.items have)
    c.rows_backwards.ensures)

pub returns-in-Atomic : goal.returns-in-Atomic
returns-in-Atomic g c =
    rw c.in-Atomic.is (IfOk-weaker c.rows_of_steps.result _ _ (λ rows have. near_from_rows c.args.pairs.now.history level.Atomic rows.items have)
    c.rows_of_steps.ensures)
