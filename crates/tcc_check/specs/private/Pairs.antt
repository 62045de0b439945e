-- What is known of the causal pairs of a history.
use Rattle.std.specs.Prelude.{ℕ, ◌<◌, List, All}
use Rattle.tcc_reads.specs.History.{History, count}
use Rattle.tcc_check.specs.declared.adjacency.PairLists.{PairLists}
use Rattle.tcc_check.specs.private.Readings.{AreReadings}
use Rattle.tcc_check.specs.private.Runs.{AreRuns}
use Rattle.tcc_check.specs.private.Weights.{AreByWeight}
use Rattle.tcc_check.specs.private.WeightsFrom.{AreAllEnds, ReadWeighs}

-- where the runs of sessions begin, the reads-from pairs, and who reads each key
pub record ArePairs (h : History) (least : ℕ) (pairs : PairLists) : Type 0 where
  pub runs : AreRuns h pairs.begins.items
  pub reads : AreAllEnds (ReadWeighs h) (count h) least pairs.reads.items
  pub readings : AreReadings h pairs.readings.items

-- all ends are below n, and the lighter come first
pub record AreOrderly (n : ℕ) (ends : List (List (ℕ × ℕ))) : Type 0 where
  pub inside : All (λ links. All (λ link. link.0 < n) links) ends
  pub sorted : All (λ links. AreByWeight links) ends
