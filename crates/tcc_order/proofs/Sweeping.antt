-- One step along an order: the next transaction has its clock from those right before it, and their clocks are as they were.
use Rattle.std.proofs.Common.{◌<◌, ◌+◌, ℕ, List, length, get_or, set, take}
use Rattle.std.specs.List.{All, Contains}
use Rattle.tcc_reads.specs.History.{History, IsBySession, count}
use Rattle.tcc_graph.specs.Orders.{IsNumbering}
use Rattle.tcc_graph.proofs.Numberings.{below_in}
use Rattle.tcc_bits.proofs.Lists.{last_taken, still_taken}
use Rattle.tcc_clocks.specs.Parents.{HasSourcesAt, parents}
use Rattle.tcc_clocks.specs.Clocks.{AreLatestOf, IsBefore, LeadsOnward}
use Rattle.tcc_clocks.specs.private.Rows.{HasEntries, IsUpTo}
use Rattle.tcc_clocks.specs.declared.side.Side.TheVariants.{Past}
use Rattle.tcc_clocks.proofs.Along.{parents_have}
use Rattle.tcc_clocks.proofs.LatestLemmas.{row_done}
use Rattle.tcc_clocks.proofs.RowLemmas.{table_more}
use Rattle.tcc_order.specs.private.News.{HasClock}

module _ (h : History) (numbered : IsBySession h.entries) (from : ℕ) (order : List ℕ) (k : ℕ) (table : List (List ℕ)) (numbering : IsNumbering (count h) order)
    (onward : LeadsOnward h order) (inside : k < length order) (all : HasSourcesAt h (get_or order k 0)) (done : HasEntries Past h from (Contains (take k order)) table)
    (row : List ℕ) (made : AreLatestOf h (IsUpTo h (Contains (parents h (get_or order k 0)))) from row) where
  pub swept : HasEntries Past h from (Contains (take (k + 1) order)) (set table (get_or order k 0) row)
  swept =
      table_more h (λ c row. AreLatestOf h (IsBefore h c) from row) table order row k inside (below_in numbering k inside) done
      (row_done h numbered from order k table numbering onward inside all done row made)

  pub swept_clock : HasClock h from (set table (get_or order k 0) row) (get_or order k 0)
  swept_clock = swept.each (get_or order k 0) (below_in numbering k inside) (last_taken order k inside)

  pub swept_clocks : All (HasClock h from (set table (get_or order k 0) row)) (parents h (get_or order k 0))
  swept_clocks =
      parents_have h numbered (λ p row. AreLatestOf h (IsBefore h p) from row) order k (set table (get_or order k 0) row) numbering onward inside all
      (λ p l there. swept.each p l (still_taken order k inside p there))
