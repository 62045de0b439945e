-- the search goes on, capped at what the seat saw last
use Rattle.std.proofs.Common.{◌≡◌, length}
use Rattle.tcc_graph.specs.Levels.{Judged}
use Rattle.tcc_derive.specs.Prices.{IsPricesOf}
use Rattle.tcc_steal.specs.private.Working.{IsSeat, KnowsMore}
use Rattle.tcc_steal.proofs.Rows.{IsOn}
use Rattle.tcc_steal.proofs.bounded_search.run.Given as goal

abbrev pub invariant-loop-settled : goal.invariant-loop-settled
invariant-loop-settled l =
    (l.search.start ≡ l.fn.search.start)
    × (length l.search.row ≡ length l.fn.search.row)
    × (l.cap ≡ l.seat.known.sight)
    × IsSeat l.prices l.bound l.seat
    × KnowsMore l.fn.seat.known l.seat.known
    × ((j : Judged) → IsPricesOf j l.prices → IsOn j l.fn.search.start l.settled l.search)
