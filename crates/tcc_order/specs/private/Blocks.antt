-- A block of sessions, as the search for readings that tell more sees it.
use Rattle.tcc_reads.specs.History.{IsBySession}
use Rattle.tcc_clocks.specs.Clocks.{AreOwners}
use Rattle.tcc_order.specs.private.News.{IsFloor}
use Rattle.tcc_order.specs.declared.news.NewsBlock.{NewsBlock}

-- each part of it is what its name says
pub record IsBlock (b : NewsBlock) : Type 0 where
  pub numbered : IsBySession b.graph.now.entries
  pub owners : AreOwners b.graph.now b.owners.now
  pub floor : IsFloor b.owners.now b.from b.floor
