use Rattle.tcc_txn.proofs.by_name.part_of.Goals as goal

pub returns-then-stands_at : goal.returns-then-stands_at
returns-then-stands_at g c = (c.index_of-at.ensures, c.stands_at.ensures.stands c.if-stands_at.true)

pub returns-else-stands_at : goal.returns-else-stands_at
returns-else-stands_at g c = (c.index_of-at.ensures, c.stands_at.ensures.not c.if-stands_at.false)
