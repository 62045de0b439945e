-- What the sessions have finished by some items.
use Rattle.std.specs.Prelude.{List, fold}
use Rattle.std.specs.FinMap as map
use Rattle.tcc_txn.specs.Finished.{with_transaction}
use Rattle.tcc_txn.specs.Snapshots.{Sessions}
use Rattle.tcc_rows.specs.declared.rows.Item.{Item}
use Rattle.tcc_rows.specs.declared.rows.Item.TheVariants as item

-- what is finished after one more item
abbrev pub with_item : Sessions → Item → Sessions
with_item s (item.Finished session txn) = with_transaction s session txn
with_item s (item.Unknown session txn) = s
with_item s item.Seal = s
with_item s item.End = s

-- each session with a finished item, with its finished transactions in their order
abbrev pub finished_in : List Item → Sessions
finished_in items = fold with_item map.empty items
