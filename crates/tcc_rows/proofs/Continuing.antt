-- Snapshots that grow by one item after another are nested.
use Rattle.std.proofs.Common.{List, [], ◌∷◌, ◌++◌, sym, subst}
use Rattle.std.specs.Prelude.{fold}
use Rattle.std.specs.FinMap.{empty}
use Rattle.std.proofs.lemmas.List.Sums.{fold-append}
use Rattle.tcc_rows.specs.Items.{with_item, finished_in}
use Rattle.tcc_txn.specs.Nested.{IsNested}
use Rattle.tcc_txn.specs.Snapshots.{Sessions}
use Rattle.tcc_rows.specs.declared.rows.Item.{Item}
use Rattle.tcc_rows.specs.declared.rows.Item.TheVariants as item
use Rattle.tcc_txn.proofs.Nesting.{nested_itself, nested_on, nested_transaction}

nested_item : (s : Sessions) (i : Item) → IsNested s (with_item s i)
nested_item s (item.Finished session txn) = nested_transaction s session txn
nested_item s (item.Unknown session txn) = nested_itself s
nested_item s item.Seal = nested_itself s
nested_item s item.End = nested_itself s

pub nested_items : (s : Sessions) (items : List Item) → IsNested s (fold with_item s items)
nested_items s [] = nested_itself s
nested_items s (i ∷ items) = nested_on s (with_item s i) (fold with_item (with_item s i) items) (nested_item s i) (nested_items (with_item s i) items)

-- what some items finish is continued by what they finish with more items
pub nested_finished : (items more : List Item) → IsNested (finished_in items) (finished_in (items ++ more))
nested_finished items more =
    subst (λ (z : Sessions). IsNested (finished_in items) z) (sym (fold-append with_item empty items more)) (nested_items (finished_in items) more)
