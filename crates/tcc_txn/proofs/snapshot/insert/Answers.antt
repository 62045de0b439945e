use Rattle.std.proofs.Common.{◌++◌, ◌∷◌, [], ap, ◌∙◌}
use Rattle.std.specs.Global.{Vec}
use Rattle.std.specs.List.{insert}
use Rattle.tcc_txn.specs.Snapshots.{parts_of}
use Rattle.tcc_txn.specs.Transactions.{Transaction}
use Rattle.tcc_txn.proofs.Growing.{seen-insert}
use Rattle.tcc_txn.proofs.snapshot.insert.Goals as goal

pub returns-clause-inserted : goal.returns-clause-inserted
returns-clause-inserted c =
    let parts = c.args.parts.now.items in
    let first = c.in_ok-push.ensures.pushed ∙ ap (λ items. items ++ c.args.txn ∷ []) c.new-txns.ensures.items in
    ap parts_of c.in_ok-insert.ensures.items ∙ seen-insert (λ (v : Vec Transaction). v.items) parts c.args.at c.args.session c.push.new.txns
    ∙ ap (λ items. insert (parts_of parts) c.args.at (c.args.session, items)) first
