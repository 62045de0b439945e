use Rattle.std.proofs.Common.{◌≡◌, ◌++◌, ◌∷◌, [], List, Some, ap, slice_get, sym, take, ◌∙◌}
use Rattle.std.proofs.lemmas.List.{take_more}
use Rattle.std.proofs.lemmas.Option.{get_or_from_slice_get, slice_get_within}
use Rattle.tcc_txn.specs.Snapshots.{finished_at}
use Rattle.tcc_txn.specs.Transactions.{Transaction}
use Rattle.tcc_txn.proofs.snapshot.copied.Goals as goal

pub loop-index-preserved : goal.loop-index-preserved
loop-index-preserved g c =
    let txns : List Transaction = finished_at c.args.snapshot.now c.args.i in
    let i = c.loop-index.index in
    let one : Transaction = c.in-Some.recorded in
    let last : Transaction = c.in_ok-to_txn-in-Some.field-0 in
    let found : slice_get txns i ≡ Some one = sym c.in-Some.ensures in
    c.in_ok-push-in-Some.ensures.items
    ∙ (ap (λ (z : List Transaction). z ++ last ∷ []) c.loop-index.invariant
    ∙ (ap (λ (z : Transaction). take i txns ++ z ∷ []) (c.in_ok-to_txn-in-Some.ensures ∙ sym (get_or_from_slice_get txns i one one found))
    ∙ sym (take_more txns i one (slice_get_within txns i one found))))
