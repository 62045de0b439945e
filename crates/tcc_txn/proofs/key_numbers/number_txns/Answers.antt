use Rattle.std.proofs.Common.{◌≡◌, ℕ, ◌++◌, List, map, take, ap, subst, sym, ◌∙◌}
use Rattle.std.proofs.lemmas.List.{take_all}
use Rattle.tcc_txn.specs.KeyNumbers.{AreNumbers, keys_of}
use Rattle.tcc_txn.specs.Transactions.{Transaction, op_key}
use Rattle.tcc_txn.specs.declared.op.Op.{Op}
use Rattle.tcc_txn.proofs.NumberedKeys.{more_keys}
use Rattle.tcc_txn.proofs.key_numbers.number_txns.Goals as goal

abbrev keys_of_one : Transaction → List (List ℕ)
keys_of_one txn = map op_key txn.ops

pub loop-txn-preserved : goal.loop-txn-preserved
loop-txn-preserved c done numbered =
    let txns : List Transaction = c.args.txns.now in
    let i : ℕ = c.loop-txn.txn-index in
    let so_far : List (List ℕ) = done ++ keys_of (take i txns) in
    subst (AreNumbers c.number_ops.new.keys c.number_ops.new.numbers.items)
    (ap (λ (os : List Op). so_far ++ map op_key os) c.ops.ensures.value
    ∙ (ap (λ (t : Transaction). so_far ++ keys_of_one t) c.txn-item.is
    ∙ sym (more_keys keys_of_one txns i c.txn-item.result done c.loop-txn-test.true)))
    (c.in_ok-number_ops.ensures so_far (c.loop-txn.invariant done numbered))

pub returns : goal.returns
returns c done numbered =
    subst (λ (ts : List Transaction). AreNumbers c.loop-txn.keys c.loop-txn.numbers.items (done ++ keys_of ts))
    (take_all c.loop-txn.txn-index c.args.txns.now c.loop-txn-test.false) (c.loop-txn.invariant done numbered)
