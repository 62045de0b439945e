use Rattle.std.proofs.Common.{◌≡◌, ℕ, ◌++◌, ◌∷◌, [], List, map, take, ap, subst, sym, ◌∙◌}
use Rattle.std.proofs.lemmas.List.{take_all}
use Rattle.tcc_txn.specs.KeyNumbers.{AreNumbers}
use Rattle.tcc_txn.specs.Transactions.{op_key}
use Rattle.tcc_txn.specs.declared.op.Op.{Op}
use Rattle.tcc_txn.proofs.NumberedKeys.{more_mapped}
use Rattle.tcc_txn.proofs.key_numbers.number_ops.Goals as goal

pub loop-op-preserved : goal.loop-op-preserved
loop-op-preserved c done numbered =
    let ops : List Op = c.args.ops.now in
    let i : ℕ = c.loop-op.op-index in
    let so_far : List (List ℕ) = done ++ map op_key (take i ops) in
    let key : c.key.result ≡ op_key c.op-item.result = c.key.ensures in
    subst (AreNumbers c.number_key.new.keys c.number_key.new.numbers.items)
    (ap (λ (x : List ℕ). so_far ++ x ∷ []) (key ∙ ap op_key c.op-item.is) ∙ more_mapped op_key ops i c.op-item.result done c.loop-op-test.true)
    (c.in_ok-number_key.ensures so_far (c.loop-op.invariant done numbered))

pub returns : goal.returns
returns c done numbered =
    subst (λ (os : List Op). AreNumbers c.loop-op.keys c.loop-op.numbers.items (done ++ map op_key os))
    (take_all c.loop-op.op-index c.args.ops.now c.loop-op-test.false) (c.loop-op.invariant done numbered)
