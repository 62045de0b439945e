use Rattle.tcc_txn.proofs.NumberedKeys.{one_numbered}
use Rattle.tcc_txn.proofs.key_numbers.number_key.Goals as goal

pub returns : goal.returns
returns c done numbered =
    rw c.in_ok-push.ensures.items
    (one_numbered c.args.keys.now c.number.new.self c.args.key c.in_ok-number.number c.args.numbers.now.items done c.in_ok-number.ensures.once c.in_ok-number.ensures.number numbered)
