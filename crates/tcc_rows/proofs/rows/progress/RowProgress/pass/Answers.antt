use Rattle.std.proofs.Common.{Some, ap, refl}
use Rattle.tcc_rows.specs.declared.rows.Item.TheVariants as item
use Rattle.tcc_rows.proofs.rows.progress.RowProgress.pass.Goals as goal

pub returns-in-Ok-clause-passed : goal.returns-in-Ok-clause-passed
returns-in-Ok-clause-passed c limits past is = rw c.in-Seal.is (let passed = c.in-Ok.ensures.passed limits past is in (passed.0, refl, passed.1))

pub returns-in-Ok-begin-clause-passed : goal.returns-in-Ok-begin-clause-passed
returns-in-Ok-begin-clause-passed c limits past is =
    rw c.in-Begin.is (let passed = c.in-Ok-begin.ensures.passed limits past is in (passed.0, refl, passed.1))

pub returns-in-Ok-finish-clause-passed : goal.returns-in-Ok-finish-clause-passed
returns-in-Ok-finish-clause-passed c limits past is =
    let passed = c.in-Ok-finish.ensures.passed limits past is in
    let finished = ap (λ txn. Some (item.Finished c.in-Finish.session txn)) (c.in-Ok-finish.ensures.finished limits past is) in
    rw c.in-Finish.is (passed.0, finished, passed.1)

pub returns-in-Err-finish-clause-passed : goal.returns-in-Err-finish-clause-passed
returns-in-Err-finish-clause-passed c limits past is = rw c.in-Finish.is (c.in-Err-finish.ensures.passed limits past is)

pub returns-in-Ok-leave-clause-passed : goal.returns-in-Ok-leave-clause-passed
returns-in-Ok-leave-clause-passed c limits past is =
    let passed = c.in-Ok-leave.ensures.passed limits past is in
    let finished = ap (λ txn. Some (item.Unknown c.in-Unknown.session txn)) (c.in-Ok-leave.ensures.finished limits past is) in
    rw c.in-Unknown.is (passed.0, finished, passed.1)

pub returns-in-Err-leave-clause-passed : goal.returns-in-Err-leave-clause-passed
returns-in-Err-leave-clause-passed c limits past is = rw c.in-Unknown.is (c.in-Err-leave.ensures.passed limits past is)
