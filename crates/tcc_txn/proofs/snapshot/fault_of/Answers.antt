use Rattle.std.proofs.Common.{ℕ, List, ap, sym, ◌∙◌, arith, length, nat_lt, sum_by}
use Rattle.std.specs.Global.{Vec}
use Rattle.tcc_txn.specs.Transactions.{Transaction}
use Rattle.tcc_txn.proofs.SnapshotFaults.{fault_by_within, snapshot_fault-parts_of, sessions_fault, transactions_fault, faultless_within}
use Rattle.tcc_txn.proofs.snapshot.fault_of.Goals as goal

abbrev transactions_of : List (List ℕ × Vec Transaction) → ℕ
transactions_of parts = sum_by (λ part. length part.1.items) parts

pub returns-in-Some : goal.returns-in-Some
returns-in-Some c =
    let parts = c.args.parts.now in
    sym (snapshot_fault-parts_of c.args.limits parts
    ∙ ap (λ repeated. fault_by_within c.args.limits repeated (length parts) (transactions_of parts)) (sym c.first_repeated.ensures ∙ c.in-Some.is))

pub returns-then-parts-sessions : goal.returns-then-parts-sessions
returns-then-parts-sessions c =
    let parts = c.args.parts.now in
    sym (snapshot_fault-parts_of c.args.limits parts
    ∙ ap (λ repeated. fault_by_within c.args.limits repeated (length parts) (transactions_of parts)) (sym c.first_repeated.ensures ∙ c.in_default.is)
    ∙ sessions_fault c.args.limits (length parts) (transactions_of parts) (omega (arith, c.if-parts-sessions.true, c.sessions.ensures)))

pub returns-then-has_too_many_transactions : goal.returns-then-has_too_many_transactions
returns-then-has_too_many_transactions c =
    let parts = c.args.parts.now in
    sym (snapshot_fault-parts_of c.args.limits parts
    ∙ ap (λ repeated. fault_by_within c.args.limits repeated (length parts) (transactions_of parts)) (sym c.first_repeated.ensures ∙ c.in_default.is)
    ∙ transactions_fault c.args.limits (length parts) (transactions_of parts) (omega (arith, c.if-parts-sessions.false, c.sessions.ensures))
    (ap (λ most. nat_lt most (transactions_of parts)) (sym c.transactions.ensures) ∙ sym c.has_too_many_transactions.ensures ∙ c.if-has_too_many_transactions.true))

pub returns : goal.returns
returns c =
    let parts = c.args.parts.now in
    sym (snapshot_fault-parts_of c.args.limits parts
    ∙ ap (λ repeated. fault_by_within c.args.limits repeated (length parts) (transactions_of parts)) (sym c.first_repeated.ensures ∙ c.in_default.is)
    ∙ faultless_within c.args.limits (length parts) (transactions_of parts) (omega (arith, c.if-parts-sessions.false, c.sessions.ensures))
    (ap (λ most. nat_lt most (transactions_of parts)) (sym c.transactions.ensures) ∙ sym c.has_too_many_transactions.ensures ∙ c.if-has_too_many_transactions.false))
