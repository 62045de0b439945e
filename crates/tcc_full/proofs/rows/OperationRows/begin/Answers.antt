use Rattle.std.proofs.Common.{◌≡◌, [], ◌∷◌, ◌++◌, None, rules, sym}
use Rattle.std.specs.BTreeMap.{get}
use Rattle.std.specs.Cmp.Lexicographic.{slice_cmp}
use Rattle.std.specs.Ordering.{nat_cmp}
use Rattle.tcc_full.specs.Rows.{Rows}
use Rattle.tcc_full.proofs.Noting.{changed, on_ok}
use Rattle.tcc_full.proofs.rows.OperationRows.begin.Goals as goal

pub returns-in-Some : goal.returns-in-Some
returns-in-Some c =
    let held = c.get_mut.follows.holds c.add_transaction.new.transactions in
    let there = sym c.in-Some.ensures.value in
    on_ok c.add_transaction.result
    (λ more. changed c.args.self.now.sessions (c.get_mut.follows.lender c.add_transaction.new.transactions) c.args.session (λ (transactions : Rows). transactions ++ [] ∷ [])
    c.add_transaction.new.transactions (rw there more) (held.3 (rw there (search rules)))) c.add_transaction.ensures

pub returns-in-Ok : goal.returns-in-Ok
returns-in-Ok c =
    let same = c.get_mut.follows.holds-at-none in
    let there : get (slice_cmp nat_cmp) c.args.self.now.sessions c.args.session ≡ None = sym c.in-None.ensures.value in
    changed c.args.self.now.sessions c.insert.new.self c.args.session (λ (transactions : Rows). transactions ++ [] ∷ []) c.add_transaction-2.new.transactions
    (rw there (rw c.new-transactions.ensures.items at c.in_ok-add_transaction.ensures)) (rw same at c.in-Ok.ensures.updates)
