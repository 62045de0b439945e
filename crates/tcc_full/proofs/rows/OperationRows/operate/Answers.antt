use Rattle.std.proofs.Common.{rules, sym}
use Rattle.tcc_full.specs.Rows.{add_last}
use Rattle.tcc_full.proofs.Noting.{changed, on_ok}
use Rattle.tcc_full.proofs.rows.OperationRows.operate.Goals as goal

pub returns-in-Some : goal.returns-in-Some
returns-in-Some c =
    let held = c.get_mut.follows.holds c.add_last.new.transactions in
    let there = sym c.in-Some.ensures.value in
    on_ok c.add_last.result
    (λ more. changed c.args.self.now.sessions (c.get_mut.follows.lender c.add_last.new.transactions) c.args.session.now (add_last c.args.one)
    c.add_last.new.transactions (rw there more) (held.3 (rw there (search rules)))) c.add_last.ensures
