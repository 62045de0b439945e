use Rattle.std.proofs.Common.{rules, sym}
use Rattle.tcc_full.specs.Rows.{keep_writes}
use Rattle.tcc_full.proofs.Noting.{changed}
use Rattle.tcc_full.proofs.rows.OperationRows.leave.Goals as goal

pub returns-in-Some : goal.returns-in-Some
returns-in-Some c =
    let held = c.get_mut.follows.holds c.keep_writes.new.transactions in
    let there = sym c.in-Some.ensures.value in
    changed c.args.self.now.sessions (c.get_mut.follows.lender c.keep_writes.new.transactions) c.args.session.now keep_writes
    c.keep_writes.new.transactions (rw there c.keep_writes.ensures) (held.3 (rw there (search rules)))
