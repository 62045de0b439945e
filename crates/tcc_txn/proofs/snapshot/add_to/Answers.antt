use Rattle.std.proofs.Common.{ap, inl, inr, arith, List, subst, T, ◌∙◌}
use Rattle.std.specs.Global.{Vec}
use Rattle.tcc_txn.specs.Snapshots.{parts_of}
use Rattle.tcc_txn.specs.Transactions.{Transaction}
use Rattle.tcc_txn.proofs.Growing.{err-then, found-here, if-err-then, inserted, is_sorted-seen, missing, ok-always, ok-then, index_in-within, unwritten, written}
use Rattle.tcc_txn.proofs.snapshot.add_to.Goals as goal

abbrev list : Vec Transaction → List Transaction
list v = v.items

pub part_of-requires : goal.part_of-requires
part_of-requires c = rw c.deref.ensures.value (subst T (is_sorted-seen list c.args.parts.now.items) c.requires)

pub returns-in-Ok : goal.returns-in-Ok
returns-in-Ok c =
    let items = c.args.parts.now.items in
    let found = rw c.deref.ensures.value at c.in-Ok.ensures in
    record {
      added =
          ok-then c.push.result (λ grown. written list items c.args.session c.in-Ok.at c.args.txn c.index_mut.result.now c.push.new.txns
          found.0 found.1 c.index_mut.ensures.value grown) c.push.ensures.pushed;
      kept =
          err-then c.push.result (λ same. unwritten list items c.args.session c.in-Ok.at c.index_mut.result.now c.push.new.txns
          c.index_mut.ensures.value same) c.push.ensures.kept;
      few = ok-always c.push.result (λ none. absurd (found-here list items c.args.session c.in-Ok.at found.0 found.1 none));
      refused = if-err-then c.push.result (λ k memory. inl memory) c.push.ensures.refused;
    }

pub returns-then-len-sessions-clause-refused : goal.returns-then-len-sessions-clause-refused
returns-then-len-sessions-clause-refused c =
    let items = c.args.parts.now.items in
    let absent = rw c.deref.ensures.value at c.in-Err.ensures in
    inr (
      omega (arith, c.if-len-sessions.true, c.sessions.ensures, c.len.ensures, c.args.parts.now.ok.0),
      missing list items c.args.session c.in-Err.at absent.0 (subst T (is_sorted-seen list items) c.requires) absent.1,
    )

pub insert-requires : goal.insert-requires
insert-requires c =
    let absent = rw c.deref.ensures.value at c.in-Err.ensures in
    omega (arith, absent.0, index_in-within c.args.session c.args.parts.now.items)

pub returns-else-len-sessions : goal.returns-else-len-sessions
returns-else-len-sessions c =
    let items = c.args.parts.now.items in
    let absent = rw c.deref.ensures.value at c.in-Err.ensures in
    record {
      added =
          ok-then c.insert.result (λ new. new ∙ inserted list items c.args.session c.in-Err.at c.args.txn absent.0
          (subst T (is_sorted-seen list items) c.requires) absent.1) c.insert.ensures.inserted;
      kept = err-then c.insert.result (λ same. ap parts_of same) c.insert.ensures.kept;
      few = ok-always c.insert.result (λ _. omega (arith, c.if-len-sessions.false, c.sessions.ensures, c.len.ensures, c.args.parts.now.ok.0));
      refused = if-err-then c.insert.result (λ k memory. inl memory) c.insert.ensures.refused;
    }
