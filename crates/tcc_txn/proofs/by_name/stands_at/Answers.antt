use Rattle.std.proofs.Common.{sym, ◌∙◌}
use Rattle.tcc_txn.proofs.Growing.{stands-here, stands-not-here}
use Rattle.tcc_txn.proofs.by_name.stands_at.Goals as goal

pub returns-in-Some-clause-stands : goal.returns-in-Some-clause-stands
returns-in-Some-clause-stands g c same =
    let found = c.in-Some.ensures.lookup in
    stands-here c.args.parts.now c.args.at c.in-Some.part.now c.args.session.now found.3.0 found.1 (sym c.eq.ensures ∙ same)

pub returns-in-Some-clause-not : goal.returns-in-Some-clause-not
returns-in-Some-clause-not g c other =
    let found = c.in-Some.ensures.lookup in
    stands-not-here c.args.parts.now c.args.at c.in-Some.part.now c.args.session.now found.3.0 found.1 (sym c.eq.ensures ∙ other)
