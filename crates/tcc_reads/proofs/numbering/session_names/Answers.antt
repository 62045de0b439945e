use Rattle.std.proofs.Common.{◌++◌, List, ℕ, map, ap, sym, ◌∙◌, arith, append-nil}
use Rattle.std.specs.FinMap.{entries, len-entries}
use Rattle.std.proofs.lemmas.List.{drop_all}
use Rattle.tcc_txn.specs.Transactions.{Transaction}
use Rattle.tcc_reads.proofs.numbering.session_names.Goals as goal

pub name_at-requires : goal.name_at-requires
name_at-requires g c = omega (arith, len-entries c.args.snapshot.now, c.sessions-session-end.ensures.value, c.loop-session-test.true)

pub returns : goal.returns
returns g c =
    let past = drop_all c.loop-session.session (entries c.args.snapshot.now)
    (omega (arith, len-entries c.args.snapshot.now, c.sessions-session-end.ensures.value, c.loop-session-test.false)) in
    sym (append-nil c.loop-session.names.items)
    ∙ ap (λ (es : List (List ℕ × List Transaction)). c.loop-session.names.items ++ map (λ named. named.0) es) (sym past)
    ∙ c.loop-session.invariant
