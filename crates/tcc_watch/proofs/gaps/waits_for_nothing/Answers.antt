use Rattle.std.proofs.Common.{◌≡◌, List, true, rules, sym, subst, ◌∙◌}
use Rattle.tcc_txn.specs.declared.op.Op.{Op}
use Rattle.tcc_watch.specs.private.Gaps.{HasGap}
use Rattle.tcc_watch.proofs.GapLemmas.{first_and_rest}
use Rattle.tcc_watch.proofs.gaps.waits_for_nothing.Goals as goal

pub returns : goal.returns
returns c is =
    let ended : c.in-Some.txn.now.committed ≡ true = sym c.committed.ensures ∙ c.if-not-committed.false in
    let items = c.args.line.now.waiting.items in
    let w = first_and_rest items c.in-Some.txn.now (search rules) c.in-Some.ensures.lookup in (
      c.in-Some.txn.now,
      w.0,
      w.1,
      ended,
      subst (λ (z : List Op). HasGap c.args.lines.now c.args.values.now z) c.ops.ensures.value (c.has_gap.ensures is),
    )
