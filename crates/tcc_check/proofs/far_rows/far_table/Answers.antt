-- What was found in all rows gives the first broken rule.
use Rattle.std.proofs.Common.{◌≡◌, ℕ, [], arith, subst, sym, ◌∙◌}
use Rattle.std.proofs.lemmas.List.{get_or_read}
use Rattle.tcc_reads.specs.History.{count}
use Rattle.tcc_check.specs.private.Coming.{AreFoundBefore}
use Rattle.tcc_check.proofs.Rules.{far-answer}
use Rattle.tcc_check.proofs.far_rows.far_table.Goals as goal

pub returns : goal.returns
returns c table of =
    let h = c.args.graph.now in
    let whole : c.loop-start.start ≡ count h = omega (arith, c.count-start-end.ensures.value) in
    rw c.far_verdict.ensures (far-answer h c.args.version c.args.least table c.args.far.now c.loop-start.faults
    (subst (λ (i : ℕ). AreFoundBefore h c.args.version c.args.least table c.args.far.now i c.loop-start.faults) whole (c.loop-start.invariant table of)))

pub loop-start-preserved : goal.loop-start-preserved
loop-start-preserved c table of =
    let here =
    c.as_slice-row.ensures ∙ get_or_read c.args.far.now c.loop-start.start c.index-far-start.result
    (omega (arith, c.requires.size.long, c.loop-start-test.true, c.count-start-end.ensures.value)) c.index-far-start.is [] in
    c.with_row-faults.ensures table c.args.far.now of (sym here) (c.loop-start.invariant table of)
