use Rattle.std.proofs.Common.{ℕ, ◌++◌, ◌∷◌, List, [], cond, sym, ◌∙◌}
use Rattle.tcc_txn.specs.declared.op.Op.{Op}
use Rattle.tcc_slices.specs.private.Cutting.{is_wanted}
use Rattle.tcc_slices.proofs.Keeping.{kept_more}
use Rattle.tcc_slices.proofs.cutting.kept.Goals as goal

pub loop-index-preserved : goal.loop-index-preserved
loop-index-preserved c =
    let ops : List Op = c.args.ops.now in
    let i : ℕ = c.loop-index.index in
    let op : Op = c.index-ops-index.result in
    c.in_ok-keep_if.ensures ∙ (λ j. c.loop-index.invariant j ++ cond (c.is_wanted.ensures j) (op ∷ []) [])
    ∙ sym (kept_more (is_wanted c.args.wanted.now) ops i op c.loop-index-test.true c.index-ops-index.is)
