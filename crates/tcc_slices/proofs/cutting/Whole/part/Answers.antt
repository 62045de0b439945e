use Rattle.std.specs.Prelude.{None}
use Rattle.std.proofs.Common.{◌≡◌, List, sym, ap, ◌∙◌}
use Rattle.tcc_txn.specs.Transactions.{txn_fault}
use Rattle.tcc_txn.specs.declared.op.Op.{Op}
use Rattle.tcc_slices.specs.private.Cutting.{is_wanted}
use Rattle.tcc_slices.proofs.Lawful.{lawful_kept}
use Rattle.tcc_slices.proofs.Named.{none_some}
use Rattle.tcc_slices.proofs.cutting.Whole.part.Goals as goal

pub unreachable-requires : goal.unreachable-requires
unreachable-requires g c =
    let ops : List Op = c.deref-2.result.now in
    let same : c.deref-2.result.now ≡ c.in-Some.whole.ops = c.deref-2.ensures.value ∙ c.in_ok-fill.ensures.value in
    let lawful : txn_fault ops ≡ None = ap txn_fault same ∙ c.fill.ensures.lawful in
    none_some (sym (ap txn_fault c.in_ok-kept.ensures ∙ lawful_kept (is_wanted c.deref.result.now) ops lawful) ∙ c.in-Err.ensures.0)
