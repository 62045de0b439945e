-- Row after row is given.
use Rattle.std.proofs.Common.{◌∙◌, refl, subst, take}
use Rattle.std.proofs.lemmas.List.{take_all}
use Rattle.tcc_cert.specs.Begun.{with_rows}
use Rattle.tcc_cert.specs.Given.{HasTaken}
use Rattle.tcc_base.proofs.Failing.{on_err}
use Rattle.tcc_cert.proofs.GivenTexts.{IsGivenPart, may_take, part_row, rows_next}
use Rattle.tcc_cert.proofs.GivenFacts.{none_given, rows_given}
use Rattle.tcc_cert.proofs.cycle_writer.CycleWriter.table.Goals as goal

pub loop-row-init : goal.loop-row-init
loop-row-init g c = (refl, λ before count k h may. none_given g.W.Write.contents before count c.args.table k _ h)

pub returns-in_err-row-clause-part : goal.returns-in_err-row-clause-part
returns-in_err-row-clause-part g c =
    let rows = c.as_slice-row-items.result.now in
    let i = c.loop-row.row-index in
    let t = c.args.table in
    let next = rows_next rows i c.row-item.result c.as_slice.result.now c.as_slice.ensures c.loop-row-test.true c.row-item.is in
    let after = g.W.Write.contents c.row.new.self.out.now in
    λ before count k h may. on_err c.from_residual.result
    (subst (λ all. IsGivenPart before after count (with_rows t k all)) c.as_slice-row-items.ensures
    (part_row before after count t k may rows i c.as_slice.result.now next
    (c.in_err-row.ensures.part before count (with_rows t k (take i rows)) (c.loop-row.invariant.1 before count k h may) (may_take t k (take i rows) may))))

pub loop-row-preserved : goal.loop-row-preserved
loop-row-preserved g c =
    let rows = c.as_slice-row-items.result.now in
    let i = c.loop-row.row-index in
    let t = c.args.table in
    let next = rows_next rows i c.row-item.result c.as_slice.result.now c.as_slice.ensures c.loop-row-test.true c.row-item.is in (
      c.row.ensures.same_reference ∙ c.loop-row.invariant.0,
      λ before count k h may. rows_given g.W.Write.contents before count t k rows i c.as_slice.result.now c.row.new.self next
          (c.in_ok-row.ensures.whole before count (with_rows t k (take i rows)) (c.loop-row.invariant.1 before count k h may)
          (may_take t k (take i rows) may)),
    )

pub returns-clause-whole : goal.returns-clause-whole
returns-clause-whole g c =
    λ before count k h may. subst (λ rows. HasTaken g.W.Write.contents before count (with_rows c.args.table k rows) c.loop-row.self)
    (take_all c.loop-row.row-index c.as_slice-row-items.result.now c.loop-row-test.false ∙ c.as_slice-row-items.ensures) (c.loop-row.invariant.1 before count k h may)
