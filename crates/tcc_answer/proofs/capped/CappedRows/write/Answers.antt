-- Row after row is given, capped.
use Rattle.std.proofs.Common.{◌≤◌, ◌∙◌, All, ap, arith, length, map, refl, subst, sym, take}
use Rattle.std.proofs.lemmas.List.{length-map, take_all}
use Rattle.tcc_txn.specs.declared.limits.TheConstants.{MAX_COUNT}
use Rattle.tcc_bits.specs.Packed.{at_most}
use Rattle.tcc_cert.specs.Begun.{with_rows}
use Rattle.tcc_cert.specs.Given.{HasTaken}
use Rattle.tcc_base.proofs.Failing.{on_err}
use Rattle.tcc_cert.proofs.GivenTexts.{may_take, part_row}
use Rattle.tcc_cert.proofs.GivenFacts.{none_given, rows_given}
use Rattle.tcc_answer.proofs.CappedFacts.{capped_next}
use Rattle.tcc_answer.proofs.capped.CappedRows.write.Goals as goal

pub loop-row-init : goal.loop-row-init
loop-row-init g c = (refl, refl, λ before count k h may. none_given g.W.Write.contents before count c.args.table k _ h)

pub give-requires : goal.give-requires
give-requires g c =
    let few : All (λ row. length row ≤ MAX_COUNT) c.deref-row-items.result.now = rw c.deref-row-items.ensures.value c.self.invariant in
    omega (arith, few c.loop-row.row-index c.row-item.result c.loop-row-test.true, ap length (sym c.row-item.is), c.loop-row.invariant.1)

pub returns-in_err-give-clause-part : goal.returns-in_err-give-clause-part
returns-in_err-give-clause-part g c =
    let cap = c.self.inside.cap in
    let rows = c.deref-row-items.result.now in
    let table = map (map (at_most cap)) rows in
    let i = c.loop-row.row-index in
    let t = c.args.table in
    let next = capped_next cap rows i c.row-item.result c.loop-row-test.true c.row-item.is in
    λ before count k h may. rw (← c.self.view_is, ← c.deref-row-items.ensures.value) (on_err c.from_residual.result
    (part_row before (g.W.Write.contents c.give.new.writer.out.now) count t k may table i (map (at_most cap) c.row-item.result) next
    (c.in_err-give.ensures.part before count (with_rows t k (take i table)) (c.loop-row.invariant.2 before count k h may) (may_take t k (take i table) may))))

pub loop-row-preserved : goal.loop-row-preserved
loop-row-preserved g c =
    let cap = c.self.inside.cap in
    let rows = c.deref-row-items.result.now in
    let table = map (map (at_most cap)) rows in
    let i = c.loop-row.row-index in
    let t = c.args.table in
    let next = capped_next cap rows i c.row-item.result c.loop-row-test.true c.row-item.is in (
      c.give.ensures.same_reference ∙ c.loop-row.invariant.0,
      c.give.ensures.long ∙ c.loop-row.invariant.1,
      λ before count k h may. rows_given g.W.Write.contents before count t k table i (map (at_most cap) c.row-item.result) c.give.new.writer next
          (c.in_ok-give.ensures.whole before count (with_rows t k (take i table)) (c.loop-row.invariant.2 before count k h may)
          (may_take t k (take i table) may)),
    )

pub returns-clause-whole : goal.returns-clause-whole
returns-clause-whole g c =
    let f = map (map (at_most c.self.inside.cap)) in
    let rows = c.deref-row-items.result.now in
    λ before count k h may. subst (λ all. HasTaken g.W.Write.contents before count (with_rows c.args.table k all) c.loop-row.writer)
    (take_all c.loop-row.row-index (f rows) (omega (arith, c.loop-row-test.false, length-map rows (map (at_most c.self.inside.cap))))
    ∙ (ap f c.deref-row-items.ensures.value ∙ c.self.view_is))
    (c.loop-row.invariant.2 before count k h may)
