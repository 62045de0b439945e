-- The lines before the rows are written, then the rows, and the end.
use Rattle.std.proofs.Common.{rules, ◌≡◌, [], refl, length}
use Rattle.tcc_base.proofs.Failing.{on_err}
use Rattle.tcc_cert.specs.declared.cycle_writer.CycleTable.TheVariants as table
use Rattle.tcc_cert.proofs.GivenTexts.{part_begun, part_given, part_more}
use Rattle.tcc_cert.proofs.cycle_writer.write_cycle.Goals as goal

pub returns-in_err-begun-clause-part : goal.returns-in_err-begun-clause-part
returns-in_err-begun-clause-part g c =
    on_err c.from_residual.result (part_begun _ _ c.args.claim.now (rw c.as_slice-count.ensures at c.in_err-begun.ensures.part))

pub returns-in_err-table-clause-part : goal.returns-in_err-table-clause-part
returns-in_err-table-clause-part g c =
    let before = g.W.Write.contents c.args.out.now in
    let k = c.args.claim.now in
    let count = length k.near in
    let same : c.table.new.self.out.now ≡ c.out-1.given.0 = search rules in
    let begun = c.behind-writer.ensures.begun before count k (rw c.as_slice-count.ensures at c.in_ok-begun.ensures.whole) in
    let part = c.in_err-table.ensures.part before count (record k { near = []; far = [] }) begun refl in
    on_err c.from_residual-in_err-table.result
    (rw (← same) (part_given _ _ k (part_more _ _ count table.Far (record k { far = [] }) tt k.far part)))

pub returns-in_err-table-2-clause-part : goal.returns-in_err-table-2-clause-part
returns-in_err-table-2-clause-part g c =
    let before = g.W.Write.contents c.args.out.now in
    let k = c.args.claim.now in
    let count = length k.near in
    let same : c.table-2.new.self.out.now ≡ c.out-in_err-table-2-1.given.0 = search rules in
    let begun = c.behind-writer.ensures.begun before count k (rw c.as_slice-count.ensures at c.in_ok-begun.ensures.whole) in
    let near = c.in_ok-table.ensures.whole before count (record k { near = []; far = [] }) begun refl in
    on_err c.from_residual-in_err-table-2.result
    (rw (← same) (part_given _ _ k (c.in_err-table-2.ensures.part before count (record k { far = [] }) near tt)))

pub returns : goal.returns
returns g c =
    let before = g.W.Write.contents c.args.out.now in
    let k = c.args.claim.now in
    let count = length k.near in
    let same : c.end.new.self.0 ≡ c.out-2-1.given.0 = search rules in
    let begun = c.behind-writer.ensures.begun before count k (rw c.as_slice-count.ensures at c.in_ok-begun.ensures.whole) in
    let near = c.in_ok-table.ensures.whole before count (record k { near = []; far = [] }) begun refl in
    let far = c.in_ok-table-2.ensures.whole before count (record k { far = [] }) near tt in
    record { whole = rw (← same) (c.end.ensures.whole before k far); part = rw (← same) (c.end.ensures.part before k far) }
