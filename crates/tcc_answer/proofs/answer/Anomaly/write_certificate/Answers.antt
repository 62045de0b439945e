-- The lines before the rows are written, then the rows, and the end.
use Rattle.std.proofs.Common.{rules, ◌≡◌, [], refl, length, ℕ, List}
use Rattle.tcc_graph.specs.Links.{cost}
use Rattle.tcc_graph.specs.declared.level.Level.{Level}
use Rattle.tcc_graph.specs.declared.link.Link.{Link}
use Rattle.tcc_cert.specs.declared.certificate.CycleClaim.{CycleClaim}
use Rattle.tcc_cert.specs.declared.version.Version.TheVariants.{Two}
use Rattle.tcc_cert.specs.declared.cycle_writer.CycleTable.TheVariants as table
use Rattle.tcc_base.proofs.Failing.{on_err}
use Rattle.tcc_cert.proofs.GivenTexts.{part_begun, part_given, part_more}
use Rattle.tcc_answer.proofs.answer.Anomaly.write_certificate.Goals as goal

-- the claim of an anomaly
abbrev claimed : Level → List Link → List (List ℕ) → List (List ℕ) → CycleClaim
claimed level links near far = record { version = Two; level = level; links = links; least = cost links; near = near; far = far }

pub returns-in_err-begun-clause-part : goal.returns-in_err-begun-clause-part
returns-in_err-begun-clause-part g c =
    let k = claimed c.self.inside.level c.self.inside.links c.self.inside.distances.near c.self.inside.distances.far in
    rw (← c.self.view_is) (on_err c.from_residual.result (part_begun _ _ k (rw (c.len-count.ensures, c.self.invariant) at c.in_err-begun.ensures.part)))

pub returns-in_err-write-clause-part : goal.returns-in_err-write-clause-part
returns-in_err-write-clause-part g c =
    let before = g.W.Write.contents c.args.out.now in
    let count = length c.self.inside.distances.near in
    let k = claimed c.self.inside.level c.self.inside.links c.self.inside.distances.near c.self.inside.distances.far in
    let same : c.write.new.writer.out.now ≡ c.out-1.given.0 = search rules in
    let begun = c.behind-writer.ensures.begun before count k (rw (c.len-count.ensures, c.self.invariant) at c.in_ok-begun.ensures.whole) in
    let part = c.in_err-write.ensures.part before count (record k { near = []; far = [] }) begun refl in
    rw (← c.self.view_is) (on_err c.from_residual-in_err-write.result
    (rw (← same) (part_given _ _ k (part_more _ _ count table.Far (record k { far = [] }) tt c.self.inside.distances.far part))))

pub returns-in_err-write-2-clause-part : goal.returns-in_err-write-2-clause-part
returns-in_err-write-2-clause-part g c =
    let before = g.W.Write.contents c.args.out.now in
    let count = length c.self.inside.distances.near in
    let k = claimed c.self.inside.level c.self.inside.links c.self.inside.distances.near c.self.inside.distances.far in
    let same : c.write-2.new.writer.out.now ≡ c.out-in_err-write-2-1.given.0 = search rules in
    let begun = c.behind-writer.ensures.begun before count k (rw (c.len-count.ensures, c.self.invariant) at c.in_ok-begun.ensures.whole) in
    let near = c.in_ok-write.ensures.whole before count (record k { near = []; far = [] }) begun refl in
    rw (← c.self.view_is) (on_err c.from_residual-in_err-write-2.result
    (rw (← same) (part_given _ _ k (c.in_err-write-2.ensures.part before count (record k { far = [] }) near tt))))

pub returns : goal.returns
returns g c =
    let before = g.W.Write.contents c.args.out.now in
    let count = length c.self.inside.distances.near in
    let k = claimed c.self.inside.level c.self.inside.links c.self.inside.distances.near c.self.inside.distances.far in
    let same : c.end.new.self.0 ≡ c.out-2-1.given.0 = search rules in
    let begun = c.behind-writer.ensures.begun before count k (rw (c.len-count.ensures, c.self.invariant) at c.in_ok-begun.ensures.whole) in
    let near = c.in_ok-write.ensures.whole before count (record k { near = []; far = [] }) begun refl in
    let far = c.in_ok-write-2.ensures.whole before count (record k { far = [] }) near tt in
    record { whole = rw (← c.self.view_is, ← same) (c.end.ensures.whole before k far); part = rw (← c.self.view_is, ← same) (c.end.ensures.part before k far) }
