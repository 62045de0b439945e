use Rattle.std.proofs.Common.{◌<◌, ◌+◌, ◌∙◌, ℕ, length, slice_index, subst, arith}
use Rattle.std.proofs.lemmas.List.{length-set}
use Rattle.tcc_graph.specs.Keys.{keys}
use Rattle.tcc_graph.specs.Levels.{Judged, judged}
use Rattle.tcc_clocks.specs.declared.latest.TheConstants.{WIDE}
use Rattle.tcc_survey.specs.declared.external_reads.Reading.{Reading}
use Rattle.tcc_survey.specs.private.Settled.{IsLeastBefore, reading_of}
use Rattle.tcc_survey.proofs.FindLemmas.{cells_before, cells_rest, one_more}
use Rattle.tcc_survey.proofs.scanning.ReadSweep.settle_each.Goals as goal

pub least_up_to-requires-clause-writers : goal.least_up_to-requires-clause-writers
least_up_to-requires-clause-writers c =
    let k : ℕ = (reading_of c.args.reads.now c.loop-index.index).key_index in
    let low : k < length (keys c.args.self.now.block.graph.now) = (c.requires.reads c.loop-index.index c.loop-index-test.true).key in
    rw (c.between-writers.ensures, c.writers_at-among.ensures) (c.requires.spans.each k low)

pub loop-index-preserved-then-is_settled : goal.loop-index-preserved-then-is_settled
loop-index-preserved-then-is_settled c =
    let j : Judged = judged c.args.self.now.block.graph.now c.args.self.now.level in
    let all = c.args.reads.now in
    let from = c.args.self.now.block.from in
    let found = c.loop-index.found in
    let inv = c.loop-index.invariant in (
      inv.0,
      one_more (λ k. IsLeastBefore j (from + WIDE) (reading_of all k) (slice_index found k)) c.loop-index.index inv.1
          (c.is_settled.ensures.yes c.if-is_settled.true),
      (λ k above below. inv.2 k (omega (arith, above)) below),
    )

pub least_up_to-requires-clause-known : goal.least_up_to-requires-clause-known
least_up_to-requires-clause-known c =
    let j : Judged = judged c.args.self.now.block.graph.now c.args.self.now.level in
    let r : Reading = reading_of c.args.reads.now c.loop-index.index in
    let low : c.loop-index.index < length c.args.reads.now = c.loop-index-test.true in
    subst (λ (z : ℕ). IsLeastBefore j c.args.self.now.block.from r z) (c.is_settled.ensures.no c.if-is_settled.false)
    (c.loop-index.invariant.2 c.loop-index.index (omega arith) low)

pub loop-index-preserved : goal.loop-index-preserved
loop-index-preserved c =
    let j : Judged = judged c.args.self.now.block.graph.now c.args.self.now.level in
    let all = c.args.reads.now in
    let from = c.args.self.now.block.from in
    let found = c.loop-index.found in
    let i = c.loop-index.index in
    let v = c.least_up_to.result in
    let inv = c.loop-index.invariant in (
      length-set found i v ∙ inv.0,
      cells_before 0 (λ k b. IsLeastBefore j (from + WIDE) (reading_of all k) b) (λ k b. IsLeastBefore j from (reading_of all k) b) found (length all) i v inv.0
          c.loop-index-test.true inv.1 inv.2 c.least_up_to.ensures,
      cells_rest 0 (λ k b. IsLeastBefore j (from + WIDE) (reading_of all k) b) (λ k b. IsLeastBefore j from (reading_of all k) b) found (length all) i v inv.0
          c.loop-index-test.true inv.1 inv.2 c.least_up_to.ensures,
    )
