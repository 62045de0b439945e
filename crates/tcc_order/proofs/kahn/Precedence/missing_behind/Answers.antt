use Rattle.std.proofs.Common.{◌≡◌, ◌<◌, ◌≤◌, ℕ, length, arith, true, false}
use Rattle.std.proofs.lemmas.List.{get_or_default}
use Rattle.std.specs.Prelude.{slice_index}
use Rattle.tcc_graph.specs.Tables.{row_of}
use Rattle.tcc_bits.specs.Bits.{is_marked}
use Rattle.tcc_order.proofs.Fronts.{none_behind, source_holds, link_missing}
use Rattle.tcc_order.proofs.kahn.Precedence.missing_behind.Goals as goal

pub returns-in-Some : goal.returns-in-Some
returns-in-Some c =
    let w = c.in-Some.ensures in (
      source_holds c.args.self.now.graph.now c.args.self.now.kept.now c.args.placed.now c.args.x c.requires.below c.reads_at-reads.result.now c.reads_at-reads.ensures.value
          c.reads_at-reads.ensures.within c.in-Some.index w.0,
      w.1,
    )

pub returns-in_err-index : goal.returns-in_err-index
returns-in_err-index c =
    let h = c.args.self.now.graph.now in
    let kept = c.args.self.now.kept.now in
    let x = c.args.x in
    let row : c.row-row.result.now ≡ row_of kept x = c.row-row.ensures in
    let links : (k : ℕ) → c.saturating_sub.result ≤ k → k < length (row_of kept x) → is_marked c.args.placed.now (slice_index (row_of kept x) k) ≡ true
    = rw row at c.in_err-index.ensures in
    rw c.from_residual.ensures (λ zero b there.
    none_behind h kept c.args.placed.now x c.requires.below c.reads_at-reads.result.now c.reads_at-reads.ensures.value
    (λ k l. c.in_default.ensures k (omega (arith, zero)) l) (λ k l. links k (omega (arith, zero, c.saturating_sub.ensures)) l) b there)

pub returns : goal.returns
returns c =
    let kept = c.args.self.now.kept.now in
    let x = c.args.x in
    let row : c.row-row.result.now ≡ row_of kept x = c.row-row.ensures in
    let w : (c.in_ok-index.index < length (row_of kept x)) × (is_marked c.args.placed.now (slice_index (row_of kept x) c.in_ok-index.index) ≡ false)
    = rw row at c.in_ok-index.ensures in
    rw row (
      link_missing c.args.self.now.graph.now kept x c.requires.below c.requires.known.inside (slice_index (row_of kept x) c.in_ok-index.index)
          (c.in_ok-index.index, w.0, get_or_default (row_of kept x) c.in_ok-index.index (slice_index (row_of kept x) c.in_ok-index.index) 0 w.0),
      w.1,
    )
