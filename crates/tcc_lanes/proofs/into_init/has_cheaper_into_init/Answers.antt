use Rattle.std.proofs.Common.{rules, refl, ◌+◌, ◌*◌, ◌∙◌, sym, arith}
use Rattle.std.proofs.lemmas.Bool.{false≢true}
use Rattle.tcc_reads.specs.History.{count}
use Rattle.tcc_graph.specs.Levels.{judged}
use Rattle.tcc_lanes.specs.declared.words.TheConstants.{LANES}
use Rattle.tcc_lanes.proofs.IntoInit.{in_tile, none_more, none_left}
use Rattle.tcc_lanes.proofs.into_init.has_cheaper_into_init.Goals as goal

pub returns-then-branch : goal.returns-then-branch
returns-then-branch c = (
  (λ _. in_tile (judged c.args.graph.now c.args.level) c.args.most c.saturating_sub-longest.result c.args.key_indices.now
      (omega (arith, c.saturating_sub-longest.ensures)) (count c.args.graph.now) (c.loop-block.block * LANES) ((c.loop-block.block + 1) * LANES) c.tile_at-tile.result.now
      c.tile_at-tile.ensures.tiled ((rw c.count.ensures.value at c.in_ok-has_into_init.ensures).0 c.if-branch.true)),
  (λ _. search rules),
)

pub loop-block-preserved : goal.loop-block-preserved
loop-block-preserved c =
    none_more (judged c.args.graph.now c.args.level) c.args.most c.saturating_sub-longest.result c.args.key_indices.now
    (omega (arith, c.saturating_sub-longest.ensures)) (count c.args.graph.now) (c.loop-block.block * LANES) ((c.loop-block.block + 1) * LANES) c.tile_at-tile.result.now
    c.tile_at-tile.ensures.tiled (λ has. false≢true (sym c.if-branch.false ∙ (rw c.count.ensures.value at c.in_ok-has_into_init.ensures).1 has)) c.loop-block.invariant

pub returns : goal.returns
returns c = (
  (λ e. absurd (false≢true e)),
  (λ has. absurd (none_left (judged c.args.graph.now c.args.level) c.args.most c.saturating_sub-longest.result c.args.key_indices.now
      (omega (arith, c.saturating_sub-longest.ensures)) (count c.args.graph.now) (c.loop-block.block * LANES) refl
      (omega (arith, c.div_ceil-block-end.ensures, c.loop-block-test.false, c.loop-block.auto.block-end)) c.loop-block.invariant has)),
)
