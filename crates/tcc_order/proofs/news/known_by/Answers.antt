use Rattle.std.proofs.Common.{◌≡◌, ◌∙◌, ℕ, ap, replicate, slice_index, arith}
use Rattle.std.specs.Prelude.{max}
use Rattle.std.proofs.lemmas.List.{get_or-replicate}
use Rattle.tcc_graph.specs.Tables.{row_of}
use Rattle.tcc_clocks.specs.private.Rows.{with_own}
use Rattle.tcc_clocks.specs.declared.side.Side.TheVariants.{Past}
use Rattle.tcc_clocks.specs.declared.latest.TheConstants.{WIDE}
use Rattle.tcc_order.proofs.news.known_by.Goals as goal

pub returns-clause-each : goal.returns-clause-each
returns-clause-each c = λ k l.
    let clock = row_of c.args.table.now c.args.a in
    let low : slice_index (replicate WIDE c.args.block.now.floor) k ≡ c.args.block.now.floor = get_or-replicate {A = ℕ} WIDE k c.args.block.now.floor 0 l in
    let raised : slice_index c.raise_each.new.row k ≡ max (slice_index c.get.result.now k) (slice_index (replicate WIDE c.args.block.now.floor) k)
    = c.raise_each.ensures.each k l in
    let is : slice_index c.raise_each.new.row k ≡ max (slice_index clock k) c.args.block.now.floor = rw (c.get.ensures, low) at raised in
    c.raise_own.ensures.each k (omega (arith, l, c.raise_each.ensures.same))
    ∙ ap (λ (n : ℕ). with_own Past c.args.block.now.owners.now c.args.block.now.from c.args.a k n) is
