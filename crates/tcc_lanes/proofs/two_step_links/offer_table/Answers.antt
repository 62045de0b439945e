use Rattle.std.proofs.Common.{◌≡◌, ℕ, length, get_or, subst, ◌∙◌, arith}
use Rattle.tcc_lanes.specs.private.Closings.{AreOffered, IsInColumns}
use Rattle.tcc_lanes.proofs.ClosingLemmas.{columns_more, columns_none}
use Rattle.tcc_lanes.proofs.two_step_links.offer_table.Goals as goal

pub loop-column-init : goal.loop-column-init
loop-column-init c =
    columns_none c.args.positions.now c.args.most c.args.starts.now c.args.members.now c.args.prices.now.table.items c.args.found.now.prices.items c.args.found.now.lasts.items

pub offer_column-requires-clause-prices : goal.offer_column-requires-clause-prices
offer_column-requires-clause-prices c = c.loop-column.invariant.prices_same ∙ c.requires.prices

pub offer_column-requires-clause-lasts : goal.offer_column-requires-clause-lasts
offer_column-requires-clause-lasts c = c.loop-column.invariant.lasts_same ∙ c.requires.lasts

pub loop-column-preserved : goal.loop-column-preserved
loop-column-preserved c =
    columns_more c.args.positions.now c.args.most c.args.starts.now c.args.members.now c.args.prices.now.table.items c.args.found.now.prices.items c.args.found.now.lasts.items
    c.loop-column.found.prices.items c.loop-column.found.lasts.items c.offer_column.new.found.prices.items c.offer_column.new.found.lasts.items c.loop-column.column
    c.loop-column.invariant (rw c.deref.ensures.value at c.offer_column.ensures)

pub returns : goal.returns
returns c =
    let positions = c.args.positions.now in
    let members = c.args.members.now in
    let all : c.loop-column.column ≡ length members = omega arith in
    subst (λ (v : ℕ). AreOffered (IsInColumns positions c.args.most c.args.starts.now members c.args.prices.now.table.items v) (λ u. get_or positions u 0)
    c.args.found.now.prices.items c.args.found.now.lasts.items c.loop-column.found.prices.items c.loop-column.found.lasts.items) all c.loop-column.invariant
