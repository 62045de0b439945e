use Rattle.std.proofs.Common.{◌≡◌, ℕ, length, get_or, refl, subst, sym, ◌∙◌, arith}
use Rattle.std.proofs.lemmas.Bool.{false≢true}
use Rattle.tcc_lanes.specs.private.Closings.{AreOffered, IsInColumn}
use Rattle.tcc_lanes.specs.private.Marks.{HasLane}
use Rattle.tcc_lanes.specs.private.Pricing.{cell}
use Rattle.tcc_lanes.proofs.ClosingLemmas.{column_blank, column_more, column_none, column_same}
use Rattle.tcc_lanes.proofs.WordLemmas.{none_has}
use Rattle.tcc_lanes.proofs.two_step_links.offer_column.Goals.{then-is_closing, else-is_closing}
use Rattle.tcc_lanes.proofs.two_step_links.offer_column.Goals as goal

pub loop-lane-init : goal.loop-lane-init
loop-lane-init c =
    column_none c.args.positions.now c.args.most c.args.starts.now c.args.members.now c.args.table.now c.args.found.now.prices.items c.args.found.now.lasts.items
    c.args.found.now.prices.items c.args.found.now.lasts.items c.args.column

pub offer-requires-clause-from : goal.offer-requires-clause-from
offer-requires-clause-from c =
    omega (arith, c.requires.starts c.loop-lane.lane 0 c.loop-lane-test.true, c.loop-lane.invariant.prices_same, c.requires.prices)

pub offer-requires-clause-to : goal.offer-requires-clause-to
offer-requires-clause-to c =
    omega (arith, c.requires.members c.args.column 0 c.requires.inside, c.loop-lane.invariant.lasts_same, c.requires.lasts)

pub loop-lane-preserved : goal.loop-lane-preserved
loop-lane-preserved c =
    let positions = c.args.positions.now in
    let starts = c.args.starts.now in
    let members = c.args.members.now in
    let table = c.args.table.now in
    let v = c.args.column in
    let i = c.loop-lane.lane in
    let found = c.loop-lane.found in
    let inv = c.loop-lane.invariant in
    elim c.if-is_closing.branch [
      | then-is_closing w ↦ rw (w.found-is, w.offer.ensures.prices, w.offer.ensures.lasts)
          (column_more positions c.args.most starts members table c.args.found.now.prices.items c.args.found.now.lasts.items found.prices.items found.lasts.items v i inv
          (get_or starts i 0) (get_or positions (get_or starts i 0) 0) (get_or members v 0) (get_or table (cell v i) 0) refl refl refl refl
          (c.is_closing.ensures.0 w.if-is_closing.true)
          (omega (arith, c.requires.starts i 0 c.loop-lane-test.true, inv.prices_same, c.requires.prices))
          (omega (arith, c.requires.members v 0 c.requires.inside, inv.lasts_same, c.requires.lasts)))
      | else-is_closing w ↦ rw w.found-is
          (column_same positions c.args.most starts members table c.args.found.now.prices.items c.args.found.now.lasts.items found.prices.items found.lasts.items v i inv
          (λ is. false≢true (sym w.if-is_closing.false ∙ c.is_closing.ensures.1 is)))
    ]

pub returns : goal.returns
returns c =
    let positions = c.args.positions.now in
    let starts = c.args.starts.now in
    let all : c.loop-lane.lane ≡ length starts = omega arith in
    subst (λ (i : ℕ). AreOffered (IsInColumn positions c.args.most starts c.args.members.now c.args.table.now c.args.column i) (λ v. get_or positions v 0)
    c.args.found.now.prices.items c.args.found.now.lasts.items c.loop-lane.found.prices.items c.loop-lane.found.lasts.items) all c.loop-lane.invariant

pub returns-then-word-eq0 : goal.returns-then-word-eq0
returns-then-word-eq0 c =
    column_blank c.args.positions.now c.args.most c.args.starts.now c.args.members.now c.args.table.now c.args.found.now.prices.items c.args.found.now.lasts.items
    c.args.column (omega (arith, c.ranges.most.fits))
    (λ i m. c.requires.blank i m (λ has. none_has i (subst (λ (word : ℕ). HasLane word i) c.if-word-eq0.true has)))
