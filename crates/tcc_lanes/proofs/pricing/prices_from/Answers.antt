use Rattle.std.proofs.Common.{◌≡◌, ◌≢◌, ◌<◌, ◌+◌, ◌↔◌, ◌⊎◌, ◌∙◌, ℕ, length, get_or, refl, sym, subst, arith}
use Rattle.tcc_reads.specs.History.{count}
use Rattle.tcc_graph.specs.Levels.{judged}
use Rattle.tcc_lanes.specs.declared.words.TheConstants.{LANES}
use Rattle.tcc_lanes.specs.private.Marks.{AreMarksOf, IsAt}
use Rattle.tcc_lanes.specs.private.Walking.{IsWalkedOn}
use Rattle.tcc_lanes.specs.private.Pricing.{ArePrices, IsLowered, IsMetIn, cell}
use Rattle.tcc_txn.proofs.Lists.{whole}
use Rattle.tcc_lanes.proofs.PriceLemmas.{pricing_more, pricing_still}
use Rattle.tcc_lanes.proofs.pricing.prices_from.Goals as goal

pub loop-steps-preserved : goal.loop-steps-preserved
loop-steps-preserved c =
    let h = c.args.graph.now in
    let members = c.args.members.now in
    let starts = c.args.starts.now in
    let begun = c.in_ok-begun.begun.items in
    let writers = c.in_ok-writers.writers.items in
    let now = c.loop-steps in
    let after = c.walk_on.new.reached in
    let room = c.walk_on.new.underway in
    let met = c.meet.new.found in
    let new = c.lower.new.table in
    let price : ℕ = now.steps + 2 in
    let marks : AreMarksOf (count h) starts (length starts) begun = rw c.count-count.ensures.value at c.in_ok-begun.ensures in
    let reached_back = whole after now.reached.items now.reached.len (c.walk_on.ensures.same ∙ sym now.invariant.long) now.reached.ok.0 in
    let room_back = whole room now.underway.items now.underway.len (c.walk_on.ensures.room ∙ sym now.invariant.room) now.underway.ok.0 in
    let same : length met ≡ length now.found.items = rw (c.deref_mut-in-loop-steps-2.ensures.value) at c.meet.ensures.same in
    let met_back = whole met now.found.items now.found.len same now.found.ok.0 in
    let alike : length new ≡ length now.table.items = rw (c.deref_mut-in-loop-steps-3.ensures.value) at c.lower.ensures.same in
    let new_back = whole new now.table.items now.table.len alike now.table.ok.0 in
    let each : (v i : ℕ) → v < count h → i < LANES → IsAt after v i ↔ IsWalkedOn h c.args.level begun now.reached.items v i
    = rw (c.deref.ensures.value, c.deref_mut.ensures.value) at c.walk_on.ensures.each in
    let seen : c.deref-in-loop-steps-2.result.now ≡ after = c.deref-in-loop-steps-2.ensures.value ∙ reached_back in
    let grown : (v i : ℕ) → v < length now.found.items → i < LANES
    → IsAt met v i ↔ (IsAt now.found.items v i ⊎ IsMetIn h c.args.columns.now writers after (count h) v i)
    = rw (c.deref_mut-in-loop-steps-2.ensures.value, c.deref-in-loop-steps.ensures.value, seen) at c.meet.ensures.each in
    let found_seen : c.deref-in-loop-steps-3.result.now ≡ met = c.deref-in-loop-steps-3.ensures.value ∙ met_back in
    let lowered : (v i : ℕ) → v < length members → i < LANES
    → IsLowered ((i < length starts) × IsAt met v i × (get_or starts i 0 ≢ get_or members v 0)) price (get_or now.table.items (cell v i) 0) (get_or new (cell v i) 0)
    = rw (c.deref_mut-in-loop-steps-3.ensures.value, found_seen) at c.lower.ensures.each in
    rw (reached_back, room_back, met_back, new_back)
    (pricing_more h c.args.level members starts begun c.requires.lanes c.requires.inside c.requires.members marks c.args.columns.now writers c.requires.columns
    c.in_ok-writers.ensures now.steps price refl (omega (arith, c.requires.short, c.loop-steps-test.true)) now.reached.items now.underway.items now.found.items
    now.table.items after room met new now.invariant c.walk_on.ensures.same c.walk_on.ensures.room each same grown alike lowered)

pub returns-clause-prices : goal.returns-clause-prices
returns-clause-prices c =
    let all : c.loop-steps.steps ≡ c.args.longest = omega (arith, c.loop-steps-test.false, c.loop-steps.auto.steps-end) in
    subst (λ (n : ℕ). ArePrices (judged c.args.graph.now c.args.level) c.args.members.now c.args.starts.now n c.loop-steps.table.items) all
    c.loop-steps.invariant.prices

pub returns-then-not-walk_on-clause-prices : goal.returns-then-not-walk_on-clause-prices
returns-then-not-walk_on-clause-prices c =
    let h = c.args.graph.now in
    let starts = c.args.starts.now in
    let begun = c.in_ok-begun.begun.items in
    let now = c.loop-steps in
    let after = c.walk_on.new.reached in
    let marks : AreMarksOf (count h) starts (length starts) begun = rw c.count-count.ensures.value at c.in_ok-begun.ensures in
    let each : (v i : ℕ) → v < count h → i < LANES → IsAt after v i ↔ IsWalkedOn h c.args.level begun now.reached.items v i
    = rw (c.deref.ensures.value, c.deref_mut.ensures.value) at c.walk_on.ensures.each in
    let still : (v : ℕ) → v < count h → get_or after v 0 ≡ get_or now.reached.items v 0
    = rw c.deref_mut.ensures.value at c.walk_on.ensures.still c.if-not-walk_on.true in
    pricing_still h c.args.level c.args.members.now starts begun c.requires.lanes c.requires.inside marks now.steps c.args.longest
    (omega (arith, c.loop-steps-test.true)) now.reached.items now.underway.items now.found.items now.table.items after now.invariant still each
