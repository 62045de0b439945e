use Rattle.std.proofs.Common.{rules, ◌≡◌, ◌≤◌, ◌+◌, ℕ, slice_index, refl, arith}
use Rattle.std.proofs.lemmas.List.{get_or_default}
use Rattle.tcc_graph.specs.Levels.{judged}
use Rattle.tcc_survey.specs.private.Settled.{IsHitOnLane}
use Rattle.tcc_survey.proofs.LaneLemmas.{none_past, none_between}
use Rattle.tcc_survey.proofs.ScanLemmas.{first_found, none_found}
use Rattle.tcc_survey.proofs.scanning.Scan.hit_in_session.Goals as goal

pub returns-then-low-high : goal.returns-then-low-high
returns-then-low-high c =
    let s = c.args.self.now in
    let lane : ℕ = c.args.lane in
    none_between (judged s.block.graph.now s.level) s.block.owners.now (s.block.from + lane) (slice_index s.first.now lane) (slice_index s.clock.now lane) s.writers.now s.reader
    (omega (arith, c.if-low-high.true))

pub returns-then-b-high : goal.returns-then-b-high
returns-then-b-high c =
    let s = c.args.self.now in
    let lane : ℕ = c.args.lane in
    none_past (judged s.block.graph.now s.level) s.block.owners.now (s.block.from + lane) (slice_index s.first.now lane) (slice_index s.clock.now lane) s.writers.now s.reader
    c.requires.may.rising c.loop-index.index c.loop-index-test.true c.loop-index.invariant (omega (arith, c.if-b-high.true))

pub returns-then-is_known : goal.returns-then-is_known
returns-then-is_known c =
    let s = c.args.self.now in
    let lane : ℕ = c.args.lane in
    let ws = s.writers.now in
    let n : ℕ = c.loop-index.index in
    let b : ℕ = slice_index ws n in
    let inside = c.loop-index-test.true in
    let mine : slice_index s.block.owners.now b ≡ s.block.from + lane = search rules in
    let low : slice_index s.first.now lane ≤ b = search rules in
    let high : b ≤ slice_index s.clock.now lane = search rules in
    first_found (IsHitOnLane s lane) ws c.requires.may.rising n c.loop-index.invariant inside (omega (arith, c.if-b-gt0.true))
    (omega (arith, c.if-b-gt0.true), (n, inside, get_or_default ws n b 0 inside), mine, low, high, c.if-is_known.ensures.0 refl) (λ d w. w.1)

pub returns : goal.returns
returns c =
    let s = c.args.self.now in
    none_found (IsHitOnLane s c.args.lane) s.writers.now c.requires.may.rising c.loop-index.index c.loop-index.invariant
    (omega (arith, c.loop-index-test.false)) (λ d w. w.1)
