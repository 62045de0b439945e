use Rattle.std.proofs.Common.{◌<◌, ℕ, arith}
use Rattle.std.proofs.lemmas.List.Elements.{All-contains}
use Rattle.tcc_reads.specs.History.{count}
use Rattle.tcc_graph.specs.Levels.{judged}
use Rattle.tcc_survey.proofs.LaneLemmas.{lane_found, lanes_none}
use Rattle.tcc_survey.proofs.scanning.Scan.hit_of_many.Goals as goal

pub returns : goal.returns
returns c =
    let s = c.args.self.now in
    lanes_none (judged s.block.graph.now s.level) c.requires.numbered s.block.owners.now c.requires.owned s.block.from s.first.now s.clock.now s.writers.now s.reader
    c.loop-lane.lane c.loop-lane.invariant (omega (arith, c.loop-lane-test.false))

pub returns-then-found-gt0 : goal.returns-then-found-gt0
returns-then-found-gt0 c =
    let s = c.args.self.now in
    lane_found (judged s.block.graph.now s.level) c.requires.numbered s.block.owners.now c.requires.owned s.block.from s.first.now s.clock.now s.writers.now s.reader
    c.loop-lane.lane c.loop-lane.invariant (λ b there. All-contains (λ (z : ℕ). z < count s.block.graph.now) s.writers.now b c.requires.inside there)
    c.hit_in_session-found.result c.loop-lane-test.true (omega (arith, c.if-found-gt0.true)) c.hit_in_session-found.ensures
