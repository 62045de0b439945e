use Rattle.std.proofs.Common.{rules, ◌≡◌, ◌<◌, ◌≤◌, ◌+◌, ◌-◌, inl, inr, slice_index}
use Rattle.tcc_clocks.specs.declared.latest.TheConstants.{WIDE}
use Rattle.tcc_survey.proofs.BesideLemmas.{own_inside, own_outside}
use Rattle.tcc_survey.proofs.scanning.Scan.hit_of_own.Goals as goal

pub returns-then-owner-self : goal.returns-then-owner-self
returns-then-owner-self c =
    let low : slice_index c.args.self.now.block.owners.now c.args.self.now.reader < c.args.self.now.block.from = search rules in
    own_outside c.args.self.now (inl low)

pub returns-then-lane-lt-WIDE : goal.returns-then-lane-lt-WIDE
returns-then-lane-lt-WIDE c =
    let s = c.args.self.now in
    let mine : slice_index s.block.owners.now s.reader ≡ s.block.from + (slice_index s.block.owners.now s.reader - s.block.from) = search rules in
    let small : slice_index s.block.owners.now s.reader - s.block.from < WIDE = search rules in
    own_inside s (slice_index s.block.owners.now s.reader - s.block.from) small mine c.hit_in_session.result c.hit_in_session.ensures

pub returns-else-lane-lt-WIDE : goal.returns-else-lane-lt-WIDE
returns-else-lane-lt-WIDE c =
    let s = c.args.self.now in
    let high : s.block.from + WIDE ≤ slice_index s.block.owners.now s.reader = search rules in
    own_outside s (inr high)
