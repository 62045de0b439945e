use Rattle.std.proofs.Common.{◌≡◌, length, refl, rules}
use Rattle.tcc_graph.specs.Keys.{key_at}
use Rattle.tcc_graph.specs.Levels.{Judged, judged}
use Rattle.tcc_clocks.specs.Clocks.{AreLatestOf, IsBefore, IsAfter}
use Rattle.tcc_survey.specs.private.Firsts.{AreFirstOf}
use Rattle.tcc_survey.proofs.ScanLemmas.{none_least, no_writers, hit_least, all_below}
use Rattle.tcc_survey.proofs.scanning.ReadSweep.least_up_to.Goals as goal

pub first_hit-requires : goal.first_hit-requires
first_hit-requires c =
    let h = c.args.self.now.block.graph.now in
    let r = c.args.reading in
    let pair = c.requires.read.pair in
    record {
      numbered = c.requires.block.numbered;
      owned = c.requires.block.owned;
      room = c.requires.block.room;
      inside = all_below h c.args.self.now.block.from (key_at h r.key_index) c.args.writers.now c.requires.writers;
      rising = c.requires.writers.rising;
      first_wide = rw c.get.ensures (c.requires.block.first.each r.source pair.0 pair.0).wide;
      clock_wide = rw c.get-2.ensures (c.requires.block.clock.each r.reader pair.1 pair.1).wide;
      reader = pair.1;
    }

pub returns-then-is_empty : goal.returns-then-is_empty
returns-then-is_empty c =
    let j : Judged = judged c.args.self.now.block.graph.now c.args.self.now.level in
    let from = c.args.self.now.block.from in
    let empty : length c.args.writers.now ≡ 0 = search rules in
    none_least j from c.args.reading 0 c.requires.known
    (no_writers j c.requires.block.acyclic from c.args.reading c.requires.read c.args.writers.now c.requires.writers empty)

pub returns : goal.returns
returns c =
    let h = c.args.self.now.block.graph.now in
    let j : Judged = judged h c.args.self.now.level in
    let r = c.args.reading in
    let from = c.args.self.now.block.from in
    let first : AreFirstOf h (IsAfter h r.source) from c.get.result.now
    = rw c.get.ensures (c.requires.block.first.each r.source c.requires.read.pair.0 c.requires.read.pair.0) in
    let clock : AreLatestOf h (IsBefore h r.reader) from c.get-2.result.now
    = rw c.get-2.ensures (c.requires.block.clock.each r.reader c.requires.read.pair.1 c.requires.read.pair.1) in
    hit_least j c.requires.block.numbered c.requires.block.acyclic c.args.self.now.block.owners.now c.requires.block.owned from r c.requires.read c.get.result.now c.get-2.result.now
    c.args.writers.now first clock c.requires.writers 0 c.first_hit.result c.requires.known refl c.first_hit.ensures
