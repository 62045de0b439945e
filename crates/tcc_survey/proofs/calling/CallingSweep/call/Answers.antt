use Rattle.std.proofs.Common.{◌<◌, length, refl, arith}
use Rattle.tcc_reads.specs.History.{History}
use Rattle.tcc_graph.specs.Keys.{key_at}
use Rattle.tcc_graph.specs.Levels.{Judged, judged}
use Rattle.tcc_survey.specs.private.Settled.{AreWritersIn}
use Rattle.tcc_survey.proofs.CallingLemmas.{begin, finish}
use Rattle.tcc_survey.proofs.ManyLemmas.{source_listed, sources_below, sources_rise}
use Rattle.tcc_survey.proofs.SeenLemmas.{marks_latest, owners_room, reader_some}
use Rattle.tcc_survey.proofs.calling.CallingSweep.call.Goals as goal

pub with_writers-requires-clause-calling : goal.with_writers-requires-clause-calling
with_writers-requires-clause-calling c =
    let h : History = c.args.self.now.block.graph.now in
    let is = c.requires.sweep.block in
    let r = c.args.reading in
    let pair = c.requires.read.pair in
    let some : 0 < r.reader = reader_some h is.acyclic r.source r.reader (key_at h r.key_index) pair in
    let w = c.requires.marks in
    record {
      knowledge = record {
        numbered = is.numbered;
        acyclic = is.acyclic;
        owned = is.owned;
        some = some;
        below = pair.1;
        key = c.requires.read.key;
        room = λ b l. owners_room h c.args.self.now.block.owners.now is.owned (length h.sessions) (length c.args.marks.now) c.requires.room is.sessions r.reader some pair.1 b l;
        latest = marks_latest h is.numbered is.acyclic c.args.self.now.block.owners.now is.owned w.0 w.2 w.1 r.reader some pair.1 w.3 c.args.marks.now w.4;
      };
      reader = refl;
      key = refl;
      reading = c.requires.read;
      room = is.room;
      rising = sources_rise h r.key_index _ _ c.readings_of.ensures;
      below = sources_below h r.key_index _ _ c.readings_of.ensures;
      sources = λ b e pair. source_listed h r.key_index _ _ c.readings_of.ensures b e pair;
      first = rw c.get.ensures (is.first.each r.source pair.0 pair.0);
    }

pub with_writers-requires-clause-among : goal.with_writers-requires-clause-among
with_writers-requires-clause-among c =
    let h : History = c.args.self.now.block.graph.now in
    rw (c.between.ensures, c.writers_at-among.ensures) (c.requires.sweep.spans.each c.args.reading.key_index c.requires.read.key)

pub with_writers-requires-clause-one : goal.with_writers-requires-clause-one
with_writers-requires-clause-one c =
    let j : Judged = judged c.args.self.now.block.graph.now c.args.self.now.level in
    begin j c.args.self.now.block.from c.args.reading c.args.one c.requires.one (omega (arith, c.if-one-eq0.false))

pub returns : goal.returns
returns c =
    let h : History = c.args.self.now.block.graph.now in
    let j : Judged = judged h c.args.self.now.level in
    let r = c.args.reading in
    let in_block : AreWritersIn h c.args.self.now.block.from (key_at h r.key_index) c.between.result.now
    = rw (c.between.ensures, c.writers_at-among.ensures) (c.requires.sweep.spans.each r.key_index c.requires.read.key) in
    finish j c.requires.sweep.block.acyclic c.args.self.now.block.from r c.requires.read c.between.result.now in_block c.with_writers.result c.with_writers.ensures
