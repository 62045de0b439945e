use Rattle.std.proofs.Common.{inr, refl, sym, ◌∙◌, arith}
use Rattle.std.proofs.lemmas.Bool.{false≢true}
use Rattle.tcc_graph.specs.Keys.{key_at}
use Rattle.tcc_graph.proofs.WriterLemmas.{writer_writes}
use Rattle.tcc_survey.specs.private.Calling.{IsReachedAt}
use Rattle.tcc_survey.specs.private.Settled.{IsKnown}
use Rattle.tcc_survey.specs.private.Spells.{IsFirstName}
use Rattle.tcc_survey.proofs.CallingLemmas.{distant_passed, new_called, unknown_passed, unreached_passed, zero_passed}
use Rattle.tcc_survey.proofs.calling.Calling.with_writer.Goals as goal
use Rattle.tcc_survey.proofs.calling.Calling.with_writer.Goals.{then-b-eq0-via-then-b-eq0, then-b-eq0-via-else-b-eq0+then-not-is_reached, then-b-eq0-via-else-b-eq0+else-not-is_reached+then-not-may_be_closer, then-b-eq0-via-else-b-eq0+else-not-is_reached+else-not-may_be_closer+then-not-is_known}

pub is_reached-requires-clause-inside : goal.is_reached-requires-clause-inside
is_reached-requires-clause-inside c =
    let k = c.args.self.now.knowledge in
    omega (arith, (writer_writes k.graph.now (key_at k.graph.now c.args.self.now.reading.key_index) c.args.b c.requires.writer).0, c.requires.calling.knowledge.owned.long)

pub is_known-requires-clause-inside : goal.is_known-requires-clause-inside
is_known-requires-clause-inside c =
    let k = c.args.self.now.knowledge in
    (writer_writes k.graph.now (key_at k.graph.now c.args.self.now.reading.key_index) c.args.b c.requires.writer).0

pub may_be_closer-requires-clause-below : goal.may_be_closer-requires-clause-below
may_be_closer-requires-clause-below c =
    let k = c.args.self.now.knowledge in
    (writer_writes k.graph.now (key_at k.graph.now c.args.self.now.reading.key_index) c.args.b c.requires.writer).0

pub name_of-requires-clause-below : goal.name_of-requires-clause-below
name_of-requires-clause-below c =
    let k = c.args.self.now.knowledge in
    (writer_writes k.graph.now (key_at k.graph.now c.args.self.now.reading.key_index) c.args.b c.requires.writer).0

pub returns-then-b-eq0-clause-called : goal.returns-then-b-eq0-clause-called
returns-then-b-eq0-clause-called c = λ among before.
    elim c.then-b-eq0.branch [
      | then-b-eq0-via-then-b-eq0 w ↦ zero_passed c.args.self.now c.requires.calling among c.args.one before c.args.b c.requires.writer (omega (arith, w.if-b-eq0.true))
      | then-b-eq0-via-else-b-eq0+then-not-is_reached w ↦
          unreached_passed c.args.self.now c.requires.calling among c.args.one before c.args.b c.requires.writer (omega (arith, w.if-b-eq0.false))
          (λ reached. false≢true (sym w.if-not-is_reached.true ∙ w.is_reached.ensures.1 reached))
      | then-b-eq0-via-else-b-eq0+else-not-is_reached+then-not-may_be_closer w ↦
          distant_passed c.args.self.now c.requires.calling among c.args.one before c.args.b
          (rw (← c.requires.calling.reader, ← c.requires.calling.key) (w.may_be_closer.ensures w.if-not-may_be_closer.true))
      | then-b-eq0-via-else-b-eq0+else-not-is_reached+else-not-may_be_closer+then-not-is_known w ↦
          unknown_passed c.args.self.now c.requires.calling among c.args.one before c.args.b c.requires.writer
          (λ known. false≢true (sym w.if-not-is_known.true ∙ w.is_known.ensures.1 known))
    ]

pub returns-then-b-eq0-clause-kept : goal.returns-then-b-eq0-clause-kept
returns-then-b-eq0-clause-kept c = inr (refl, omega arith)

pub returns-clause-called : goal.returns-clause-called
returns-clause-called c = λ among before.
    let s = c.args.self.now in
    let is = c.requires.calling in
    let reached : IsReachedAt s.knowledge.owners.now s.from s.first.now c.args.b = c.if-not-is_reached.ensures.0 refl in
    let known : IsKnown s.level s.knowledge.graph.now c.args.b s.reading.reader = c.if-not-is_known.ensures.0 refl in
    let called : IsFirstName s.knowledge.graph.now s.reading.reader (key_at s.knowledge.graph.now s.reading.key_index) c.args.b c.name_of.result
    = rw (← is.reader, ← is.key) c.name_of.ensures in
    new_called s is among c.args.one before c.args.b c.requires.writer (omega (arith, c.if-b-eq0.false)) reached known c.name_of.result called c.first_of.result
    c.first_of.ensures.one c.first_of.ensures.kept c.first_of.ensures.met
