use Rattle.std.proofs.Common.{below_more, map, sym, ◌∙◌, arith}
use Rattle.std.proofs.lemmas.Bool.{false≢true}
use Rattle.tcc_graph.specs.Keys.{key_at}
use Rattle.tcc_graph.proofs.NamedReadings.{named_readings}
use Rattle.tcc_least.proofs.RoundLemmas.{reader_there, no_reader, first_there}
use Rattle.tcc_least.proofs.rounds.first_reader.Goals as goal

pub is_back-requires-clause-reader : goal.is_back-requires-clause-reader
is_back-requires-clause-reader c =
    let h = c.args.graph.now in
    let readers = c.readings_at.result.0.now in
    let key_indices = c.readings_at.result.1.now in
    let there =
    reader_there h c.args.below c.args.source readers (map (key_at h) key_indices)
    (named_readings h c.args.source readers key_indices c.readings_at.ensures) c.loop-reader.reader-index c.loop-reader-test.true in
    there.1.1

pub returns-then-is_back : goal.returns-then-is_back
returns-then-is_back c =
    let h = c.args.graph.now in
    let readers = c.readings_at.result.0.now in
    let key_indices = c.readings_at.result.1.now in
    let names = map (key_at h) key_indices in
    let are = named_readings h c.args.source readers key_indices c.readings_at.ensures in
    let k = c.loop-reader.reader-index in (
      (reader_there h c.args.below c.args.source readers names are k c.loop-reader-test.true, c.is_back.ensures.0 c.if-is_back.true),
      first_there h c.args.below c.args.source readers names are k c.loop-reader-test.true c.loop-reader.invariant,
    )

pub loop-reader-preserved : goal.loop-reader-preserved
loop-reader-preserved c =
    below_more _ _ c.loop-reader.invariant (λ back. false≢true (sym c.if-is_back.false ∙ c.is_back.ensures.1 back))

pub returns : goal.returns
returns c =
    let h = c.args.graph.now in
    let readers = c.readings_at.result.0.now in
    let key_indices = c.readings_at.result.1.now in
    no_reader h c.args.below c.args.source readers (map (key_at h) key_indices)
    (named_readings h c.args.source readers key_indices c.readings_at.ensures) c.loop-reader.reader-index
    (omega (arith, c.loop-reader-test.false)) c.loop-reader.invariant
