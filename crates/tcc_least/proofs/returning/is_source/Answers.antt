use Rattle.std.proofs.Common.{rules, map, sym, arith}
use Rattle.tcc_graph.specs.Keys.{key_at}
use Rattle.tcc_graph.proofs.NamedReadings.{named_readings}
use Rattle.tcc_least.proofs.ReturnLemmas.{reads_there, no_other}
use Rattle.tcc_least.proofs.returning.is_source.Goals as goal

pub returns-then-reader-gt0 : goal.returns-then-reader-gt0
returns-then-reader-gt0 c =
    let h = c.args.graph.now in
    let readers = c.readings_at.result.0.now in
    let key_indices = c.readings_at.result.1.now in
    let are = named_readings h c.args.source readers key_indices c.readings_at.ensures in
    let k = c.loop-reader.reader-index in (
      (λ _. (
        (λ same. c.if-source-eq0.false (sym same)),
        (_, c.if-reader-gt0.true, reads_there h c.args.source readers (map (key_at h) key_indices) are k c.loop-reader-test.true),
      )),
      (λ _. search rules),
    )

pub returns : goal.returns
returns c =
    let h = c.args.graph.now in
    let readers = c.readings_at.result.0.now in
    let key_indices = c.readings_at.result.1.now in
    let are = named_readings h c.args.source readers key_indices c.readings_at.ensures in (
      (λ e. absurd (search rules)),
      (λ w. absurd (no_other h c.args.source readers (map (key_at h) key_indices) are c.loop-reader.reader-index
          (omega (arith, c.loop-reader-test.false)) c.loop-reader.invariant w.1)),
    )
