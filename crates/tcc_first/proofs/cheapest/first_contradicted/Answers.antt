use Rattle.std.proofs.Common.{ℕ, ◌<◌, ◌≡◌, List, [], length, Some, sym, ap, ◌∙◌, subst, arith}
use Rattle.std.proofs.lemmas.Bool.{false≢true}
use Rattle.std.proofs.lemmas.List.{get_or_read}
use Rattle.tcc_graph.specs.Keys.{key_at}
use Rattle.tcc_graph.specs.KeyIndices.{name_of}
use Rattle.tcc_first.specs.private.Picks.{IsFirstContradictedAt}
use Rattle.tcc_first.proofs.LongLemmas.{AreFound, found_more, found_same, none_found, first_found}
use Rattle.tcc_first.proofs.ReturnLemmas.{reading_at}
use Rattle.tcc_first.proofs.cheapest.first_contradicted.Goals.{then-is_contradicted, else-is_contradicted}
use Rattle.tcc_first.proofs.cheapest.first_contradicted.Goals as goal

pub is_contradicted-requires-clause-reader : goal.is_contradicted-requires-clause-reader
is_contradicted-requires-clause-reader c =
    (reading_at c.args.graph.now c.args.source c.readings_at.result.0.now c.readings_at.result.1.now c.readings_at.ensures c.loop-index.index c.loop-index-test.true).1.1

pub is_contradicted-requires-clause-key : goal.is_contradicted-requires-clause-key
is_contradicted-requires-clause-key c =
    (reading_at c.args.graph.now c.args.source c.readings_at.result.0.now c.readings_at.result.1.now c.readings_at.ensures c.loop-index.index c.loop-index-test.true).0

pub is_contradicted-requires-clause-read : goal.is_contradicted-requires-clause-read
is_contradicted-requires-clause-read c =
    (reading_at c.args.graph.now c.args.source c.readings_at.result.0.now c.readings_at.result.1.now c.readings_at.ensures c.loop-index.index c.loop-index-test.true).1

pub loop-index-preserved : goal.loop-index-preserved
loop-index-preserved c =
    elim c.if-is_contradicted.branch [
      | then-is_contradicted w ↦ rw w.first-is
          (found_more c.args.graph.now c.args.lengths.now c.args.steps c.args.from c.args.source c.readings_at.result.0.now c.readings_at.result.1.now
          c.readings_at.ensures c.loop-index.index c.loop-index.first w.lesser-first.result c.loop-index-test.true c.loop-index.invariant
          (c.is_contradicted.ensures.0 w.if-is_contradicted.true) w.lesser-first.ensures.either w.lesser-first.ensures.kept w.lesser-first.ensures.here)
      | else-is_contradicted w ↦ rw w.first-is
          (found_same c.args.graph.now c.args.lengths.now c.args.steps c.args.from c.args.source c.readings_at.result.0.now c.readings_at.result.1.now
          c.readings_at.ensures c.loop-index.index c.loop-index.first c.loop-index.invariant
          (λ is. false≢true (sym w.if-is_contradicted.false ∙ c.is_contradicted.ensures.1 is)))
    ]

pub returns-in_default : goal.returns-in_default
returns-in_default c =
    none_found c.args.graph.now c.args.lengths.now c.args.steps c.args.from c.args.source c.readings_at.result.0.now c.readings_at.result.1.now
    c.readings_at.ensures c.loop-index.index (omega (arith, c.loop-index-test.false)) (rw c.in_default.is at c.loop-index.invariant)

pub returns : goal.returns
returns c =
    let h = c.args.graph.now in
    let key_index : ℕ = c.in-Some.key_index in
    let reader : ℕ = c.in-Some.reader in
    let readers = c.readings_at.result.0.now in
    let key_indices = c.readings_at.result.1.now in
    let done : AreFound h c.args.lengths.now c.args.steps c.args.from c.args.source readers key_indices c.loop-index.index (Some (key_index, reader))
    = rw c.in-Some.is at c.loop-index.invariant in
    let inside : key_index < length c.keys.result.now = rw c.keys.ensures done.sound.0 in
    let key : c.index-keys-key_index.result ≡ key_at h key_index
    = get_or_read c.keys.result.now key_index c.index-keys-key_index.result inside c.index-keys-key_index.is [] ∙ ap (λ ns. name_of ns key_index) c.keys.ensures in (
      done.sound.1,
      subst (λ (z : List ℕ). IsFirstContradictedAt h c.args.lengths.now c.args.steps c.args.from c.args.source z reader) (sym key)
          (first_found h c.args.lengths.now c.args.steps c.args.from c.args.source readers key_indices c.readings_at.ensures c.loop-index.index
          (omega (arith, c.loop-index-test.false)) key_index reader done),
    )
