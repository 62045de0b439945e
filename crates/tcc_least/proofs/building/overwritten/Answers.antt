use Rattle.std.proofs.Common.{below_more, ℕ, ◌<◌, ◌≡◌, List, [], length, map, ap, sym, subst, ◌∙◌, arith}
use Rattle.std.specs.Prelude.{slice_index, slice_index_or}
use Rattle.std.proofs.lemmas.Bool.{false≢true}
use Rattle.std.proofs.lemmas.List.{get_or_read, get_or-map}
use Rattle.tcc_reads.specs.History.{History}
use Rattle.tcc_graph.specs.Keys.{key_at, keys}
use Rattle.tcc_graph.specs.KeyIndices.{name_of}
use Rattle.tcc_graph.specs.Relations.{IsReadsPair}
use Rattle.tcc_graph.specs.Readings.{AreReadingsByIndex}
use Rattle.tcc_graph.proofs.NamedReadings.{named_readings}
use Rattle.tcc_least.specs.private.Building.{Overwrites}
use Rattle.tcc_least.proofs.Built.{some_overwritten, reading_at}
use Rattle.tcc_least.proofs.building.overwritten.Goals as goal

-- the key at an index of the readings
key_here : (h : History) (a k : ℕ) (readers key_indices : List ℕ) → AreReadingsByIndex h a readers key_indices → k < length readers → (names : List (List ℕ))
    → names ≡ keys h → (one : List ℕ) → one ≡ slice_index_or names (slice_index key_indices k) one → one ≡ slice_index_or (map (key_at h) key_indices) k []
key_here h a k readers key_indices are inside names all one is =
    let other : k < length key_indices = omega (arith, are.long) in
    let within : slice_index key_indices k < length (keys h) = are.within k 0 other in
    let there : slice_index key_indices k < length names = rw all within in
    get_or_read names (slice_index key_indices k) one there is [] ∙ ap (λ ns. name_of ns (slice_index key_indices k)) all
    ∙ sym (get_or-map (key_at h) key_indices k 0 [] other)

pub overwrites-requires-clause-reader : goal.overwrites-requires-clause-reader
overwrites-requires-clause-reader c =
    let h = c.args.graph.now in
    let readers : List ℕ = c.readings_at.result.0.now in
    let key_indices : List ℕ = c.readings_at.result.1.now in
    (reading_at h c.args.to readers (map (key_at h) key_indices) c.loop-index.index (named_readings h c.args.to readers key_indices c.readings_at.ensures)
    c.loop-index-test.true).1

pub returns-then-overwrites-clause-read : goal.returns-then-overwrites-clause-read
returns-then-overwrites-clause-read c =
    let h = c.args.graph.now in
    let readers : List ℕ = c.readings_at.result.0.now in
    let key_indices : List ℕ = c.readings_at.result.1.now in
    let k : ℕ = c.loop-index.index in
    let is =
    key_here h c.args.to k readers key_indices c.readings_at.ensures c.loop-index-test.true c.keys-keys.result.now c.keys-keys.ensures
    c.index-keys-key_indices.result c.index-keys-key_indices.is in
    subst (λ (z : List ℕ). IsReadsPair h c.args.to (slice_index readers k) z) (sym is)
    (reading_at h c.args.to readers (map (key_at h) key_indices) k (named_readings h c.args.to readers key_indices c.readings_at.ensures) c.loop-index-test.true)

pub loop-index-preserved : goal.loop-index-preserved
loop-index-preserved c =
    let h = c.args.graph.now in
    let readers : List ℕ = c.readings_at.result.0.now in
    let key_indices : List ℕ = c.readings_at.result.1.now in
    let k : ℕ = c.loop-index.index in
    let one : List ℕ = c.index-keys-key_indices.result in
    let is =
    key_here h c.args.to k readers key_indices c.readings_at.ensures c.loop-index-test.true c.keys-keys.result.now c.keys-keys.ensures one
    c.index-keys-key_indices.is in
    below_more _ _ c.loop-index.invariant
    (λ over. false≢true (
    sym c.if-overwrites.false
    ∙ c.overwrites.ensures.1 (subst (λ (z : List ℕ). Overwrites h c.args.from (slice_index readers k) z) (sym is) over)))

pub unreachable-requires : goal.unreachable-requires
unreachable-requires c =
    let h = c.args.graph.now in
    let readers : List ℕ = c.readings_at.result.0.now in
    let key_indices : List ℕ = c.readings_at.result.1.now in
    some_overwritten h c.args.from c.args.to readers (map (key_at h) key_indices) c.loop-index.index
    (named_readings h c.args.to readers key_indices c.readings_at.ensures) c.requires (omega (arith, c.loop-index-test.false)) c.loop-index.invariant
