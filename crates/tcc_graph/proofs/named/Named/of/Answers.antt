use Rattle.std.proofs.Common.{ℕ, ◌≡◌, List, map, sym, ap, ◌∙◌}
use Rattle.std.specs.Prelude.{zip}
use Rattle.std.proofs.lemmas.Slice.Zip.{seconds-zip}
use Rattle.tcc_graph.specs.KeyIndices.{name_of}
use Rattle.tcc_graph.specs.Keys.{key_at}
use Rattle.tcc_graph.proofs.GroupedLemmas.{map-zip}
use Rattle.tcc_graph.proofs.NamedLemmas.{is_named}
use Rattle.tcc_graph.proofs.named.Named.of.Goals as goal

pub returns : goal.returns
returns c =
    let h = c.args.graph.now in
    let readers : List ℕ = c.read_at.result.0.now in
    let key_indices : List ℕ = c.read_at.result.1.now in
    let readings = c.read_at.ensures.readings in
    let firsts : map (λ q. q.0) (zip readers key_indices) ≡ readers = map-zip readers key_indices (sym readings.long) in
    let seconds : map (λ q. q.1) (zip readers key_indices) ≡ key_indices = seconds-zip readers key_indices (sym readings.long) in
    let read : c.in_ok-keys_read.keys_read.items ≡ map (key_at h) key_indices
    = c.in_ok-keys_read.ensures ∙ ap (λ (ns : List (List ℕ)). map (name_of ns) key_indices) c.keys-keys.ensures in
    is_named h c.args.n _ (zip readers key_indices)
    (c.in_ok-names_at.ensures ∙ ap (λ (ns : List (List ℕ)). map (name_of ns) c.writes_at.result.now) c.keys-keys.ensures ∙ c.writes_at.ensures.value)
    c.in_ok-reads_by_name.ensures.value c.in_ok-reads_by_name.ensures.sources
    (rw (firsts, seconds) (c.in_ok-in_groups.ensures ∙ ap (λ (ns : List (List ℕ)). zip readers ns) read)) (rw (firsts, seconds) readings)
    c.read_at.ensures.from
