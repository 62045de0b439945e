use Rattle.std.proofs.Common.{ℕ, ◌<◌, ◌≡◌, List, [], length, map, refl, sym, ap, ◌∙◌, subst, arith}
use Rattle.std.proofs.lemmas.List.{get_or_read, length-map}
use Rattle.std.proofs.lemmas.List.Elements.{All-contains, Contains-get_or}
use Rattle.tcc_graph.specs.Keys.{key_at, keys}
use Rattle.tcc_graph.specs.KeyIndices.{name_of}
use Rattle.tcc_derive.specs.Names.{IsFirstName}
use Rattle.tcc_first.proofs.CheapestLemmas.{lower_index, same_index, least_of_all, first_of_keys}
use Rattle.tcc_first.proofs.cheapest_links.first_key.Goals.{then-key_index-least, else-key_index-least}
use Rattle.tcc_first.proofs.cheapest_links.first_key.Goals as goal

pub loop-key_index-init : goal.loop-key_index-init
loop-key_index-init c =
    let long = length-map c.reads_from_at-key_indices.result.now (key_at c.args.graph.now) in
    record {
      there = Contains-get_or c.reads_from_at-key_indices.result.now 0 0
          (omega (arith, c.requires.some, long, ap length c.reads_from_at-key_indices.ensures.value));
      least = λ k low. absurd (omega (arith, low));
    }

pub loop-key_index-preserved : goal.loop-key_index-preserved
loop-key_index-preserved c =
    elim c.if-key_index-least.branch [
      | then-key_index-least w ↦ rw w.least-is
          (lower_index c.reads_from_at-key_indices.result.now c.loop-key_index.key_index-index c.loop-key_index.least c.loop-key_index.invariant _
          c.loop-key_index-test.true refl w.if-key_index-least.true)
      | else-key_index-least w ↦ rw w.least-is
          (same_index c.reads_from_at-key_indices.result.now c.loop-key_index.key_index-index c.loop-key_index.least c.loop-key_index.invariant
          w.if-key_index-least.false)
    ]

pub returns : goal.returns
returns c =
    let h = c.args.graph.now in
    let indices : List ℕ = c.reads_from_at-key_indices.result.now in
    let m : ℕ = c.loop-key_index.least in
    let within : m < length (keys h)
    = All-contains (λ k. k < length (keys h)) indices m c.reads_from_at-key_indices.ensures.within c.loop-key_index.invariant.there in
    let inside : m < length c.keys.result.now = rw c.keys.ensures within in
    let key : c.index-keys-least.result ≡ key_at h m
    = get_or_read c.keys.result.now m c.index-keys-least.result inside c.index-keys-least.is [] ∙ ap (λ ns. name_of ns m) c.keys.ensures in
    subst (λ (names : List (List ℕ)). IsFirstName names c.index-keys-least.result) c.reads_from_at-key_indices.ensures.value
    (subst (λ (z : List ℕ). IsFirstName (map (key_at h) indices) z) (sym key)
    (first_of_keys h indices m c.loop-key_index.invariant.there
    (least_of_all indices c.loop-key_index.key_index-index m c.loop-key_index.invariant c.loop-key_index-test.false)
    c.reads_from_at-key_indices.ensures.within))
