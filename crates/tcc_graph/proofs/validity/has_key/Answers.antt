use Rattle.std.proofs.Common.{ℕ, ◌≡◌, ◌<◌, ◌≤◌, ◌∙◌, false, List, length, map, refl, sym, subst, arith}
use Rattle.std.specs.Prelude.{bytes_eq}
use Rattle.std.proofs.lemmas.Bool.{false≢true}
use Rattle.std.proofs.lemmas.List.{length-map, take_all}
use Rattle.tcc_graph.specs.KeyIndices.{name_of}
use Rattle.tcc_graph.specs.Keys.{has_name}
use Rattle.tcc_graph.proofs.NameLemmas.{bytes_eq-same, bytes_eq-true, bytes_eq-other, contains-has_name, has_name-more}
use Rattle.tcc_graph.proofs.NamedLemmas.{name_there}
use Rattle.tcc_graph.proofs.validity.has_key.Goals as goal

pub returns-then-eq : goal.returns-then-eq
returns-then-eq c =
    let keys = c.args.keys.now in
    let indices = c.args.key_indices.now in
    let i = c.loop-key_index.key_index-index in
    let one = c.index-keys-key_index.result in
    let inside : i < length (map (name_of keys) indices) = omega (arith, length-map indices (name_of keys), c.loop-key_index-test.true) in
    let at = name_there keys indices i one c.loop-key_index-test.true (c.requires i 0 c.loop-key_index-test.true) c.index-keys-key_index.is c.args.key.now in
    sym (contains-has_name (map (name_of keys) indices) c.args.key.now (i, inside, at ∙ bytes_eq-true one c.args.key.now (sym c.eq.ensures ∙ c.if-eq.true)))

pub loop-key_index-preserved : goal.loop-key_index-preserved
loop-key_index-preserved c =
    let keys = c.args.keys.now in
    let indices = c.args.key_indices.now in
    let names : List (List ℕ) = map (name_of keys) indices in
    let i = c.loop-key_index.key_index-index in
    let one = c.index-keys-key_index.result in
    let inside : i < length names = omega (arith, length-map indices (name_of keys), c.loop-key_index-test.true) in
    let at = name_there keys indices i one c.loop-key_index-test.true (c.requires i 0 c.loop-key_index-test.true) c.index-keys-key_index.is one in
    let other : bytes_eq c.args.key.now one ≡ false
    = bytes_eq-other c.args.key.now one (λ same. false≢true (sym c.if-eq.false ∙ c.eq.ensures ∙ bytes_eq-same one c.args.key.now (sym same))) in
    has_name-more names i one c.args.key.now inside (sym at) ∙ rw (c.loop-key_index.invariant, other) refl

pub returns : goal.returns
returns c =
    let names : List (List ℕ) = map (name_of c.args.keys.now) c.args.key_indices.now in
    let all : length names ≤ c.loop-key_index.key_index-index
    = omega (arith, length-map c.args.key_indices.now (name_of c.args.keys.now), c.loop-key_index-test.false) in
    sym (subst (λ (ns : List (List ℕ)). has_name ns c.args.key.now ≡ false) (take_all c.loop-key_index.key_index-index names all) c.loop-key_index.invariant)
