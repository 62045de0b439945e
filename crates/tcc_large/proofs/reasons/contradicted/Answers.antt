use Rattle.std.proofs.Common.{ℕ, ◌≡◌, List, [], get_or, ap, sym, subst, ◌∙◌, arith}
use Rattle.std.proofs.lemmas.Bool.{false≢true}
use Rattle.std.proofs.lemmas.List.{length-map}
use Rattle.tcc_graph.specs.Keys.{IsWriter, key_at}
use Rattle.tcc_graph.specs.Relations.{reads_from}
use Rattle.std.specs.Prelude.{length}
use Rattle.tcc_large.proofs.ReasonLemmas.{key_read, none_contradicts, none_more}
use Rattle.tcc_large.proofs.reasons.contradicted.Goals as goal

pub loop-key_index-preserved : goal.loop-key_index-preserved
loop-key_index-preserved c =
    let h = c.args.graph.now in
    let n : ℕ = c.loop-key_index.key_index-index in
    let one : List ℕ = c.index-keys-key_index.result in
    let items = c.reads_from_at-key_index-items in
    let is : one ≡ get_or (reads_from h c.args.to c.args.reader) n []
    = key_read h c.args.to c.args.reader n items.result.now c.keys-keys.result.now one c.keys-keys.ensures items.ensures.value items.ensures.within
    c.loop-key_index-test.true c.index-keys-key_index.is in
    none_more h c.args.from (reads_from h c.args.to c.args.reader) n c.loop-key_index.invariant
    (λ writes. false≢true (sym c.if-is_writer.false ∙ c.is_writer.ensures.1 (subst (λ (z : List ℕ). IsWriter h c.args.from z) (sym is) writes)))

pub returns : goal.returns
returns c =
    let h = c.args.graph.now in
    let items = c.reads_from_at-key_index-items in
    none_contradicts h c.args.from c.args.to c.args.reader c.loop-key_index.key_index-index
    (omega (arith, ap length items.ensures.value, length-map items.result.now (key_at h), c.loop-key_index-test.false)) c.loop-key_index.invariant
