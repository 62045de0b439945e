use Rattle.std.proofs.Common.{rules, ◌≡◌, length, refl, sym, ◌∙◌, subst, arith}
use Rattle.std.proofs.lemmas.List.{get_or_default}
use Rattle.tcc_graph.specs.Keys.{keys}
use Rattle.tcc_clocks.specs.declared.needed.KeySources.{KeySources}
use Rattle.tcc_clocks.specs.declared.needed.KeySources.TheVariants as sources
use Rattle.tcc_clocks.specs.Needed.{IsSourceOf}
use Rattle.tcc_survey.specs.private.Settled.{reading_of}
use Rattle.tcc_survey.proofs.NeededLemmas.{sources_more}
use Rattle.tcc_survey.proofs.needed.sources_by_key.Goals as goal

pub loop-read-init : goal.loop-read-init
loop-read-init c =
    let long : length c.in_ok-sources.sources.items ≡ length (keys c.args.graph.now) = search rules in
    record { long = long; each = λ k l. absurd (omega (arith, l)) }

pub loop-read-preserved : goal.loop-read-preserved
loop-read-preserved c =
    let reads = c.args.reads.now in
    let n = c.loop-read.read-index in
    let all = c.loop-read.sources.items in
    let inv = c.loop-read.invariant in
    let key = (c.requires.reads n c.loop-read-test.true).key in
    sources_more reads n (length (keys c.args.graph.now)) all inv (reading_of reads n).key_index refl key c.with.result c.with.ensures.new
    (λ a is. c.with.ensures.kept a
    (subst (λ (z : KeySources). IsSourceOf z a)
    (get_or_default all (reading_of reads n).key_index sources.Nobody c.index.result.now (omega (arith, key, inv.long)) ∙ sym c.index.ensures) is))
