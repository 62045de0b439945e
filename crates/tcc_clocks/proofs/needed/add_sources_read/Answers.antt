use Rattle.std.proofs.Common.{◌<◌, ◌∙◌, ℕ, length, get_or, set, refl, arith}
use Rattle.std.proofs.lemmas.List.{get_or-set_same, length-set}
use Rattle.tcc_clocks.specs.declared.needed.KeySources.TheVariants as sources
use Rattle.tcc_clocks.specs.Needed.{HaveGrown, IsSourceOf, sources_at}
use Rattle.tcc_clocks.proofs.NeededLemmas.{grown_by, sources_on, sources_all}
use Rattle.tcc_clocks.proofs.needed.add_sources_read.Goals as goal

pub loop-read-init : goal.loop-read-init
loop-read-init c = (refl, (λ k a is. is), λ j l. absurd (omega (arith, l)))

pub loop-read-preserved : goal.loop-read-preserved
loop-read-preserved c =
    let reads = c.reads_at-read-items.result.now in
    let n = c.loop-read.read-index in
    let all = c.loop-read.sources in
    let inv = c.loop-read.invariant in
    let i : ℕ = (get_or reads n (0, 0)).0 in
    let a : ℕ = (get_or reads n (0, 0)).1 in
    let v = c.with.result in
    let within = c.reads_at-read-items.ensures.within in
    let inside : i < length all = omega (arith, (within n (0, 0) c.loop-read-test.true).0, inv.0, c.requires.long) in
    let kept : (d : ℕ) → IsSourceOf (sources_at all i) d → IsSourceOf v d = c.with.ensures.kept in
    let grown : HaveGrown all (set all i v)
    = grown_by all i inside v kept in (
      length-set all i v ∙ inv.0,
      (λ k d is. grown k d (inv.1 k d is)),
      sources_on reads n all (set all i v) grown inv.2 (rw (get_or-set_same all i v sources.Nobody inside) c.with.ensures.new),
    )

pub returns-clause-grown : goal.returns-clause-grown
returns-clause-grown c = c.loop-read.invariant.1

pub returns-clause-read : goal.returns-clause-read
returns-clause-read c =
    let reads = c.reads_at-read-items.result.now in
    sources_all c.args.graph.now c.args.c reads c.reads_at-read-items.ensures.value c.reads_at-read-items.ensures.within c.loop-read.sources
    (λ j l. c.loop-read.invariant.2 j (omega (arith, l, c.loop-read-test.false)))
