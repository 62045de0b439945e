use Rattle.std.proofs.Common.{rules, ◌≡◌, ◌∙◌, length, sym, arith, take_at}
use Rattle.tcc_clocks.specs.Needed.{HaveGrown}
use Rattle.tcc_clocks.proofs.NeededLemmas.{sources_next}
use Rattle.tcc_clocks.proofs.needed.sources_read.Goals as goal

pub loop-c-preserved : goal.loop-c-preserved
loop-c-preserved c =
    let new = c.add_sources_read.new.sources in
    let old = c.loop-c.sources.items in
    let inv = c.loop-c.invariant in
    let same : length new ≡ length old = rw c.deref_mut.ensures.value at c.add_sources_read.ensures.same in
    let grown : HaveGrown old new = rw c.deref_mut.ensures.value at c.add_sources_read.ensures.grown in
    let long : c.loop-c.sources.len ≡ length old = search rules in
    rw (take_at new _ c.loop-c.sources.len (same ∙ sym long))
    (same ∙ inv.0, sources_next c.args.graph.now c.loop-c.c old new grown inv.1 c.add_sources_read.ensures.read)

pub returns-clause-read : goal.returns-clause-read
returns-clause-read c = λ k l. c.loop-c.invariant.1 k (omega (arith, l, c.loop-c-test.false, c.count-c-end.ensures.value))
