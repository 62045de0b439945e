use Rattle.std.proofs.Common.{ℕ, sym, ◌∙◌, arith}
use Rattle.std.specs.Prelude.{slice_index_or}
use Rattle.tcc_graph.specs.Keys.{key_at}
use Rattle.tcc_graph.proofs.Pairs.{pair_kinds}
use Rattle.tcc_least.proofs.ReadLemmas.{AreReadsAt}
use Rattle.tcc_least.proofs.RoundLemmas.{none_led}
use Rattle.tcc_least.proofs.ReturnLemmas.{read_at}
use Rattle.tcc_least.proofs.building.source_of_source.Goals as goal

pub returns-then-causal : goal.returns-then-causal
returns-then-causal c =
    let h = c.args.graph.now in
    let reads = c.reads_at-read-items.result.now in
    let are : AreReadsAt h c.args.source reads = record { value = c.reads_at-read-items.ensures.value; within = c.reads_at-read-items.ensures.within } in
    let k : ℕ = c.loop-read.read-index in
    let read : ℕ × ℕ = slice_index_or reads k (0, 0) in (
      (key_at h read.0, read_at h c.args.source reads are c.requires.source k c.loop-read-test.true),
      pair_kinds h c.args.reader read.1 (sym c.causal.ensures ∙ c.if-causal.true),
    )

pub unreachable-requires : goal.unreachable-requires
unreachable-requires c =
    let h = c.args.graph.now in
    let reads = c.reads_at-read-items.result.now in
    let are : AreReadsAt h c.args.source reads = record { value = c.reads_at-read-items.ensures.value; within = c.reads_at-read-items.ensures.within } in
    none_led h c.args.reader c.args.source reads are c.loop-read.read-index (omega (arith, c.loop-read-test.false)) c.loop-read.invariant c.requires.there
